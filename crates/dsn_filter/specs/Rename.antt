-- What a rename makes of a name.
use Rattle.std.specs.Prelude.{◌≡◌, ◌≢◌, ℕ, ◌⊎◌, List, [], ◌∷◌, All}
use Rattle.dsn_filter.specs.declared.dsn.Dsn.{Dsn}
use Rattle.dsn_filter.specs.declared.rename.Rename.{Rename}
use Rattle.dsn_filter.specs.declared.rename.Rename.TheVariants.{Keep, Prefix, Listed}
use Rattle.dsn_filter.specs.Text.{dotted}
use Rattle.dsn_filter.specs.Qualifier.{IsQualifier}
use Rattle.dsn_filter.specs.Dsn.{text_of, dsn_of, qualifiers_of, IsDsn}

-- a prefix is one qualifier
abbrev pub IsPrefix : Dsn → Type 0
IsPrefix prefix = (qualifier : List ℕ) × IsQualifier qualifier × (prefix ≡ dsn_of qualifier)

-- a prefix is one, and the names of pairs are names
abbrev pub IsRename : Rename → Type 0
IsRename Keep = Unit {0}
IsRename (Prefix prefix) = IsPrefix prefix
IsRename (Listed pairs) = All (λ pair. IsDsn pair.0 × IsDsn pair.1) pairs

-- a prefix stands for the first of several qualifiers, and before one alone
abbrev pub with_prefix : List ℕ → List (List ℕ) → List (List ℕ)
with_prefix prefix [] = prefix ∷ []
with_prefix prefix (first ∷ []) = prefix ∷ first ∷ []
with_prefix prefix (first ∷ second ∷ rest) = prefix ∷ second ∷ rest

-- the new name of the first pair whose old name is equal, else the name itself
abbrev pub IsListed : List (Dsn × Dsn) → Dsn → Dsn → Type 0
IsListed [] name new = new ≡ name
IsListed (pair ∷ pairs) name new = ((pair.0 ≡ name) × (new ≡ pair.1)) ⊎ ((pair.0 ≢ name) × IsListed pairs name new)

-- the characters of the new name, which may be too many
abbrev pub Renames : Rename → Dsn → List ℕ → Type 0
Renames Keep name text = text ≡ text_of name
Renames (Prefix prefix) name text = text ≡ dotted (with_prefix (text_of prefix) (qualifiers_of name))
Renames (Listed pairs) name text = (new : Dsn) × IsListed pairs name new × (text ≡ text_of new)
