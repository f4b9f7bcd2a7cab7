-- Which bytes may stand behind which: words of the scan.
use Rattle.std.specs.Prelude.{◌≡◌, ◌≢◌, ℕ, ◌<◌, ◌⊎◌, List, [], ◌∷◌, ◌++◌, length}
use Rattle.dsn_filter.specs.declared.part.Kind.{Kind}
use Rattle.dsn_filter.specs.declared.part.Kind.TheVariants.{Name, Pattern}
use Rattle.dsn_filter.specs.Qualifier.{IsQualifier, IsPatternPart}

-- the form of the qualifiers of a text of this kind
abbrev pub form_of : Kind → List ℕ → Type 0
form_of Name = IsQualifier
form_of Pattern = IsPatternPart

-- behind so many characters, the last of them this begun qualifier, a byte may stand: a dot with room for one more, or what goes on with it
abbrev pub Continues : (List ℕ → Type 0) → List ℕ → ℕ → ℕ → Type 0
Continues Form part before byte = ((byte ≡ 46) × (0 < length part) × (before < 43)) ⊎ ((byte ≢ 46) × (before < 44) × Form (part ++ (byte ∷ [])))
