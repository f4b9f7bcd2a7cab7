-- Tokens that are of several things.
use Rattle.std.specs.Prelude.{◌≡◌, ◌⊎◌, ℕ, ◌≤◌, Bool, IsTrue, List, [], ◌∷◌, ◌++◌, length}
use Rattle.sysin_text.specs.declared.token.Token.{Token}
use Rattle.sysin_text.specs.declared.token.Token.TheVariants as tokens

-- one or more things, with a comma between each two
abbrev pub IsListOf : {X : Type 0} → (X → List Token → Type 0) → List X → List Token → Type 0
IsListOf Spells [] text = ⊥
IsListOf Spells (x ∷ []) text = Spells x text
IsListOf Spells (x ∷ next ∷ more) text =
    (first : List Token) × (rest : List Token) × (text ≡ first ++ tokens.Comma ∷ rest) × Spells x first × IsListOf Spells (next ∷ more) rest

-- where lists have a limit they have no more things than it
abbrev pub IsFew : {X : Type 0} → Bool → ℕ → List X → Type 0
IsFew limited most list = IsTrue limited → length list ≤ most

-- no things and no tokens, or things and a comma behind them: a thing may stand next
abbrev pub IsBefore : {X : Type 0} → (X → List Token → Type 0) → List X → List Token → Type 0
IsBefore Spells list text =
    ((list ≡ []) × (text ≡ [])) ⊎ ((front : List Token) × (text ≡ front ++ tokens.Comma ∷ []) × IsListOf Spells list front)
