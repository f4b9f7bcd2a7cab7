-- The first tokens of values.
use Rattle.std.specs.Prelude.{◌≡◌, ◌⊎◌, Bool, true, false, List, [], ◌∷◌, ◌++◌}
use Rattle.sysin_text.specs.declared.token.Token.{Token}
use Rattle.sysin_text.specs.declared.token.Token.TheVariants as tokens

-- with more behind them the tokens spell a value; its lists may have a limit
abbrev pub CanGoOn : {X : Type 0} → (Bool → X → List Token → Type 0) → Bool → List Token → Type 0
CanGoOn {X} Spells limited text = (rest : List Token) × (value : X) × Spells limited value (text ++ rest)

-- tokens that can go on and a comma behind them, as where a list is full: a longer list goes on, and not the comma is wrong
pub record EndWithComma {X : Type 0} (Spells : Bool → X → List Token → Type 0) (text : List Token) : Type 0 where
  pub front : List Token
  pub comma : text ≡ front ++ tokens.Comma ∷ []
  pub before : CanGoOn Spells true front
  pub longer : CanGoOn Spells false text

-- no token of these is wrong
abbrev pub Begin : {X : Type 0} → (Bool → X → List Token → Type 0) → List Token → Type 0
Begin Spells text = CanGoOn Spells true text ⊎ EndWithComma Spells text
