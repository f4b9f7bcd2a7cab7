-- What it means that values are read token by token, exactly.
use Rattle.std.specs.Prelude.{◌≡◌, ◌⊎◌, ℕ, Bool, true, false, List, [], ◌∷◌, ◌++◌}
use Rattle.sysin_text.specs.declared.token.Token.{Token}
use Rattle.sysin_text.specs.declared.token.Token.TheVariants as tokens
use Rattle.sysin_values.specs.declared.fault.ValueFault.{ValueFault}
use Rattle.sysin_values.specs.declared.fault.ValueFault.TheVariants as faults
use Rattle.sysin_values.specs.Begun.{CanGoOn, Begin}

-- of what is read so far: how it begins, goes on with a token, stops at one and gives a value, and to which tokens it belongs
pub record IsExact {X M : Type 0} (Spells : Bool → X → List Token → Type 0) (start : M) (Goes : M → Token → M → Type 0) (Stops : M → Token → ValueFault → Type 0)
    (Gives : M → X → Type 0) (Reads : M → List Token → Type 0) : Type 0 where
  pub begins : Reads start []
  pub goes : (old new : M) (text : List Token) (token : Token) → Reads old text → Goes old token new → Reads new (text ++ token ∷ [])
  -- what is given is spelled, and what is spelled is given
  pub spelled : (progress : M) (text : List Token) (value : X) → Reads progress text → Gives progress value → Spells true value text
  pub given : (progress : M) (text : List Token) (value : X) → Reads progress text → Spells true value text → Gives progress value
  -- the tokens that are read are right, and the one that is refused is not
  pub right : (progress : M) (text : List Token) → Reads progress text → Begin Spells text
  pub wrong : (progress : M) (text : List Token) (token : Token) (fault : ValueFault) → Reads progress text → Stops progress token fault → ¬ (fault ≡ faults.NoMemory)
      → ¬ Begin Spells (text ++ token ∷ [])

-- tokens spell one value at most
abbrev pub OneValue : {X : Type 0} → (Bool → X → List Token → Type 0) → Type 0
OneValue {X} Spells = (left right : X) (text : List Token) → Spells true left text → Spells true right text → left ≡ right

-- a bracket ends a value: none goes on with it
abbrev pub EndsAtClose : {X : Type 0} → (Bool → X → List Token → Type 0) → Type 0
EndsAtClose {X} Spells = (value : X) (text : List Token) → Spells true value text → ¬ Begin Spells (text ++ tokens.Close ∷ [])

-- but for the letters of a word the token is right; lists may have a limit
abbrev pub MayStand : {X : Type 0} → (Bool → X → List Token → Type 0) → Bool → List Token → Token → Type 0
MayStand Spells limited text token =
    ((word : List ℕ) × (other : List ℕ) × (token ≡ tokens.Word word) × CanGoOn Spells limited (text ++ tokens.Word other ∷ [])) ⊎ CanGoOn Spells limited (text ++ token ∷ [])

-- why a token is wrong: only the limit of a list forbids it, only the letters of the word are wrong, or no such token may stand
abbrev pub IsWhy : {X : Type 0} → (Bool → X → List Token → Type 0) → List Token → Token → ValueFault → Type 0
IsWhy Spells text token faults.Count = MayStand Spells false text token × ¬ MayStand Spells true text token
IsWhy Spells text token faults.Value = MayStand Spells true text token × (word : List ℕ) × (token ≡ tokens.Word word)
IsWhy Spells text token faults.Word = ¬ MayStand Spells false text token
IsWhy Spells text token faults.NoMemory = Unit {0}

abbrev pub TellsWhy : {X M : Type 0} → (Bool → X → List Token → Type 0) → (M → Token → ValueFault → Type 0) → (M → List Token → Type 0) → Type 0
TellsWhy {X} {M} Spells Stops Reads =
    (progress : M) (text : List Token) (token : Token) (fault : ValueFault) → Reads progress text → Stops progress token fault → IsWhy Spells text token fault
