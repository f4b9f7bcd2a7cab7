-- What is read of a list of words so far.
use Rattle.std.specs.Prelude.{◌≡◌, ◌⊎◌, ℕ, ◌≤◌, ◌<◌, Bool, true, false, List, [], ◌∷◌, ◌++◌, length}
use Rattle.sysin_text.specs.declared.token.Token.{Token}
use Rattle.sysin_text.specs.declared.token.Token.TheVariants as tokens
use Rattle.sysin_values.specs.declared.fault.ValueFault.{ValueFault}
use Rattle.sysin_values.specs.declared.fault.ValueFault.TheVariants as faults
use Rattle.sysin_values.specs.Series.{IsListOf, IsBefore}
use Rattle.sysin_values.specs.Values.{IsWordOf}

-- the entries, and whether another is wanted
pub record Progress (X : Type 0) : Type 0 where
  pub list : List X
  pub wants : Bool

abbrev pub start : {X : Type 0} → Progress X
start = record { list = []; wants = true }

-- a word that is one more entry, a comma behind an entry
pub record IsEntry {X : Type 0} (Says : List ℕ → X → Type 0) (most : ℕ) (old : Progress X) (token : Token) (new : Progress X) : Type 0 where
  pub word : List ℕ
  pub entry : X
  pub wanted : old.wants ≡ true
  pub few : length old.list < most
  pub sign : token ≡ tokens.Word word
  pub says : Says word entry
  pub list : new.list ≡ old.list ++ entry ∷ []
  pub wants : new.wants ≡ false

pub record IsComma {X : Type 0} (old : Progress X) (token : Token) (new : Progress X) : Type 0 where
  pub unwanted : old.wants ≡ false
  pub sign : token ≡ tokens.Comma
  pub list : new.list ≡ old.list
  pub wants : new.wants ≡ true

-- what is read with one more token, where it is right
abbrev pub Goes : {X : Type 0} → (List ℕ → X → Type 0) → ℕ → Progress X → Token → Progress X → Type 0
Goes Says most old token new = IsEntry Says most old token new ⊎ IsComma old token new

-- why a token is wrong
abbrev pub Stops : {X : Type 0} → (List ℕ → X → Type 0) → ℕ → Progress X → Token → ValueFault → Type 0
Stops Says most old token faults.Count = (old.wants ≡ true) × (most ≤ length old.list) × (word : List ℕ) × (token ≡ tokens.Word word)
Stops {X} Says most old token faults.Value =
    (old.wants ≡ true) × (length old.list < most) × (word : List ℕ) × (token ≡ tokens.Word word) × ((entry : X) → ¬ Says word entry)
Stops Says most old token faults.Word =
    ((old.wants ≡ true) × ((word : List ℕ) → ¬ (token ≡ tokens.Word word))) ⊎ ((old.wants ≡ false) × ¬ (token ≡ tokens.Comma))
Stops Says most old token faults.NoMemory = Unit {0}

-- the tokens that lead to this: entries, or nothing or a comma behind which another is wanted
abbrev pub Reads : {X : Type 0} → (List ℕ → X → Type 0) → ℕ → Progress X → List Token → Type 0
Reads Says most progress text =
    (length progress.list ≤ most)
    × (((progress.wants ≡ false) × IsListOf (IsWordOf Says) progress.list text) ⊎ ((progress.wants ≡ true) × IsBefore (IsWordOf Says) progress.list text))

-- the entries, where the list may end
abbrev pub Gives : {X : Type 0} → Progress X → List X → Type 0
Gives progress list = (progress.wants ≡ false) × (progress.list ≡ list)
