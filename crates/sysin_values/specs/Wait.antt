-- What is read of the numbers of WAIT so far.
use Rattle.std.specs.Prelude.{◌≡◌, ◌⊎◌, ℕ, Bool, List, [], ◌∷◌}
use Rattle.sysin_text.specs.declared.token.Token.{Token}
use Rattle.sysin_text.specs.declared.token.Token.TheVariants as tokens
use Rattle.sysin_values.specs.declared.fault.ValueFault.{ValueFault}
use Rattle.sysin_values.specs.declared.fault.ValueFault.TheVariants as faults
use Rattle.sysin_values.specs.declared.place.WaitPlace.{WaitPlace}
use Rattle.sysin_values.specs.declared.place.WaitPlace.TheVariants as places
use Rattle.sysin_values.specs.Values.{SaysNumber, IsWaiting}
use Rattle.sysin_values.specs.NoValue.{SaysNone}
use Rattle.sysin_values.specs.Pairs.{IsWordToken}

-- a number's word
abbrev pub SaysWait : List ℕ → ℕ → Type 0
SaysWait = SaysNumber 0 4294967295

-- which kind of token may stand
abbrev pub WaitFits : WaitPlace → Token → Type 0
WaitFits places.First token = IsWordToken token
WaitFits places.Between token = token ≡ tokens.Comma
WaitFits places.Second token = IsWordToken token
WaitFits places.Ended token = ⊥

pub record NumberToken (token : Token) : Type 0 where
  pub word : List ℕ
  pub number : ℕ
  pub sign : token ≡ tokens.Word word
  pub says : SaysWait word number

-- what is read with one more token, where it is right
abbrev pub WaitGoes : WaitPlace → Token → WaitPlace → Type 0
WaitGoes places.First token new = NumberToken token × (new ≡ places.Between)
WaitGoes places.Between token new = (token ≡ tokens.Comma) × (new ≡ places.Second)
WaitGoes places.Second token new = NumberToken token × (new ≡ places.Ended)
WaitGoes places.Ended token new = ⊥

-- a word that says no number
pub record NumbersNone (token : Token) : Type 0 where
  pub word : List ℕ
  pub sign : token ≡ tokens.Word word
  pub none : SaysNone SaysWait word

abbrev pub WantsNumber : WaitPlace → Type 0
WantsNumber place = (place ≡ places.First) ⊎ (place ≡ places.Second)

-- why a token is wrong
abbrev pub WaitStops : WaitPlace → Token → ValueFault → Type 0
WaitStops old token faults.Value = WantsNumber old × NumbersNone token
WaitStops old token faults.Word = ¬ WaitFits old token
WaitStops old token _ = ⊥

-- the tokens that lead to this
abbrev pub WaitReads : WaitPlace → List Token → Type 0
WaitReads places.First text = text ≡ []
WaitReads places.Between text = (word : List ℕ) × (number : ℕ) × (text ≡ tokens.Word word ∷ []) × SaysWait word number
WaitReads places.Second text = (word : List ℕ) × (number : ℕ) × (text ≡ tokens.Word word ∷ tokens.Comma ∷ []) × SaysWait word number
WaitReads places.Ended text =
    (word : List ℕ) × (number : ℕ) × (other : List ℕ) × (second : ℕ) × (text ≡ tokens.Word word ∷ tokens.Comma ∷ tokens.Word other ∷ [])
    × SaysWait word number × SaysWait other second

-- both numbers, of which nothing is kept
abbrev pub SpellsWait : Bool → Unit {0} → List Token → Type 0
SpellsWait limited nothing text = IsWaiting text

abbrev pub WaitGives : WaitPlace → Unit {0} → Type 0
WaitGives place nothing = place ≡ places.Ended
