-- What the calls of a reading say.
use Rattle.std.specs.Prelude.{◌≡◌, ℕ, List, Result, Ok, Err}
use Rattle.run_words.specs.Words.{Spells, values_of}
use Rattle.run_words.specs.declared.fault.WordsFault.{WordsFault}
use Rattle.run_words.specs.declared.fault.WordsFault.TheVariants as faults
use Rattle.run_words.specs.declared.name.Name.{Name}
use Rattle.run_words.specs.declared.given.Given.{Given}

-- What is read is as it should be; and where the words are to blame for a refusal, nothing is so.
abbrev pub Judged : {X : Type 0} → (X → Type 0) → Result X WordsFault → Type 0
Judged IsIt (Ok x) = IsIt x
Judged {X} IsIt (Err fault) = fault ≡ faults.Words → (x : X) → ¬ IsIt x

-- each name has the same values, in the same order
abbrev pub HaveSameValues : List Given → List Given → Type 0
HaveSameValues options others = (name : Name) → values_of name options ≡ values_of name others

-- the options are those that the words spell, though they may stand in another order
abbrev pub Gives : List (List ℕ) → List Given → Type 0
Gives words options = (spelled : List Given) × Spells words spelled × HaveSameValues spelled options
