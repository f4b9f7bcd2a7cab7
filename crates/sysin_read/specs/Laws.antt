-- What holds of texts whatever reads them.
use Rattle.std.specs.Prelude.{◌≡◌, ℕ, true, List, [], ◌∷◌, ◌++◌}
use Rattle.sysin_text.specs.declared.token.Placed.{Placed}
use Rattle.sysin_lang.specs.declared.script.Step.{Step}
use Rattle.sysin_lang.specs.Flow.{Plan}
use Rattle.sysin_lang.specs.Script.{plan_of}
use Rattle.sysin_read.specs.declared.fault.Why.{Why}
use Rattle.sysin_read.specs.declared.fault.SysinFault.TheVariants as faults
use Rattle.sysin_read.specs.declared.text.TextReading.{TextReading}
use Rattle.sysin_read.specs.Statement.{IsText}
use Rattle.sysin_read.specs.Reading.{TextReads}
use Rattle.sysin_read.specs.Why.{TextStops}
use Rattle.sysin_read.specs.Progress.{TextGoes, TextGives}
use Rattle.sysin_read.specs.Refusal.{Begin, IsRefusal}

-- Texts are read exactly, token by token.
pub record TextsAreExact : Type 0 where
  pub goes : (old new : TextReading) (front : List Placed) (placed : Placed) → TextReads old front → TextGoes old placed new → TextReads new (front ++ placed ∷ [])
  -- what is given is spelled, and where a text is spelled one is given
  pub spelled : (reading : TextReading) (front : List Placed) (steps : List Step) → TextReads reading front → TextGives reading steps → IsText true (plan_of steps) front
  pub given : (reading : TextReading) (front : List Placed) (plan : Plan) → TextReads reading front → IsText true plan front → (steps : List Step) × TextGives reading steps
  -- the tokens that are read are right, and the one that is refused is not
  pub right : (reading : TextReading) (front : List Placed) → TextReads reading front → Begin front
  pub wrong : (reading : TextReading) (front : List Placed) (placed : Placed) (why : Why) → TextReads reading front → TextStops reading placed why → ¬ Begin (front ++ placed ∷ [])

-- tokens spell one text at most
abbrev pub TextsAreOne : Type 0
TextsAreOne = (left right : Plan) (list : List Placed) → IsText true left list → IsText true right list → left ≡ right

-- tokens that spell a text are refused nowhere
abbrev pub TextsAreNotRefused : Type 0
TextsAreNotRefused =
    (plan : Plan) (list : List Placed) (line column : ℕ) (why : Why) → IsText true plan list → ¬ IsRefusal list (faults.BadStatement line column why)

-- tokens are refused at one line and column at most, and for one reason
abbrev pub TextsAreRefusedOnce : Type 0
TextsAreRefusedOnce =
    (list : List Placed) (line column other_line other_column : ℕ) (why other : Why) → IsRefusal list (faults.BadStatement line column why)
    → IsRefusal list (faults.BadStatement other_line other_column other) → (line ≡ other_line) × (column ≡ other_column) × (why ≡ other)
