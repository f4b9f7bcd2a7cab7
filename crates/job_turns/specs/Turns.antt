-- Statements that go through what they selected, one after the other: data sets by their names, or parts of a dump.
use Rattle.std.specs.Prelude.{◌≡◌, ◌⊎◌, List, [], ◌∷◌, ◌++◌, Option, None}
use Rattle.volume_model.specs.Unit.{UnitModel}
use Rattle.move_core.specs.declared.steps.Step.{Step}
use Rattle.move_core.specs.Facts.{Facts}
use Rattle.move_core.specs.Runs.{moves_of}
use Rattle.move_core.specs.Steps.{Reaches}
use Rattle.job_lines.specs.declared.message.Message.{Message}

-- What is done and said to units: its steps, and its messages.
abbrev pub Action : Type 1
Action = List UnitModel → List Step → List Message → Type 0

-- A turn that ended, and the units behind it.
pub record TurnEnds {K : Type 0} (facts : Facts) (Turn : K → Action) (units : List UnitModel) (name : K) (done : List Step) (said : List Message) (after : List UnitModel) : Type 0 where
  pub means : Turn name units done said
  pub reached : Reaches facts units done after

-- Turns of several, each judged on the units as they are at its time.
abbrev pub Turns : {K : Type 0} → Facts → (K → Action) → List K → Action
Turns facts Turn [] units steps messages = (steps ≡ []) × (messages ≡ [])
Turns facts Turn (name ∷ names) units steps messages =
    (done more : List Step) × (said told : List Message) × (after : List UnitModel) × TurnEnds facts Turn units name done said after
    × Turns facts Turn names after more told × (steps ≡ done ++ more) × (messages ≡ said ++ told)

-- ---- what is cut

-- An action that was cut: before its first step, or somewhere within its steps, of which the next may be under way.
abbrev pub IsCutAction : Action → List UnitModel → List Step → Option Step → Type 0
IsCutAction Means units steps pending =
    ((steps ≡ []) × (pending ≡ None))
    ⊎ ((all rest : List Step) × (said : List Message) × Means units all said × (all ≡ moves_of steps pending ++ rest))

-- turns of which one was cut: those before it ended
abbrev pub AreCutTurns : {K : Type 0} → Facts → (K → Action) → List K → List UnitModel → List Step → Option Step → Type 0
AreCutTurns facts Turn [] units steps pending = (steps ≡ []) × (pending ≡ None)
AreCutTurns facts Turn (name ∷ names) units steps pending =
    IsCutAction (Turn name) units steps pending
    ⊎ ((done more : List Step) × (said : List Message) × (after : List UnitModel) × TurnEnds facts Turn units name done said after
    × AreCutTurns facts Turn names after more pending × (steps ≡ done ++ more))
