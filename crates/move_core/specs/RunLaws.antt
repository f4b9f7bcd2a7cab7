-- How runs follow one another.
use Rattle.std.specs.Prelude.{◌≡◌, ℕ, ◌≤◌, List, [], ◌∷◌, ◌++◌, Bool, Option, Some, None}
use Rattle.dasd_pool.specs.Count.{Rose}
use Rattle.dasd_pool.specs.Disk.{Image, LeavesOnly, Runs, none}
use Rattle.redo_core.specs.declared.entries.Entry.{Entry}
use Rattle.redo_core.specs.Faults.{HasNoSlide}
use Rattle.redo_core.specs.Phases.{OldOrNew, IsCommitted}
use Rattle.volume_model.specs.Unit.{UnitModel}
use Rattle.move_core.specs.declared.steps.Step.{Step}
use Rattle.move_core.specs.Facts.{Facts, Inputs, HasInputs, Shown}
use Rattle.move_core.specs.Stands.{AreUnused, IsSettled}
use Rattle.move_core.specs.Runs.{moves_of, StandsAfterSome, AreCallsFor, IsRunFor, AreCalls, IsRun}
use Rattle.move_core.specs.Taking.{IsQuiet, TakeUnitsFor, KeepUnits}

-- One run that ended, and then another, are a run of the steps of both. What was under way in the second is under way.
abbrev pub RunThen : Type 0 → Shown → Shown → Shown → Type 0 → Type 0 → Type 0
RunThen tells old mid new ended later =
    (inputs : Option Inputs) (steps more : List Step) (pending : Option Step) → IsRunFor (HasInputs inputs) tells old mid ended steps None → ended → IsRunFor (HasInputs inputs) tells mid new later more pending
    → IsRunFor (HasInputs inputs) tells old new later (steps ++ more) pending

-- So do calls.
abbrev pub CallsThen : Type 0 → Shown → Shown → Shown → Type 0 → Type 0 → Type 0
CallsThen tells old mid new ended later =
    (inputs : Option Inputs) (steps more : List Step) (pending : Option Step) → AreCallsFor (HasInputs inputs) tells old mid ended steps None → ended
    → AreCallsFor (HasInputs inputs) tells mid new later more pending → AreCallsFor (HasInputs inputs) tells old new later (steps ++ more) pending

-- A run is what calls do, and calls that did a step, or have one under way, are a run. So are calls behind a run, and a run behind calls.
abbrev pub RunsAndCalls : Type 0 → Shown → Shown → Type 0 → Type 0
RunsAndCalls tells old new ended =
    (inputs : Option Inputs) (steps : List Step) (pending : Option Step)
    → (IsRunFor (HasInputs inputs) tells old new ended steps pending → AreCallsFor (HasInputs inputs) tells old new ended steps pending)
    × (AreCallsFor (HasInputs inputs) tells old new ended steps pending → (steps ≡ [] → pending ≡ None → ⊥) → IsRunFor (HasInputs inputs) tells old new ended steps pending)

-- What is a run whatever the inputs hold is one where they hold this.
abbrev pub RunAllows : Type 0 → Shown → Shown → Type 0 → Type 0
RunAllows tells old new ended =
    (inputs : Option Inputs) (steps : List Step) (pending : Option Step) → IsRun tells old new ended steps pending → IsRunFor (HasInputs inputs) tells old new ended steps pending

-- Calls that write nothing are a run of no step.
abbrev pub RunStill : Type 0 → Shown → Shown → Type 0 → Type 0
RunStill tells old new ended =
    new.shape ≡ old.shape → old.faults ≤ new.faults → (¬ ended → Rose old.faults new.faults) → (tells → Runs none old.disk new.disk) → IsRun tells old new ended [] None

-- Calls that write only blocks on which no meaning rests keep the units, without a step.
abbrev pub RunQuiet : Type 0 → Shown → Shown → Type 0 → Type 0
RunQuiet tells old new ended =
    (may : ℕ → ℕ → Bool) → new.shape ≡ old.shape → old.faults ≤ new.faults → (¬ ended → Rose old.faults new.faults)
    → (tells → (facts : Facts) (units : List UnitModel) → facts.shape ≡ old.shape → (settled : IsSettled facts old.disk.state units)
    → AreUnused may facts.shape settled.stands.reading settled.stands.means.found)
    → (tells → Runs may old.disk new.disk) → AreCalls tells old new ended [] None

-- With a run behind them that did a step, or has one under way, they are a run of its steps.
abbrev pub RunBehind : Type 0 → Shown → Shown → Shown → Type 0 → Type 0 → Type 0
RunBehind tells old mid new ended later =
    (inputs : Option Inputs) (steps : List Step) (pending : Option Step) → AreCallsFor (HasInputs inputs) tells old mid ended [] None → ended → IsRunFor (HasInputs inputs) tells mid new later steps pending
    → (steps ≡ [] → pending ≡ None → ⊥) → IsRunFor (HasInputs inputs) tells old new later steps pending

-- The last step of a run that ended turns out to be under way: the pool failed behind it.
abbrev pub RunDemoted : Type 0 → Shown → Shown → Type 0 → Type 0 → Type 0
RunDemoted tells old new ended later =
    (inputs : Option Inputs) (steps : List Step) (step : Step) → ¬ later → Rose old.faults new.faults → IsRunFor (HasInputs inputs) tells old new ended (steps ++ (step ∷ [])) None
    → IsRunFor (HasInputs inputs) tells old new later steps (Some step)

-- A commit whose entries take the units by a step is a run of that step; where it failed, the step is under way.
abbrev pub RunSwitched : Type 0 → Shown → Shown → Type 0 → Type 0
RunSwitched tells old new ended =
    (inputs : Option Inputs) (step : Step) (room : ℕ) (fills : List Bool) (entries : List Entry) → new.shape ≡ old.shape → old.faults ≤ new.faults
    → (tells → IsQuiet old.shape old.disk.state room fills) → (tells → TakeUnitsFor (HasInputs inputs) old.shape room fills old.disk.state.contents step entries)
    → (tells → LeavesOnly old.disk new.disk (OldOrNew old.shape old.disk.state entries))
    → (ended → (tells → IsCommitted old.shape old.disk.state entries new.disk.state) → IsRunFor (HasInputs inputs) tells old new ended (step ∷ []) None)
    × (¬ ended → Rose old.faults new.faults → IsRunFor (HasInputs inputs) tells old new ended [] (Some step))

-- A commit whose entries keep the units is no step, whether it failed or not.
abbrev pub RunKept : Type 0 → Shown → Shown → Type 0 → Type 0
RunKept tells old new ended =
    (inputs : Option Inputs) (entries : List Entry) → new.shape ≡ old.shape → old.faults ≤ new.faults
    → (tells → KeepUnits (HasInputs inputs) old.shape old.disk.state entries) → (tells → LeavesOnly old.disk new.disk (OldOrNew old.shape old.disk.state entries))
    → (ended → (tells → IsCommitted old.shape old.disk.state entries new.disk.state) → AreCallsFor (HasInputs inputs) tells old new ended [] None)
    × (¬ ended → Rose old.faults new.faults → AreCallsFor (HasInputs inputs) tells old new ended [] None)

-- Over a settled pool that tells, whatever moment since its beginning a run is stopped at, what is left stands for the first units after a
-- prefix of its moves; and where no slide was open, none is open in what is left.
abbrev pub RunStops : Type 0 → Shown → Shown → Type 0 → Type 0
RunStops tells old new ended =
    (inputs : Option Inputs) (steps : List Step) (pending : Option Step) → IsRunFor (HasInputs inputs) tells old new ended steps pending → tells
    → (facts : Facts) (units : List UnitModel) → facts.shape ≡ old.shape → HasInputs inputs facts → IsSettled facts old.disk.state units
    → (image : Image) → new.disk.left_since old.disk.moment image
    → StandsAfterSome facts units (moves_of steps pending) image × (HasNoSlide facts.shape old.disk.state.contents → HasNoSlide facts.shape image)
