-- What a run leaves of the units that a pool stood for.
use Rattle.std.specs.Prelude.{◌≡◌, ℕ, ◌≤◌, false, List, [], ◌∷◌, ◌++◌, length, take, Option, Some, None, Result, Ok, Err}
use Rattle.dasd_pool.specs.Count.{Rose}
use Rattle.dasd_pool.specs.Disk.{Image, Shape, Disk, MayLeave, LeavesOnly, Runs, none}
use Rattle.redo_core.specs.declared.control.Control.TheVariants.{Idle}
use Rattle.redo_core.specs.Format.{is_open, control_in}
use Rattle.redo_core.specs.Reading.{journal_of}
use Rattle.redo_core.specs.Faults.{HasNoSlide}
use Rattle.volume_model.specs.Unit.{UnitModel}
use Rattle.move_core.specs.declared.steps.Step.{Step}
use Rattle.move_core.specs.Facts.{Facts, HasInputs, Shown}
use Rattle.move_core.specs.Steps.{Reaches}
use Rattle.move_core.specs.Stands.{Stands, IsSettled}

-- the steps that were done, and the one that was under way
abbrev pub moves_of : List Step → Option Step → List Step
moves_of steps None = steps
moves_of steps (Some step) = steps ++ (step ∷ [])

-- an image stands for the first units after so many of the moves
pub record StandsAfter (facts : Facts) (first : List UnitModel) (moves : List Step) (count : ℕ) (image : Image) : Type 0 where
  pub within : count ≤ length moves
  pub units : List UnitModel
  pub reached : Reaches facts first (take count moves) units
  pub stands : Stands facts image units

-- after at least so many of them
abbrev pub StandsAfterMost : Facts → List UnitModel → List Step → ℕ → Image → Type 0
StandsAfterMost facts first moves least image = (count : ℕ) × (least ≤ count) × StandsAfter facts first moves count image

-- after a prefix of them
abbrev pub StandsAfterSome : Facts → List UnitModel → List Step → Image → Type 0
StandsAfterSome facts first moves image = StandsAfterMost facts first moves 0 image

-- the pool is settled for the first units after all steps, and no step is under way
pub record EndsSettled (facts : Facts) (new : Disk) (first : List UnitModel) (steps : List Step) (pending : Option Step) : Type 0 where
  pub none_pending : pending ≡ None
  pub units : List UnitModel
  pub reached : Reaches facts first steps units
  pub settled : IsSettled facts new.state units

-- A run that began on a settled pool. Whatever moment it is stopped at, what is left stands for the first units after a prefix of its
-- moves; once it has returned, after all the steps that it did. Where it ended, no step is under way, and the pool is settled. Where no slide
-- was open, none is in what is left.
pub record KeepsUnits (facts : Facts) (old new : Disk) (ended : Type 0) (first : List UnitModel) (steps : List Step) (pending : Option Step) : Type 0 where
  pub any_moment : LeavesOnly old new (StandsAfterSome facts first (moves_of steps pending))
  pub returned : (image : Image) → MayLeave new.state image → StandsAfterMost facts first (moves_of steps pending) (length steps) image
  pub settled : ended → EndsSettled facts new first steps pending
  pub closed : HasNoSlide facts.shape old.state.contents → LeavesOnly old new (HasNoSlide facts.shape)

-- so for each units that the pool may have stood for
abbrev pub KeepsEach : Facts → Disk → Disk → Type 0 → List Step → Option Step → Type 0
KeepsEach facts old new ended steps pending =
    (units : List UnitModel) → IsSettled facts old.state units → KeepsUnits facts old new ended units steps pending

-- What calls do to a pool that they were given: the shape stays, the count of faults doesn't fall and rises where they don't end, and, where
-- the pool tells, they keep the units that the pool stood for, but for the steps that they did, whatever the facts are that are allowed.
pub record AreCallsFor (allows : Facts → Type 0) (tells : Type 0) (old new : Shown) (ended : Type 0) (steps : List Step) (pending : Option Step) : Type 0 where
  pub shape : new.shape ≡ old.shape
  pub later : old.faults ≤ new.faults
  pub cause : ¬ ended → Rose old.faults new.faults
  pub keeps : tells → (facts : Facts) → facts.shape ≡ old.shape → allows facts → KeepsEach facts old.disk new.disk ended steps pending

-- An opening has nothing to write: the gate is closed, and no slide is open.
pub record IsFinished (shape : Shape) (image : Image) : Type 0 where
  pub gate : is_open (image (journal_of shape) 1) ≡ false
  pub control : control_in (image (journal_of shape) 2) ≡ Idle

-- What a function of a run does: the same, and where it did no step, none is under way, and there was nothing to finish before, it wrote nothing.
pub record IsRunFor (allows : Facts → Type 0) (tells : Type 0) (old new : Shown) (ended : Type 0) (steps : List Step) (pending : Option Step) : Type 0 where
  pub shape : new.shape ≡ old.shape
  pub later : old.faults ≤ new.faults
  pub cause : ¬ ended → Rose old.faults new.faults
  pub keeps : tells → (facts : Facts) → facts.shape ≡ old.shape → allows facts → KeepsEach facts old.disk new.disk ended steps pending
  pub still : tells → IsFinished old.shape old.disk.state.contents → steps ≡ [] → pending ≡ None → Runs none old.disk new.disk

-- so whatever the inputs hold
abbrev pub AreCalls : Type 0 → Shown → Shown → Type 0 → List Step → Option Step → Type 0
AreCalls tells old new ended steps pending = AreCallsFor (HasInputs None) tells old new ended steps pending

abbrev pub IsRun : Type 0 → Shown → Shown → Type 0 → List Step → Option Step → Type 0
IsRun tells old new ended steps pending = IsRunFor (HasInputs None) tells old new ended steps pending

-- a call has ended where it answered Ok
abbrev pub Ended : {T E : Type 0} → Result T E → Type 0
Ended (Ok value) = Unit {0}
Ended (Err fault) = ⊥
