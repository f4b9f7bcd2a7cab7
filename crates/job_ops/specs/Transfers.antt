-- A data set that is copied, and deleted where that is asked: its steps, and when they may be done.
use Rattle.std.specs.Prelude.{◌≡◌, ◌≢◌, ℕ, ◌==◌, Bool, true, false, not, if◌then◌else◌, List, [], ◌∷◌, ◌++◌, Result}
use Rattle.dasd_pool.specs.declared.pool.Pool.{Ghosts}
use Rattle.unit_load.specs.declared.state.UnitState.{UnitState}
use Rattle.move_core.specs.declared.steps.Step.{Step}
use Rattle.move_core.specs.declared.steps.Step.TheVariants as steps
use Rattle.dump_sets.specs.job_turns.job_steps.unit_session.Sessions.{SessionView}
use Rattle.dump_sets.specs.job_turns.job_steps.declared.cut.Cut.{Cut}
use Rattle.dump_sets.specs.job_turns.job_acts.declared.acts.Acted.{Acted}
use Rattle.dump_sets.specs.job_turns.job_acts.Making.{MayBeChanged, MayPut, put_step, repair_steps}
use Rattle.dump_sets.specs.job_turns.job_acts.Acting.{EndsActs}
use Rattle.job_ops.specs.declared.transfer.Transfer.{Transfer}
use Rattle.dump_sets.specs.job_turns.Stating.{due}
use Rattle.job_ops.specs.Copy.{lower_first}

-- ---- its steps

-- its copy goes to another unit in the step that deletes it
abbrev pub is_carried : Transfer → Bool
is_carried transfer = if transfer.delete then not (transfer.from.unit == transfer.to.unit) else false

-- it is deleted in a step of its own
abbrev pub is_deleted : Transfer → Bool
is_deleted transfer = if transfer.delete then transfer.from.unit == transfer.to.unit else false

-- the step that puts the copy
abbrev pub copying_step : Transfer → Step
copying_step transfer =
    if is_carried transfer then steps.Carry transfer.from.unit transfer.from.name transfer.to.unit transfer.to.name transfer.runs transfer.replaced
    else put_step transfer.from.unit transfer.from.name transfer.to.unit transfer.to.name transfer.runs transfer.replaced

-- the units whose volumes are changed and whose free space is to be stated before, the lower one first
abbrev pub units_due : List UnitState → Transfer → List ℕ
units_due units transfer =
    if is_carried transfer then lower_first transfer.from.unit transfer.to.unit (due units transfer.from.unit) (due units transfer.to.unit)
    else due units transfer.to.unit

-- the repairs, and the step that puts the copy: there has to be room for each of them
abbrev pub first_steps : List UnitState → Transfer → List Step
first_steps units transfer = repair_steps (units_due units transfer) ++ (copying_step transfer ∷ [])

-- a data set that stays on its unit is deleted once its copy stands
abbrev pub last_steps : Transfer → List Step
last_steps transfer = if is_deleted transfer then steps.Delete transfer.from.unit transfer.from.name ∷ [] else []

abbrev pub steps_of_transfer : List UnitState → Transfer → List Step
steps_of_transfer units transfer = first_steps units transfer ++ last_steps transfer

-- ---- before

-- Its copy can be put, the volumes that are changed may be, and on its own unit it has another name than its copy.
pub record MayTransfer (room : ℕ) (units : List UnitState) (transfer : Transfer) : Type 0 where
  pub put : MayPut room units transfer.from.unit transfer.from.name transfer.to.unit transfer.to.name transfer.runs transfer.replaced
  pub may_source : transfer.delete ≡ true → MayBeChanged room units transfer.from.unit
  pub apart : transfer.from.unit ≡ transfer.to.unit → transfer.to.name ≢ transfer.from.name

-- ---- behind

abbrev pub EndsTransfer : {P : Type 0} → Ghosts P → SessionView P → Transfer → List Step → List Step → Result (Acted P) (Cut P) → Type 0
EndsTransfer pools session transfer before after result =
    EndsActs pools session (steps_of_transfer session.units transfer) (first_steps session.units transfer) before after result
