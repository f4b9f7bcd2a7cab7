-- A step that may be planned takes its texts from units.
use Rattle.std.proofs.Common.{ℕ, List}
use Rattle.unit_load.specs.declared.state.UnitState.{UnitState}
use Rattle.move_core.specs.declared.steps.Origin.TheVariants as origins
use Rattle.move_core.specs.declared.steps.Step.{Step}
use Rattle.move_core.specs.declared.steps.Step.TheVariants as steps
use Rattle.step_room.specs.unit_steps.Plans.{IsOfUnits}
use Rattle.job_acts.specs.Making.{MayPlan}

pub of_units : (room : ℕ) (units : List UnitState) (step : Step) → MayPlan room units step → IsOfUnits step
of_units room units (steps.Move unit name to) may = tt
of_units room units (steps.Shrink unit name keep) may = tt
of_units room units (steps.Add unit name to (origins.Row from old)) may = tt
of_units room units (steps.Add unit name to (origins.Part input number)) may = absurd may
of_units room units (steps.Replace unit name to (origins.Row from old)) may = tt
of_units room units (steps.Replace unit name to (origins.Part input number)) may = absurd may
of_units room units (steps.Delete unit name) may = tt
of_units room units (steps.Carry from old unit name to replaced) may = tt
of_units room units (steps.ResetFlag unit name) may = tt
of_units room units (steps.Repair unit) may = tt
of_units room units (steps.FillStart unit input) may = tt
of_units room units (steps.FillEnd unit input) may = tt
