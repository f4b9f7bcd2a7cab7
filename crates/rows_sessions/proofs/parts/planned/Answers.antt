use Rattle.std.proofs.Common.{List, Option, None, Some, ap, ◌∙◌}
use Rattle.std.specs.Prelude.{IfSome}
use Rattle.vtoc_core.specs.declared.volume.Volume.{Volume}
use Rattle.unit_load.specs.declared.state.UnitState.{UnitState}
use Rattle.unit_session.specs.unit_steps.declared.plan.Plan.{Plan}
use Rattle.unit_session.specs.unit_steps.Plans.{IsLoadedAt, IsPlan}
use Rattle.step_plans.specs.declared.parts.PartSet.{PartSet}
use Rattle.step_plans.specs.Parts.{IsPartPlan}
use Rattle.step_plans.proofs.PartPlans.{part_is_plan}
use Rattle.rows_sessions.proofs.parts.planned.Goals as goal

plans : (units : List UnitState) (volume : Volume) (part : PartSet) (found : Option Plan) → IsLoadedAt units part.to.unit volume → IfSome found (IsPartPlan volume part) → IfSome found (IsPlan units)
plans units volume part None loaded is = tt
plans units volume part (Some plan) loaded is = part_is_plan volume part plan is units loaded

pub returns : goal.returns
returns c =
    plans c.args.session.now.units c.in-Online.volume _ c.in_ok-part_set.field-0 (c.unit.ensures.value ∙ ap Some c.in-Online.is) c.in_ok-part_set.ensures.plan
