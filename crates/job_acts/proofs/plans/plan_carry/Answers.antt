use Rattle.std.proofs.Common.{◌⊎◌, List, sym, subst, ◌∙◌}
use Rattle.std.specs.Prelude.{IfSome, IfNone}
use Rattle.free_map.specs.declared.run.Run.{Run}
use Rattle.move_core.specs.declared.steps.Step.TheVariants as steps
use Rattle.job_acts.specs.Making.{MayCarry}
use Rattle.step_room.specs.step_plans.Plans.{IsPlanForBoth, IsInTheWay, HasNone, HasManyExtents}
use Rattle.job_acts.specs.Making.{IsStepPlan}
use Rattle.job_acts.proofs.PlansMade.{carry_made, sound_both, like_both, places_here, not_refused}
use Rattle.job_acts.proofs.plans.plan_carry.Goals as goal

pub volume-source-requires : goal.volume-source-requires
volume-source-requires g c = (c.requires.put.source, c.requires.put.source_loaded)

pub volume-target-requires : goal.volume-target-requires
volume-target-requires g c = (c.requires.put.target.volume, c.requires.put.target.loaded)

pub carry_set-requires-clause-sound : goal.carry_set-requires-clause-sound
carry_set-requires-clause-sound g c = sound_both c.requires.put c.volume-source.result.now c.volume-target.result.now c.volume-source.ensures c.volume-target.ensures

pub carry_set-requires-clause-like : goal.carry_set-requires-clause-like
carry_set-requires-clause-like g c = like_both c.requires.put c.volume-source.result.now c.volume-target.result.now c.volume-source.ensures c.volume-target.ensures

pub carry_set-requires-clause-names : goal.carry_set-requires-clause-names
carry_set-requires-clause-names g c = (c.requires.put.row_is.lawful, c.requires.put.new_is)

pub carry_set-requires-clause-places : goal.carry_set-requires-clause-places
carry_set-requires-clause-places g c =
    let may = subst (λ (to : List Run). MayCarry c.args.session.now.room c.args.session.now.units c.args.from.unit c.args.from.name c.args.to.unit c.args.to.name to c.args.replaced) (sym (c.in_ok-runs.ensures ∙ c.as_slice.ensures)) c.requires in
    places_here may.put c.volume-source.result.now c.volume-target.result.now c.volume-source.ensures c.volume-target.ensures

pub unreachable-requires : goal.unreachable-requires
unreachable-requires g c =
    let source = c.volume-source.result.now in
    let target = c.volume-target.result.now in
    not_refused c.requires.put source target c.volume-source.ensures c.volume-target.ensures
    (subst (λ found. IfNone found (HasNone source c.args.from.name ⊎ (HasManyExtents source c.args.from.name ⊎ IsInTheWay c.args.replaced target c.args.to.name))) c.in_default.is c.in_ok-plan.ensures.none)

pub returns : goal.returns
returns g c =
    let source = c.volume-source.result.now in
    let target = c.volume-target.result.now in
    let may = subst (λ (to : List Run). MayCarry c.args.session.now.room c.args.session.now.units c.args.from.unit c.args.from.name c.args.to.unit c.args.to.name to c.args.replaced) (sym (c.in_ok-runs.ensures ∙ c.as_slice.ensures)) c.requires in
    subst (λ (to : List Run). IsStepPlan c.args.session.now.room c.args.session.now.units (steps.Carry c.args.from.unit c.args.from.name c.args.to.unit c.args.to.name to c.args.replaced) c.in-Some.plan) (c.in_ok-runs.ensures ∙ c.as_slice.ensures)
    (carry_made c.args.from.unit c.args.from.name c.args.to.unit c.args.to.name c.in_ok-runs.runs c.args.replaced source target c.volume-source.ensures c.volume-target.ensures c.in-Some.plan may
    (subst (λ found. IfSome found (IsPlanForBoth source c.args.from.unit target c.args.to.unit (steps.Carry c.args.from.unit c.args.from.name c.args.to.unit c.args.to.name c.in_ok-runs.runs c.args.replaced))) c.in-Some.is c.in_ok-plan.ensures.plan))
