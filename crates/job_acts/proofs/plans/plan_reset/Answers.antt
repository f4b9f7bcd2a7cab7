use Rattle.std.proofs.Common.{◌⊎◌, subst}
use Rattle.std.specs.Prelude.{IfSome, IfNone}
use Rattle.move_core.specs.declared.steps.Step.TheVariants as steps
use Rattle.step_room.specs.step_plans.Plans.{IsPlanFor, HasNone, HasManyExtents}
use Rattle.job_acts.proofs.PlansMade.{reset_made, not_reset, sound_here}
use Rattle.job_acts.proofs.plans.plan_reset.Goals as goal

pub volume-volume-requires : goal.volume-volume-requires
volume-volume-requires g c = (c.requires.set.may.volume, c.requires.set.may.loaded)

pub reset_flag-requires-clause-sound : goal.reset_flag-requires-clause-sound
reset_flag-requires-clause-sound g c = sound_here c.requires.set c.volume-volume.result.now c.volume-volume.ensures

pub reset_flag-requires-clause-name : goal.reset_flag-requires-clause-name
reset_flag-requires-clause-name g c = c.requires.set.row_is.lawful

pub unreachable-requires : goal.unreachable-requires
unreachable-requires g c =
    let volume = c.volume-volume.result.now in
    not_reset c.requires volume c.volume-volume.ensures
    (subst (λ found. IfNone found (HasNone volume c.args.at.name ⊎ HasManyExtents volume c.args.at.name)) c.in_default.is c.in_ok-plan.ensures.none)

pub returns : goal.returns
returns g c =
    reset_made c.args.at.unit c.volume-volume.result.now c.volume-volume.ensures c.in-Some.plan c.args.at.name c.requires.set
    (subst (λ found. IfSome found (IsPlanFor c.volume-volume.result.now c.args.at.unit (steps.ResetFlag c.args.at.unit c.args.at.name))) c.in-Some.is c.in_ok-plan.ensures.plan)
