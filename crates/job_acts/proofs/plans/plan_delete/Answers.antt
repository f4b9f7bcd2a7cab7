use Rattle.std.specs.Prelude.{IfSome, IfNone}
use Rattle.move_core.specs.declared.steps.Step.TheVariants as steps
use Rattle.std.proofs.Common.{subst}
use Rattle.step_room.specs.step_plans.Plans.{IsPlanFor, HasNone}
use Rattle.job_acts.proofs.PlansMade.{delete_made, sound_here, not_none}
use Rattle.job_acts.proofs.plans.plan_delete.Goals as goal

pub volume-volume-requires : goal.volume-volume-requires
volume-volume-requires g c = (c.requires.may.volume, c.requires.may.loaded)

pub delete_set-requires-clause-sound : goal.delete_set-requires-clause-sound
delete_set-requires-clause-sound g c = sound_here c.requires c.volume-volume.result.now c.volume-volume.ensures

pub delete_set-requires-clause-name : goal.delete_set-requires-clause-name
delete_set-requires-clause-name g c = c.requires.row_is.lawful

pub unreachable-requires : goal.unreachable-requires
unreachable-requires g c =
    not_none c.requires c.volume-volume.result.now c.volume-volume.ensures
    (subst (λ found. IfNone found (HasNone c.volume-volume.result.now c.args.at.name)) c.in_default.is c.in_ok-plan.ensures.none)

pub returns : goal.returns
returns g c =
    delete_made c.args.at.unit c.volume-volume.result.now c.volume-volume.ensures c.in-Some.plan c.args.at.name c.requires
    (subst (λ found. IfSome found (IsPlanFor c.volume-volume.result.now c.args.at.unit (steps.Delete c.args.at.unit c.args.at.name))) c.in-Some.is c.in_ok-plan.ensures.plan)
