use Rattle.std.proofs.Common.{◌⊎◌, ℕ, ap, sym, subst}
use Rattle.std.specs.Prelude.{IfSome, IfNone}
use Rattle.free_map.specs.declared.run.Run.{Run}
use Rattle.step_room.specs.step_plans.Plans.{IsJoinPlan, IsPlaceOn, IsWhole, HasNone, HasManyExtents}
use Rattle.job_acts.proofs.PlansMade.{joins_here, not_joined, place_here, sound_here, first_is}
use Rattle.job_acts.proofs.plans.plan_join.Goals as goal

pub volume-volume-requires : goal.volume-volume-requires
volume-volume-requires g c = (c.requires.set.may.volume, c.requires.set.may.loaded)

pub join_set-requires-clause-sound : goal.join_set-requires-clause-sound
join_set-requires-clause-sound g c = sound_here c.requires.set c.volume-volume.result.now c.volume-volume.ensures

pub join_set-requires-clause-name : goal.join_set-requires-clause-name
join_set-requires-clause-name g c = c.requires.set.row_is.lawful

pub join_set-requires-clause-place : goal.join_set-requires-clause-place
join_set-requires-clause-place g c = λ row has.
    subst (λ (first : ℕ). IsPlaceOn c.volume-volume.result.now row c.volume-volume.result.now first) (sym (ap (λ (run : Run). run.first) (first_is c.args.to.now c.requires.run c.only-run.result c.requires.to_is c.only-run.ensures)))
    (place_here c.requires c.volume-volume.result.now c.volume-volume.ensures row has)

pub unreachable-requires : goal.unreachable-requires
unreachable-requires g c =
    let volume = c.volume-volume.result.now in
    not_joined c.requires volume c.volume-volume.ensures
    (subst (λ found. IfNone found (HasNone volume c.args.at.name ⊎ (HasManyExtents volume c.args.at.name ⊎ IsWhole volume c.args.at.name))) c.in_default.is c.in_ok-plan.ensures.none)

pub returns : goal.returns
returns g c =
    joins_here c.requires c.volume-volume.result.now c.volume-volume.ensures c.in-Some.plan
    (subst (λ (first : ℕ). IsJoinPlan c.volume-volume.result.now c.args.at.unit c.args.at.name first c.in-Some.plan) (ap (λ (run : Run). run.first) (first_is c.args.to.now c.requires.run c.only-run.result c.requires.to_is c.only-run.ensures))
    (subst (λ found. IfSome found (IsJoinPlan c.volume-volume.result.now c.args.at.unit c.args.at.name c.only-run.result.first)) c.in-Some.is c.in_ok-plan.ensures.plan))

pub only-run-requires : goal.only-run-requires
only-run-requires g c = (c.requires.run, c.requires.to_is)
