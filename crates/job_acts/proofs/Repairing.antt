-- Repairs, a step behind them, and what is done behind it: they may be done where the repairs and the step fit on the units as they were.
use Rattle.std.proofs.Common.{◌≡◌, inl, inr, ℕ, List, [], ◌∷◌, ◌++◌, length, take, All, Contains, sym, ap, subst, ◌∙◌, arith}
use Rattle.std.proofs.Math.Seq.{take-append_seam}
use Rattle.std.proofs.lemmas.List.{length-append}
use Rattle.std.proofs.lemmas.List.Elements.{All-nil, All-cons, All-head, All-tail}
use Rattle.vtoc_core.specs.declared.volume.Volume.{Volume}
use Rattle.vtoc_layout.proofs.Distinct.{first_or_later, in_none, in_middle}
use Rattle.volume_change.specs.declared.change.Change.{Change}
use Rattle.volume_change.specs.declared.change.Change.TheVariants.{Repair}
use Rattle.step_room.specs.vtoc_render.Next.{IsNext}
use Rattle.unit_load.specs.declared.state.UnitState.{UnitState}
use Rattle.move_core.specs.declared.steps.Step.{Step}
use Rattle.move_core.specs.declared.steps.Step.TheVariants as steps
use Rattle.step_room.specs.unit_steps.Plans.{IsLoadedAt}
use Rattle.step_room.proofs.unit_steps.OneChange.{same_volume}
use Rattle.step_room.specs.Room as room
use Rattle.step_room.specs.Room.{AlikeChangesHaveRoom}
use Rattle.job_steps.specs.unit_session.Planned.{LacksRecordsFor}
use Rattle.job_steps.specs.Carried.{HaveNext}
use Rattle.job_acts.specs.declared.acts.Acts.{Acts}
use Rattle.job_acts.specs.Making.{MayBeChanged, MayPlan, repair_steps}
use Rattle.job_acts.specs.Acting.{AreSound, Fits, LacksRoom, IsDone, MayDo, AllFit, MayAct, looked_at}
use Rattle.job_acts.proofs.Kept.{IsBehind, behind_repair, after_one, plan_behind}
use Rattle.job_acts.proofs.Alike.{AreAlikeChanges, step_alike}
use Rattle.job_acts.proofs.PlansMade.{repair_planned}

-- a change that has no room is one of the changes
pub full_one : {units : List UnitState} {changes : List (ℕ × Change)} {need free : ℕ} → LacksRecordsFor units changes need free
    → (one : ℕ × Change) × (volume : Volume) × Contains changes one × IsLoadedAt units one.0 volume × room.LacksRoom volume one.1
full_one {units} {changes} {need} {free} full = (
  (full.unit, full.change),
  full.volume,
  subst (λ (list : List (ℕ × Change)). Contains list (full.unit, full.change)) (sym full.changes_are) (in_middle full.front (full.unit, full.change) full.back),
  full.loaded,
  (need, free, full.full),
)

abbrev NextOf : List UnitState → ℕ × Change → Type 0
NextOf first change = (volume : Volume) × (next : Volume) × IsLoadedAt first change.0 volume × IsNext volume change.1 next

module _ {first units : List UnitState} (alike : AlikeChangesHaveRoom) (sound : AreSound first) (behind : IsBehind first units) where
  -- changes that are like those that have a next volume have room
  none_lacks : (changes others : List (ℕ × Change)) → HaveNext first changes → AreAlikeChanges first changes others → (one : ℕ × Change) (volume : Volume) → Contains others one
      → IsLoadedAt units one.0 volume → ¬ room.LacksRoom volume one.1
  none_lacks [] [] nexts are one volume there loaded lacks = in_none one there
  none_lacks [] (x ∷ others) nexts are one volume there loaded lacks = are
  none_lacks (x ∷ changes) [] nexts are one volume there loaded lacks = are
  none_lacks (change ∷ changes) (other ∷ others) nexts are one volume there loaded lacks = elim (first_or_later other one others there) [
    | inl same ↦
        let next = All-head (NextOf first) change changes nexts in
        let stands = behind.stands change.0 next.0 next.2 in
        let here : IsLoadedAt units change.0 volume = subst (λ (u : ℕ). IsLoadedAt units u volume) (ap (λ (c : ℕ × Change). c.0) (sym same) ∙ are.0) loaded in
        alike next.0 stands.next next.1 change.1 other.1 (sound change.0 next.0 next.2) stands.as_before next.3 (are.1 next.0 next.2)
        (subst (λ (v : Volume). room.LacksRoom v other.1) (same_volume units change.0 volume stands.next here stands.loaded)
        (subst (λ (c : ℕ × Change). room.LacksRoom volume c.1) (sym same) lacks))
    | inr later ↦ none_lacks changes others (All-tail (NextOf first) change changes nexts) are.2 one volume later loaded lacks
  ]

  -- a step that fitted has room
  fits_behind : (least : ℕ) (step : Step) → MayPlan least first step → Fits first step → ¬ LacksRoom units step
  fits_behind least step may fits lacks =
      let one = full_one lacks.full in
      none_lacks fits.plan.changes lacks.plan.changes fits.next (step_alike sound behind least step may fits.plan lacks.plan fits.step_is fits.lawful lacks.step_is lacks.lawful) one.0 one.1 one.2 one.3 one.4

-- what may be done on units that repairs left
abbrev pub AfterRepairs : ℕ → List UnitState → List Step → Type 0
AfterRepairs least first list = (units : List UnitState) → IsBehind first units → AreSound units → MayDo least units list

module _ (least : ℕ) (first : List UnitState) (alike : AlikeChangesHaveRoom) (sound : AreSound first) where
  -- a step, and what is done behind it
  pub may_step : (step : Step) (back : List Step) → MayPlan least first step → Fits first step
      → ((units after : List UnitState) → IsBehind first units → AreSound units → IsDone units step after → AreSound after → MayDo least after back) → AfterRepairs least first (step ∷ back)
  may_step step back may fits next units behind known = (
    plan_behind least behind known step may,
    fits_behind alike sound behind least step may fits,
    λ after done reached. next units after behind known done reached,
  )

  pub may_repair : (unit : ℕ) (back : List Step) → MayBeChanged least first unit → Fits first (steps.Repair unit) → AfterRepairs least first back
      → AfterRepairs least first (steps.Repair unit ∷ back)
  may_repair unit back may fits next =
      may_step (steps.Repair unit) back may fits
      (λ units after behind known done reached.
      next after
      (behind_repair behind (after_one units after unit Repair done.0.changes (repair_planned units done.0 unit done.1 done.2).1.changes_are done.3)) reached)

  pub may_repairs : (units : List ℕ) (back : List Step) → All (MayBeChanged least first) units → AllFit first (repair_steps units) → AfterRepairs least first back
      → AfterRepairs least first (repair_steps units ++ back)
  may_repairs [] back may fits next = next
  may_repairs (unit ∷ units) back may fits next =
      may_repair unit (repair_steps units ++ back) (All-head (MayBeChanged least first) unit units may) (All-head (Fits first) (steps.Repair unit) (repair_steps units) fits)
      (may_repairs units back (All-tail (MayBeChanged least first) unit units may) (All-tail (Fits first) (steps.Repair unit) (repair_steps units) fits) next)

-- ---- acts

pub repairs_planned : (least : ℕ) (first : List UnitState) (units : List ℕ) → All (MayBeChanged least first) units → All (MayPlan least first) (repair_steps units)
repairs_planned least first [] may = All-nil (MayPlan least first)
repairs_planned least first (unit ∷ units) may =
    All-cons (MayPlan least first) (steps.Repair unit) (repair_steps units) (All-head (MayBeChanged least first) unit units may)
    (repairs_planned least first units (All-tail (MayBeChanged least first) unit units may))

module _ (acts : Acts) (seen later : List Step) (steps_are : acts.steps.items ≡ seen ++ later) (looked_is : acts.looked ≡ length seen) where
  -- what is looked at are the first steps
  pub seen_are : looked_at acts ≡ seen
  seen_are = (λ i. take (looked_is i) (steps_are i)) ∙ take-append_seam seen later

  pub may_act : (least : ℕ) (units : List UnitState) → All (MayPlan least units) seen → (AllFit units seen → MayDo least units (seen ++ later)) → MayAct least units acts
  may_act least units looks may = record {
    within = omega (arith, looked_is, ap length steps_are, length-append seen later);
    looks = subst (All (MayPlan least units)) (sym seen_are) looks;
    may = λ fit. subst (MayDo least units) (sym steps_are) (may (subst (AllFit units) seen_are fit));
  }
