use Rattle.std.proofs.Common.{◌≡◌, ◌<◌, ◌≤◌, ℕ, inl, inr, List, length, sym, ap, subst, ◌∙◌, refl, arith}
use Rattle.ckd_image.specs.Device.{heads_of}
use Rattle.dscb_rec.specs.declared.field.Extent.{Extent}
use Rattle.volume_model.specs.Unit.{tracks_of}
use Rattle.move_core.specs.Steps.{cut}
use Rattle.step_plans.specs.Plans.{AreRuns, extents_from}
use Rattle.plan_core.specs.Extents.{extents_at}
use Rattle.step_plans.proofs.Fronts.{tracks_few}
use Rattle.step_plans.proofs.LoadedRows.{sound_runs}
use Rattle.step_plans.proofs.Swaps.{shrink_plan}
use Rattle.step_plans.proofs.RowNames.{few_extents}
use Rattle.step_plans.proofs.plans.shrink_set.Goals.{then-extents-gt-MOST_EXTENTS-via-then-extents-gt-MOST_EXTENTS, then-extents-gt-MOST_EXTENTS-via-else-extents-gt-MOST_EXTENTS+then-count_tracks-keep}
use Rattle.step_plans.proofs.plans.shrink_set.Goals as goal

pub count_tracks-requires : goal.count_tracks-requires
count_tracks-requires c =
    let row = c.in-Some.row.now in
    let same : length (tracks_of (extents_at (heads_of c.args.volume.now.device) c.as_slice-extents.result.now)) ≡ length (tracks_of (extents_from c.args.volume.now.device row.extents)) =
    λ i. length (tracks_of (extents_at (heads_of c.args.volume.now.device) (c.as_slice-extents.ensures i))) in
    let runs : AreRuns c.args.volume.now.device row.extents = sound_runs c.args.volume.now c.requires.sound row c.in-Some.ensures.found.there in
    omega (arith, same, tracks_few c.args.volume.now.device row.extents runs, ap length c.as_slice-extents.ensures, c.if-extents-gt-MOST_EXTENTS.false)

pub returns-then-extents-gt-MOST_EXTENTS-clause-none : goal.returns-then-extents-gt-MOST_EXTENTS-clause-none
returns-then-extents-gt-MOST_EXTENTS-clause-none c = elim c.then-extents-gt-MOST_EXTENTS.branch [
  | then-extents-gt-MOST_EXTENTS-via-then-extents-gt-MOST_EXTENTS w ↦
      inr (inl (c.in-Some.row.now, c.in-Some.ensures.found, omega (arith, ap length c.as_slice-extents.ensures, w.if-extents-gt-MOST_EXTENTS.true)))
  | then-extents-gt-MOST_EXTENTS-via-else-extents-gt-MOST_EXTENTS+then-count_tracks-keep w ↦
      inr (inr (
        c.in-Some.row.now,
        c.in-Some.ensures.found,
        subst (λ (n : ℕ). n ≤ c.args.keep) (w.count_tracks.ensures ∙ (λ i. length (tracks_of (extents_at (heads_of c.args.volume.now.device) (c.as_slice-extents.ensures i))))) w.if-count_tracks-keep.true,
      ))
]

pub cut_extents-requires : goal.cut_extents-requires
cut_extents-requires c = record {
  runs = subst (AreRuns c.args.volume.now.device) (sym c.as_slice-extents.ensures) (sound_runs c.args.volume.now c.requires.sound c.in-Some.row.now c.in-Some.ensures.found.there);
}

pub returns-clause-plan : goal.returns-clause-plan
returns-clause-plan c =
    shrink_plan c.args.volume.now c.args.unit c.args.name c.args.keep c.in-Some.row.now _ c.in_ok-quiet_plan.field-0 c.requires.sound c.in-Some.ensures.found
    (omega (arith, ap length c.as_slice-extents.ensures, c.if-extents-gt-MOST_EXTENTS.false))
    (subst (λ (n : ℕ). c.args.keep < n) (c.count_tracks.ensures ∙ (λ i. length (tracks_of (extents_at (heads_of c.args.volume.now.device) (c.as_slice-extents.ensures i))))) c.if-count_tracks-keep.false)
    refl refl
    (c.in_ok-cut_extents.ensures.cut ∙ ap (λ (extents : List Extent). cut c.args.keep (extents_from c.args.volume.now.device extents)) c.as_slice-extents.ensures)
    c.in_ok-cut_extents.ensures.runs c.in_ok-quiet_plan.ensures.step c.in_ok-quiet_plan.ensures.tracks c.in_ok-quiet_plan.ensures.changes

pub returns-clause-few : goal.returns-clause-few
returns-clause-few c =
    few_extents c.args.volume.now c.requires.sound c.args.name c.in-Some.row.now c.in-Some.ensures.found
    (omega (arith, ap length c.as_slice-extents.ensures, c.if-extents-gt-MOST_EXTENTS.false))
