use Rattle.std.proofs.Common.{◌≡◌, inl, inr, List, [], ◌∷◌, ◌++◌, length, sym, ap, subst, ◌∙◌, arith}
use Rattle.ckd_image.specs.Device.{heads_of}
use Rattle.dscb_rec.specs.declared.field.Extent.{Extent}
use Rattle.free_map.specs.declared.run.Run.{Run}
use Rattle.volume_change.specs.declared.change.Change.TheVariants.{Swap}
use Rattle.volume_model.specs.Unit.{tracks_of}
use Rattle.move_core.specs.declared.steps.Step.TheVariants as steps
use Rattle.unit_steps.specs.declared.plan.Tracks.TheVariants as texts
use Rattle.move_core.specs.Steps.{IsNewKind}
use Rattle.step_plans.specs.Plans.{AreRuns, extents_from}
use Rattle.plan_core.specs.Extents.{extents_at}
use Rattle.step_plans.proofs.Fronts.{tracks_few}
use Rattle.step_plans.proofs.LoadedRows.{sound_runs}
use Rattle.step_plans.proofs.Makers.{join_room, join_plan}
use Rattle.step_plans.proofs.RowNames.{few_extents, not_whole}
use Rattle.step_plans.proofs.plans.join_set.Goals.{then-extents-gt-MOST_EXTENTS-via-then-extents-gt-MOST_EXTENTS, then-extents-gt-MOST_EXTENTS-via-else-extents-gt-MOST_EXTENTS+then-extents-eq1}
use Rattle.step_plans.proofs.plans.join_set.Goals as goal

pub returns-then-extents-gt-MOST_EXTENTS-clause-none :
    goal.returns-then-extents-gt-MOST_EXTENTS-clause-none
returns-then-extents-gt-MOST_EXTENTS-clause-none c = elim c.then-extents-gt-MOST_EXTENTS.branch [
  | then-extents-gt-MOST_EXTENTS-via-then-extents-gt-MOST_EXTENTS w ↦
      inr (inl (c.in-Some.row.now, c.in-Some.ensures.found, omega (arith, ap length c.as_slice-extents.ensures, w.if-extents-gt-MOST_EXTENTS.true)))
  | then-extents-gt-MOST_EXTENTS-via-else-extents-gt-MOST_EXTENTS+then-extents-eq1 w ↦
      inr (inr (c.in-Some.row.now, c.in-Some.ensures.found, inl (sym (ap length c.as_slice-extents.ensures) ∙ w.if-extents-eq1.true)))
]

pub count_tracks-len-requires : goal.count_tracks-len-requires
count_tracks-len-requires c =
    let row = c.in-Some.row.now in
    let same : length (tracks_of (extents_at (heads_of c.args.volume.now.device) c.as_slice-extents.result.now)) ≡ length (tracks_of (extents_from c.args.volume.now.device row.extents)) =
    λ i. length (tracks_of (extents_at (heads_of c.args.volume.now.device) (c.as_slice-extents.ensures i))) in
    let runs : AreRuns c.args.volume.now.device row.extents = sound_runs c.args.volume.now c.requires.sound row c.in-Some.ensures.found.there in
    omega (arith, same, tracks_few c.args.volume.now.device row.extents runs, ap length c.as_slice-extents.ensures, c.if-extents-gt-MOST_EXTENTS.false)

pub returns-then-len-eq0-clause-none : goal.returns-then-len-eq0-clause-none
returns-then-len-eq0-clause-none c = inr (inr (
  c.in-Some.row.now,
  c.in-Some.ensures.found,
  inr (sym (c.count_tracks-len.ensures ∙ (λ i. length (tracks_of (extents_at (heads_of c.args.volume.now.device) (c.as_slice-extents.ensures i))))) ∙ c.if-len-eq0.true),
))

pub moved_row-requires : goal.moved_row-requires
moved_row-requires c =
    join_room c.args.volume.now c.requires.sound c.args.name c.in-Some.row.now c.in-Some.ensures.found
    (λ one. c.if-extents-eq1.false (ap length c.as_slice-extents.ensures ∙ one)) c.args.first c.count_tracks-len.result
    (c.count_tracks-len.ensures ∙ (λ i. length (tracks_of (extents_at (heads_of c.args.volume.now.device) (c.as_slice-extents.ensures i)))))
    c.if-len-eq0.false (c.requires.place c.in-Some.row.now c.in-Some.ensures.found) c.kind_for.result
    (subst (λ (extents : List Extent). IsNewKind (extents_from c.args.volume.now.device extents) c.kind_for.result) c.as_slice-extents.ensures (c.kind_for.ensures c.args.volume.now.device))

pub returns-clause-plan : goal.returns-clause-plan
returns-clause-plan c =
    join_plan c.args.volume.now c.requires.sound c.args.name c.in-Some.row.now c.in-Some.ensures.found
    (λ one. c.if-extents-eq1.false (ap length c.as_slice-extents.ensures ∙ one)) c.args.first c.count_tracks-len.result
    (c.count_tracks-len.ensures ∙ (λ i. length (tracks_of (extents_at (heads_of c.args.volume.now.device) (c.as_slice-extents.ensures i)))))
    c.if-len-eq0.false (c.requires.place c.in-Some.row.now c.in-Some.ensures.found) c.kind_for.result
    (subst (λ (extents : List Extent). IsNewKind (extents_from c.args.volume.now.device extents) c.kind_for.result) c.as_slice-extents.ensures (c.kind_for.ensures c.args.volume.now.device))
    c.in_ok-moved.moved c.in_ok-moved.ensures.name c.in_ok-moved.ensures.same c.in_ok-moved.ensures.extents c.args.unit c.in_ok-plan_of.field-0
    (c.in_ok-plan_of.ensures ∙ ap (λ (runs : List Run). record { step = steps.Move c.args.unit c.args.name runs; tracks = texts.Rows c.args.unit c.args.name; changes = (c.args.unit, Swap c.args.name c.in_ok-moved.moved) ∷ [] })
    (c.from_vec.ensures ∙ c.in_ok-push.ensures.items ∙ ap (λ (runs : List Run). runs ++ (record { first = c.args.first; len = c.count_tracks-len.result } ∷ [])) c.new-to.ensures.items))

pub returns-clause-few : goal.returns-clause-few
returns-clause-few c =
    few_extents c.args.volume.now c.requires.sound c.args.name c.in-Some.row.now c.in-Some.ensures.found
    (omega (arith, ap length c.as_slice-extents.ensures, c.if-extents-gt-MOST_EXTENTS.false))

pub returns-clause-several : goal.returns-clause-several
returns-clause-several c =
    not_whole c.args.volume.now c.requires.sound c.args.name c.in-Some.row.now c.in-Some.ensures.found
    (λ one. omega (arith, ap length c.as_slice-extents.ensures, one, c.if-extents-eq1.false))
    (λ none. c.if-len-eq0.false (c.count_tracks-len.ensures ∙ (λ i. length (tracks_of (extents_at (heads_of c.args.volume.now.device) (c.as_slice-extents.ensures i)))) ∙ none))
