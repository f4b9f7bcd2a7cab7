use Rattle.std.proofs.Common.{inl, inr, All, ℕ, List, length, map, ap, subst, sym, ◌∙◌, arith}
use Rattle.std.specs.Prelude.{slice_index}
use Rattle.dscb_rec.specs.declared.field.Extent.{Extent}
use Rattle.volume_model.specs.Reads.{fields_of_1}
use Rattle.move_core.specs.Steps.{IsNewKind, fields_at}
use Rattle.step_plans.specs.Plans.{IsRoom, extents_from, field_on}
use Rattle.step_plans.proofs.Makers.{copy_rooms, new_row_is}
use Rattle.step_plans.proofs.RowNames.{few_extents}
use Rattle.step_plans.proofs.copies.new_row.Goals.{then-extents-gt-MOST_EXTENTS-via-then-extents-gt-MOST_EXTENTS, then-extents-gt-MOST_EXTENTS-via-else-extents-gt-MOST_EXTENTS+then-is_in_the_way}
use Rattle.step_plans.proofs.copies.new_row.Goals as goal

pub returns-then-extents-gt-MOST_EXTENTS-clause-none :
    goal.returns-then-extents-gt-MOST_EXTENTS-clause-none
returns-then-extents-gt-MOST_EXTENTS-clause-none c = elim c.then-extents-gt-MOST_EXTENTS.branch [
  | then-extents-gt-MOST_EXTENTS-via-then-extents-gt-MOST_EXTENTS w ↦
      inr (inl (c.in-Some.row.now, c.in-Some.ensures.found, omega (arith, ap length c.as_slice-extents.ensures, w.if-extents-gt-MOST_EXTENTS.true)))
  | then-extents-gt-MOST_EXTENTS-via-else-extents-gt-MOST_EXTENTS+then-is_in_the_way w ↦ inr (inr w.if-is_in_the_way.ensures.way)
]

pub moved_row-requires : goal.moved_row-requires
moved_row-requires c =
    subst (All IsRoom) (sym c.as_slice-runs.ensures)
    (copy_rooms c.args.source.now c.args.target.now c.requires.sound.0 c.requires.sound.1 c.args.copy.now c.in-Some.row.now c.in-Some.ensures.found c.kind_for.result
    (subst (λ (extents : List Extent). IsNewKind (extents_from c.args.source.now.device extents) c.kind_for.result) c.as_slice-extents.ensures (c.kind_for.ensures c.args.source.now.device))
    (c.requires.places c.in-Some.row.now c.in-Some.ensures.found))

pub returns-clause-row : goal.returns-clause-row
returns-clause-row c =
    new_row_is c.args.source.now c.args.target.now c.requires.sound.0 c.requires.sound.1 c.args.copy.now c.in-Some.row.now c.in-Some.ensures.found c.kind_for.result
    (subst (λ (extents : List Extent). IsNewKind (extents_from c.args.source.now.device extents) c.kind_for.result) c.as_slice-extents.ensures (c.kind_for.ensures c.args.source.now.device))
    (c.requires.places c.in-Some.row.now c.in-Some.ensures.found) c.copied_row.result c.copied_row.ensures.name c.copied_row.ensures.front
    (c.copied_row.ensures.code ∙ ap (λ (bytes : List ℕ). slice_index bytes 44) c.in_ok-moved.ensures.same)
    (c.copied_row.ensures.fields ∙ ap (λ (bytes : List ℕ). fields_at c.copied_row.result.name c.args.target.now.serial (fields_of_1 bytes)) c.in_ok-moved.ensures.same)
    (c.copied_row.ensures.extents ∙ c.in_ok-moved.ensures.extents ∙ ap (map (field_on c.args.target.now.device c.kind_for.result)) c.as_slice-runs.ensures)
    c.if-is_in_the_way.ensures.clear c.requires.names.1

pub returns-clause-few : goal.returns-clause-few
returns-clause-few c =
    few_extents c.args.source.now c.requires.sound.0 c.args.copy.now.from.name c.in-Some.row.now c.in-Some.ensures.found
    (omega (arith, ap length c.as_slice-extents.ensures, c.if-extents-gt-MOST_EXTENTS.false))
