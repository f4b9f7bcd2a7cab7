use Rattle.std.proofs.Common.{◌≡◌, ◌∙◌}
use Rattle.unit_steps.specs.Parts.{step_of_part}
use Rattle.step_plans.proofs.PartPlans.{part_rooms, part_plan, replaces_is, adds_is}
use Rattle.step_plans.proofs.parts.part_set.Goals.{then-replaced, else-replaced}
use Rattle.step_plans.proofs.parts.part_set.Goals as goal

pub part_row-requires-clause-rooms : goal.part_row-requires-clause-rooms
part_row-requires-clause-rooms c = part_rooms c.args.target.now c.requires.sound c.args.part c.requires.places

pub returns-clause-plan : goal.returns-clause-plan
returns-clause-plan c =
    let row = c.in_ok-row.ensures in
    part_plan c.args.target.now c.requires.sound c.args.part c.requires.places c.in_ok-row.row row.name row.front (row.code ∙ c.requires.format) row.fields row.extents c.requires.name
    (c.if-is_in_the_way.ensures.clear) c.if-replaced.step c.putting-change.result c.in_ok-plan_of.field-0 step_is c.putting-change.ensures c.in_ok-plan_of.ensures
  where
    step_is : c.if-replaced.step ≡ step_of_part c.args.part.replaced c.args.part.to.unit c.args.part.to.name c.args.part.runs c.args.part.input c.args.part.number
    step_is = elim c.if-replaced.branch [
      | then-replaced w ↦ w.step-is ∙ replaces_is c.args.part w.if-replaced.true
      | else-replaced w ↦ w.step-is ∙ adds_is c.args.part w.if-replaced.false
    ]
