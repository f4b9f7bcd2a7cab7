use Rattle.std.proofs.Common.{◌≡◌, [], ◌∷◌, Option, ap, subst, ◌∙◌}
use Rattle.std.specs.Prelude.{IfSome}
use Rattle.vtoc_core.specs.declared.volume.Row.{Row}
use Rattle.volume_change.specs.declared.change.Change.{Change}
use Rattle.unit_steps.specs.declared.plan.Tracks.TheVariants as texts
use Rattle.step_plans.specs.Copies.{IsNewRow}
use Rattle.step_plans.specs.Plans.{step_of_copy}
use Rattle.step_plans.proofs.Makers.{copy_plan, replace_is, add_is}
use Rattle.step_plans.proofs.copies.copy_set.Goals.{then-replaced, else-replaced}
use Rattle.step_plans.proofs.copies.copy_set.Goals as goal

pub returns-clause-plan : goal.returns-clause-plan
returns-clause-plan c =
    copy_plan c.args.source.now c.args.target.now c.args.copy c.in-Some.row c.requires.like c.requires.names.1
    (subst (λ (found : Option Row). IfSome found (IsNewRow c.args.source.now c.args.target.now c.args.copy)) c.in-Some.is c.in_ok-row.ensures.row)
    c.requires.places c.if-replaced.step c.in_ok-plan_of.field-0 step_is
    (c.in_ok-plan_of.ensures
    ∙ ap (λ (change : Change). record {
      step = c.if-replaced.step;
      tracks = texts.Rows c.args.copy.from.unit c.args.copy.from.name;
      changes = (c.args.copy.to.unit, change) ∷ [];
    }) c.putting-change.ensures)
  where
    step_is : c.if-replaced.step ≡ step_of_copy c.args.copy
    step_is = elim c.if-replaced.branch [
      | then-replaced w ↦ w.step-is ∙ replace_is c.args.copy w.if-replaced.true
      | else-replaced w ↦ w.step-is ∙ add_is c.args.copy w.if-replaced.false
    ]
