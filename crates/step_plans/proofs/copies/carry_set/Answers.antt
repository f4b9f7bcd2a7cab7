use Rattle.std.proofs.Common.{ℕ, List, [], ◌∷◌, ◌++◌, Option, ap, subst, ◌∙◌}
use Rattle.std.specs.Prelude.{IfSome}
use Rattle.vtoc_core.specs.declared.volume.Row.{Row}
use Rattle.volume_change.specs.declared.change.Change.{Change}
use Rattle.volume_change.specs.declared.change.Change.TheVariants.{Remove}
use Rattle.unit_steps.specs.declared.plan.Plan.{Plan}
use Rattle.step_plans.specs.Copies.{IsNewRow}
use Rattle.step_plans.proofs.Makers.{carry_plan}
use Rattle.step_plans.proofs.copies.carry_set.Goals as goal

pub returns-clause-plan : goal.returns-clause-plan
returns-clause-plan c =
    carry_plan c.args.source.now c.args.target.now c.args.copy c.in-Some.row c.requires.like c.requires.names.1
    (subst (λ (found : Option Row). IfSome found (IsNewRow c.args.source.now c.args.target.now c.args.copy)) c.in-Some.is c.in_ok-row.ensures.row)
    c.requires.places (record { step = c.in_ok-plan.plan.step; tracks = c.in_ok-plan.plan.tracks; changes = c.push.new.self }) c.requires.apart c.requires.names.0
    (ap (λ (p : Plan). p.step) c.in_ok-plan.ensures)
    (ap (λ (p : Plan). p.tracks) c.in_ok-plan.ensures)
    (c.in_ok-push.ensures.ok
    ∙ ap (λ (changes : List (ℕ × Change)). changes ++ ((c.args.copy.from.unit, Remove c.args.copy.from.name) ∷ []))
    (ap (λ (p : Plan). p.changes) c.in_ok-plan.ensures ∙ ap (λ (change : Change). (c.args.copy.to.unit, change) ∷ []) c.putting-change.ensures))
