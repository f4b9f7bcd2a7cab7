use Rattle.std.proofs.Common.{◌≡◌, ◌↔◌, IsTrue, Bool, false, Bor, sym, subst, ◌∙◌}
use Rattle.std.proofs.lemmas.Bool.{false≢true, not_from_true, not_from_false, OnFalse_from}
use Rattle.vtoc_core.specs.declared.volume.Row.{Row}
use Rattle.job_turns.specs.job_copies.step_plans.Plans.{HasNone}
use Rattle.job_restores.specs.Reasons.{IsNameTaken}
use Rattle.job_restores.proofs.Replaced.{replace_told, namesake_found}
use Rattle.job_restores.proofs.Rows.{none_at}
use Rattle.job_restores.proofs.restoring.Restoring.is_name_taken.Goals as goal

pub returns-then-not-self-clause-taken : goal.returns-then-not-self-clause-taken
returns-then-not-self-clause-taken c case are =
    let found = c.namesake.result in
    let there = namesake_found c.requires.may are (λ (row : Bor Row). row.now) found c.namesake.ensures.found c.namesake.ensures.none in
    let keeps : case.wish.replace ≡ false = replace_told are ∙ c.if-not-self.true in
    subst (λ (b : Bool). IsTrue b ↔ IsNameTaken case) (sym c.is_some.ensures) (λ t. (keeps, there.0 t), λ taken. there.1 taken.1)

pub returns-then-not-self-clause-none : goal.returns-then-not-self-clause-none
returns-then-not-self-clause-none c =
    OnFalse_from c.is_some.result (c.args.self.now.wish.replace ≡ false → HasNone c.args.self.now.target.now c.args.self.now.new)
    (λ none keeps. none_at c.namesake.result (sym c.is_some.ensures ∙ none) c.namesake.ensures.none)

pub returns-else-not-self-clause-taken : goal.returns-else-not-self-clause-taken
returns-else-not-self-clause-taken c case are = (
  λ t. absurd (false≢true (sym (not_from_true c.args.self.now.wish.replace c.if-not-self.false) ∙ t)),
  λ taken. not_from_false c.args.self.now.wish.replace (sym (replace_told are) ∙ taken.0),
)
