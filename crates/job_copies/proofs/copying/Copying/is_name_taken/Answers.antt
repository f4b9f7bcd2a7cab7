use Rattle.std.proofs.Common.{◌≡◌, inl, inr, ◌↔◌, IsTrue, Bool, not, false, Bor, refl, sym, subst, ◌∙◌}
use Rattle.std.proofs.lemmas.Bool.{false≢true, not_from_true, not_from_false, OnFalse_from}
use Rattle.vtoc_core.specs.declared.volume.Row.{Row}
use Rattle.step_room.specs.step_plans.Plans.{HasNone}
use Rattle.job_copies.specs.Reasons.{IsNameTaken}
use Rattle.job_copies.specs.Rows.{IsOwnRow}
use Rattle.job_copies.proofs.Replaced.{own_told, replace_told, namesake_found}
use Rattle.job_copies.proofs.Rows.{none_at}
use Rattle.job_copies.proofs.copying.Copying.is_name_taken.Goals as goal

pub returns-then-is_own-clause-taken : goal.returns-then-is_own-clause-taken
returns-then-is_own-clause-taken c case are = (λ t. inr ((own_told are).0 (c.is_own.ensures.0 c.if-is_own.true)), λ taken. refl)

pub returns-then-not-self-clause-taken : goal.returns-then-not-self-clause-taken
returns-then-not-self-clause-taken c case are =
    let found = c.namesake.result in
    let there = namesake_found c.requires.may are (λ (row : Bor Row). row.now) found c.namesake.ensures.found c.namesake.ensures.none in
    let keeps : case.wish.replace ≡ false = replace_told are ∙ c.if-not-self.true in
    subst (λ (b : Bool). IsTrue b ↔ IsNameTaken case) (sym c.is_some.ensures) (
      λ t. inl (keeps, there.0 t),
      λ taken. elim taken [
        | inl other ↦ there.1 other.1
        | inr own ↦ absurd (false≢true (sym c.if-is_own.false ∙ c.is_own.ensures.1 ((own_told are).1 own)))
      ],
    )

pub returns-then-not-self-clause-another : goal.returns-then-not-self-clause-another
returns-then-not-self-clause-another c =
    OnFalse_from c.is_some.result (¬ IsOwnRow c.args.self.now) (λ none own. false≢true (sym c.if-is_own.false ∙ c.is_own.ensures.1 own))

pub returns-then-not-self-clause-none : goal.returns-then-not-self-clause-none
returns-then-not-self-clause-none c =
    OnFalse_from c.is_some.result (c.args.self.now.wish.replace ≡ false → HasNone c.args.self.now.target.now c.args.self.now.new)
    (λ none keeps. none_at c.namesake.result (sym c.is_some.ensures ∙ none) c.namesake.ensures.none)

pub returns-else-not-self-clause-taken : goal.returns-else-not-self-clause-taken
returns-else-not-self-clause-taken c case are = (
  λ t. absurd (false≢true (sym (not_from_true c.args.self.now.wish.replace c.if-not-self.false) ∙ t)),
  λ taken. elim taken [
    | inl other ↦ not_from_false c.args.self.now.wish.replace (sym (replace_told are) ∙ other.0)
    | inr own ↦ absurd (false≢true (sym c.if-is_own.false ∙ c.is_own.ensures.1 ((own_told are).1 own)))
  ],
)

pub returns-else-not-self-clause-another : goal.returns-else-not-self-clause-another
returns-else-not-self-clause-another c =
    OnFalse_from (not c.args.self.now.wish.replace) (¬ IsOwnRow c.args.self.now) (λ none own. false≢true (sym c.if-is_own.false ∙ c.is_own.ensures.1 own))
