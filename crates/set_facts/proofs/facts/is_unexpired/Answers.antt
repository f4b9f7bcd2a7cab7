use Rattle.std.proofs.Common.{rules, inl, inr, sym, subst, ◌∙◌}
use Rattle.std.proofs.lemmas.Bool.{false≢true}
use Rattle.by_rules.specs.Day.{IsEarlier}
use Rattle.set_facts.specs.Facts.{IsNever}
use Rattle.set_facts.proofs.Kept.{expiry_kept}
use Rattle.set_facts.proofs.facts.is_unexpired.Goals as goal

pub returns-then-is_never : goal.returns-then-is_never
returns-then-is_never c = (
  (λ t. inl (subst IsNever (c.day_at-expires.ensures ∙ sym (expiry_kept c.args.f1.now (search rules))) (c.is_never.ensures.0 t))),
  (λ u. c.if-is_never.true),
)

pub returns-else-is_never : goal.returns-else-is_never
returns-else-is_never c =
    let expiry = c.day_at-expires.ensures ∙ sym (expiry_kept c.args.f1.now (search rules)) in (
      (λ t. inr (subst (IsEarlier c.args.today) expiry (c.is_earlier.ensures.0 t))),
      (λ unexpired. elim unexpired [
        | inl never ↦ absurd (false≢true (sym c.if-is_never.false ∙ c.is_never.ensures.1 (subst IsNever (sym expiry) never)))
        | inr later ↦ c.is_earlier.ensures.1 (subst (IsEarlier c.args.today) (sym expiry) later)
      ]),
    )
