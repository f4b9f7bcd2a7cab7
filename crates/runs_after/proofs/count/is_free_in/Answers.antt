use Rattle.std.proofs.Common.{inl, inr, ⊎_elim, sym, ◌∙◌}
use Rattle.std.proofs.lemmas.Bool.{false≢true}
use Rattle.runs_after.proofs.Moving.{in_any}
use Rattle.runs_after.proofs.count.is_free_in.Goals as goal

pub returns-then-is_in : goal.returns-then-is_in
returns-then-is_in c = (λ s. inl ((in_any c.args.runs.now c.args.track).1 (c.is_in.ensures.0 c.if-is_in.true)), λ h. c.if-is_in.true)

pub returns-else-is_in : goal.returns-else-is_in
returns-else-is_in c = (
  λ s. inr ((in_any c.args.more.now c.args.track).1 (c.is_in-else-is_in.ensures.0 s)),
  ⊎_elim (λ here. absurd (false≢true (sym c.if-is_in.false ∙ c.is_in.ensures.1 ((in_any c.args.runs.now c.args.track).0 here))))
      (λ there. c.is_in-else-is_in.ensures.1 ((in_any c.args.more.now c.args.track).0 there)),
)
