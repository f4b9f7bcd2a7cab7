use Rattle.std.proofs.Common.{sym, ◌∙◌}
use Rattle.std.proofs.lemmas.Bool.{false≢true, not_from_true, not_from_false}
use Rattle.job_restores.proofs.Replaced.{purge_told}
use Rattle.job_restores.proofs.restoring.Restoring.is_spared.Goals as goal

pub returns-then-not-self : goal.returns-then-not-self
returns-then-not-self c case are =
    let other = c.is_replaced_unexpired.ensures case are in
    (λ t. (purge_told are ∙ c.if-not-self.true, other.0 t), λ h. other.1 h.1)

pub returns-else-not-self : goal.returns-else-not-self
returns-else-not-self c case are = (
  λ t. absurd (false≢true (sym (not_from_true c.args.self.now.wish.purge c.if-not-self.false) ∙ t)),
  λ h. not_from_false c.args.self.now.wish.purge (sym (purge_told are) ∙ h.0),
)
