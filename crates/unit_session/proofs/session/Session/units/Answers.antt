use Rattle.std.proofs.Common.{sym, ap, subst, ◌∙◌}
use Rattle.move_core.specs.Stands.{IsSettled}
use Rattle.unit_steps.specs.Loaded.{AreModels, AreVtocsOf}
use Rattle.unit_session.proofs.Modelling.{models_at}
use Rattle.unit_session.proofs.session.Session.units.Goals as goal

pub returns-clause-models : goal.returns-clause-models
returns-clause-models g c told facts models same settled =
    let was = c.self.invariant in
    let pool_is = ap (λ view. view.pool) c.self.view_is in
    subst (λ view. AreModels view.units models) c.self.view_is
    (models_at (same ∙ ap g.P.Pool.shape (sym pool_is)) (subst (λ pool. IsSettled facts (g.P.Pool.disk pool).state models) (sym pool_is) settled)
    c.self.inside.units.items (c.rests.ensures told) was.0 was.2 (was.4 told))

pub returns-clause-vtocs : goal.returns-clause-vtocs
returns-clause-vtocs g c told = subst (λ view. AreVtocsOf (g.P.Pool.disk view.pool).state.contents view.units view.vtocs) c.self.view_is (c.self.invariant.5 told)
