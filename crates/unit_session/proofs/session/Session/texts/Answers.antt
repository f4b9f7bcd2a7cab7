use Rattle.std.proofs.Common.{sym, ap, subst, ◌∙◌}
use Rattle.move_core.specs.Stands.{IsSettled}
use Rattle.unit_session.specs.Texts.{AreTextsOf}
use Rattle.unit_session.proofs.SetTexts.{texts_of}
use Rattle.unit_session.proofs.session.Session.texts.Goals as goal

pub returns : goal.returns
returns g c told facts models same settled =
    let was = c.self.invariant in
    let s = c.self.inside in
    let pool_is = ap (λ view. view.pool) c.self.view_is in
    subst (λ view. AreTextsOf view.units models (g.P.Pool.disk view.pool).state.contents) c.self.view_is
    (λ unit name loaded row set is.
    texts_of (same ∙ ap g.P.Pool.shape (sym pool_is)) (subst (λ pool. IsSettled facts (g.P.Pool.disk pool).state models) (sym pool_is) settled) s.units.items unit loaded name row
    (c.rests.ensures told) was.0 was.2 (was.4 told) is.loaded_is is.row_is is.volume set is.online_is is.there is.named)
