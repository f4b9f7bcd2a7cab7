use Rattle.std.proofs.Common.{◌∙◌, refl, ap, subst, arith}
use Rattle.dasd_pool.specs.Disk.{Shape, State}
use Rattle.rows_headline.specs.Made.{HasLoaded}
use Rattle.rows_headline.proofs.Looking.{has_volume, stays}
use Rattle.rows_headline.proofs.looked.look.Goals as goal

pub returns-clause-found : goal.returns-clause-found
returns-clause-found g c = λ told.
    let opened : State = (g.P.Pool.disk c.in-Ok.journal.pool).state in
    has_volume (g.P.Pool.shape c.args.pool) (g.P.Pool.disk c.args.pool).state opened _ _ _ _ (c.in-Ok.ensures.opened told) (c.in-Ok.ensures.rest told).closed (omega (arith, c.requires))
    (subst (λ (s : Shape). HasLoaded s opened) c.in-Ok.ensures.shape (c.if-not-is_online.ensures.found told refl))

pub returns-clause-stays : goal.returns-clause-stays
returns-clause-stays g c = λ told.
    stays (g.P.Pool.shape c.args.pool) (g.P.Pool.disk c.args.pool).state (g.P.Pool.disk c.in-Ok.journal.pool).state _ _ _ _ (c.in-Ok.ensures.opened told) (g.P.Pool.disk c.into_pool.result).state
    (ap (λ p. (g.P.Pool.disk p).state) c.into_pool.ensures ∙ c.if-not-is_online.ensures.reads.same told)
