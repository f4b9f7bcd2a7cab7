use Rattle.std.proofs.Common.{◌≡◌, ⊎_elim, ℕ, ◌<◌, List, Some, false, sym, ap, subst, ◌∙◌, arith}
use Rattle.std.specs.Prelude.{slice_get}
use Rattle.std.proofs.lemmas.Option.{slice_get_read, slice_get_cases}
use Rattle.redo_core.specs.Reading.{journal_of}
use Rattle.unit_load.specs.Kept.{IsKept}
use Rattle.move_core.specs.Stands.{IsSettled}
use Rattle.unit_session.proofs.Modelling.{model_at}
use Rattle.unit_session.proofs.session.Session.unit.Goals as goal

pub returns-clause-model : goal.returns-clause-model
returns-clause-model g c told facts models model same settled at =
    let was = c.self.invariant in
    let unit = c.args.unit in
    let units = c.self.inside.units.items in
    let inner = c.self.inside.journal.pool in
    let pool_is = ap (λ view. view.pool) c.self.view_is in
    let volumes = ap (λ pool. journal_of (g.P.Pool.shape pool)) pool_is in
    let less : unit < journal_of (g.P.Pool.shape inner) = omega (arith, c.requires, volumes) in
    let there = slice_get_read units (journal_of (g.P.Pool.shape inner)) unit c.index.result.now (sym was.2) less c.index.ensures in
    model_at (same ∙ ap g.P.Pool.shape (sym pool_is)) (subst (λ pool. IsSettled facts (g.P.Pool.disk pool).state models) (sym pool_is) settled)
    units unit c.index.result.now model (c.rests.ensures told) was.0 (was.4 told) less there at

pub returns-clause-kept : goal.returns-clause-kept
returns-clause-kept g c =
    let was = c.self.invariant in
    let unit = c.args.unit in
    let units = c.self.inside.units.items in
    let vtocs = c.self.inside.vtocs.items in
    let inner = c.self.inside.journal.pool in
    let pool_is = ap (λ view. view.pool) c.self.view_is in
    let volumes = ap (λ pool. journal_of (g.P.Pool.shape pool)) pool_is in
    let less : unit < journal_of (g.P.Pool.shape inner) = omega (arith, c.requires, volumes) in
    let there = slice_get_read units (journal_of (g.P.Pool.shape inner)) unit c.index.result.now (sym was.2) less c.index.ensures in
    let slots : (list : List ℕ) × (slice_get vtocs unit ≡ Some list) = ⊎_elim
    (λ within. (within.0, within.2))
    (λ past. absurd (omega (arith, less, past.0, was.3.count)))
    (slice_get_cases vtocs unit).1 in (
      slots.0,
      subst (λ pool. IsKept false ((g.P.Pool.shape pool).head unit) ((g.P.Pool.shape pool).blocks unit) c.index.result.now slots.0) pool_is
          (was.3.each unit c.index.result.now slots.0 there slots.1),
    )
