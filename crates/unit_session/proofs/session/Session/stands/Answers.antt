use Rattle.std.proofs.Common.{◌≡◌, ⊎_elim, ℕ, ◌<◌, List, Some, length, false, sym, ap, subst, ◌∙◌, arith}
use Rattle.std.specs.Prelude.{slice_get}
use Rattle.std.proofs.lemmas.Option.{slice_get_within, slice_get_cases}
use Rattle.unit_load.specs.Kept.{IsKept}
use Rattle.move_core.specs.Stands.{IsSettled}
use Rattle.unit_steps.specs.Loaded.{AreModels}
use Rattle.unit_session.proofs.Modelling.{models_at}
use Rattle.unit_session.proofs.session.Session.stands.Goals as goal

pub returns-clause-kept : goal.returns-clause-kept
returns-clause-kept g c unit state at =
    let was = c.self.invariant in
    let units = c.self.inside.units.items in
    let vtocs = c.self.inside.vtocs.items in
    let pool_is = ap (λ view. view.pool) c.self.view_is in
    let there = ap (λ view. slice_get view.units unit) c.self.view_is ∙ at in
    let less : unit < length units = slice_get_within units unit state there in
    let slots : (list : List ℕ) × (slice_get vtocs unit ≡ Some list) = ⊎_elim
    (λ within. (within.0, within.2))
    (λ past. absurd (omega (arith, less, past.0, was.2, was.3.count)))
    (slice_get_cases vtocs unit).1 in (
      slots.0,
      subst (λ pool. IsKept false ((g.P.Pool.shape pool).head unit) ((g.P.Pool.shape pool).blocks unit) state slots.0) pool_is (was.3.each unit state slots.0 there slots.1),
    )

pub returns-clause-models : goal.returns-clause-models
returns-clause-models g c told facts models same settled =
    let was = c.self.invariant in
    let pool_is = ap (λ view. view.pool) c.self.view_is in
    subst (λ view. AreModels view.units models) c.self.view_is
    (models_at (same ∙ ap g.P.Pool.shape (sym pool_is)) (subst (λ pool. IsSettled facts (g.P.Pool.disk pool).state models) (sym pool_is) settled)
    c.self.inside.units.items (c.rests.ensures told) was.0 was.2 (was.4 told))
