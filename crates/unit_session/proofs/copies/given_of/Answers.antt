use Rattle.std.proofs.Common.{◌≡◌, ◌∙◌, ℕ, List, Some, sym, ap}
use Rattle.std.specs.Prelude.{slice_get}
use Rattle.volume_change.specs.declared.change.Change.{Change}
use Rattle.unit_session.proofs.GivenPlans.{given_target}
use Rattle.unit_session.proofs.copies.given_of.Goals as goal

pub given_by-requires : goal.given_by-requires
given_by-requires c =
    let plan = c.args.plan.now in
    let one = c.in-Given-Some in
    let at : slice_get plan.changes 0 ≡ Some one.field-0-1.now = ap (λ (l : List (ℕ × Change)). slice_get l 0) (sym c.as_slice.ensures) ∙ sym one.ensures.value in
    given_target c.args.units.now plan one.field-0-1.now c.requires one.is-0 at
