use Rattle.std.proofs.Common.{◌≡◌, ◌∙◌, ℕ, List, Some, sym, ap, subst}
use Rattle.std.specs.Prelude.{slice_get}
use Rattle.volume_change.specs.declared.change.Change.{Change}
use Rattle.unit_steps.specs.declared.plan.Tracks.{Tracks}
use Rattle.unit_session.proofs.CopyingPlans.{plan_copied, first_copied, IsCopied}
use Rattle.unit_session.proofs.copies.copies_of.Goals as goal

pub copies_from-requires-clause-source : goal.copies_from-requires-clause-source
copies_from-requires-clause-source c =
    let units = c.args.units.now in
    let plan = c.args.plan.now in
    let one = c.in-Rows-Some in
    let copied = subst (λ (t : Tracks). IsCopied units t plan.changes) one.is-0 (plan_copied units plan.step plan.tracks plan.changes c.requires.plan) in
    let at : slice_get plan.changes 0 ≡ Some one.field-0-1.now = ap (λ (l : List (ℕ × Change)). slice_get l 0) (sym c.as_slice.ensures) ∙ sym one.ensures.value in
    (first_copied units one.unit one.name plan.changes one.field-0-1.now at copied).0

pub copies_from-requires-clause-target : goal.copies_from-requires-clause-target
copies_from-requires-clause-target c =
    let units = c.args.units.now in
    let plan = c.args.plan.now in
    let one = c.in-Rows-Some in
    let copied = subst (λ (t : Tracks). IsCopied units t plan.changes) one.is-0 (plan_copied units plan.step plan.tracks plan.changes c.requires.plan) in
    let at : slice_get plan.changes 0 ≡ Some one.field-0-1.now = ap (λ (l : List (ℕ × Change)). slice_get l 0) (sym c.as_slice.ensures) ∙ sym one.ensures.value in
    (first_copied units one.unit one.name plan.changes one.field-0-1.now at copied).1
