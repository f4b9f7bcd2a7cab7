use Rattle.std.proofs.Common.{◌≡◌, true, false, refl, sym, ◌∙◌}
use Rattle.vtoc_check.proofs.front.front.Goals as goal

pub returns-in_default-clause-fault : goal.returns-in_default-clause-fault
returns-in_default-clause-fault c = c.broken.ensures (λ _. c.args.slot.now) (rw c.in_default.is at c.in_ok-bytes.ensures, refl)

pub returns-then-not-has_geometry-clause-fault : goal.returns-then-not-has_geometry-clause-fault
returns-then-not-has_geometry-clause-fault c =
    c.broken-then-not-has_geometry.ensures (λ _. c.args.slot.now)
    ((c.in-Some.bytes, rw c.in-Some.is at c.in_ok-bytes.ensures, λ h. let e : false ≡ true = sym c.if-not-has_geometry.true ∙ c.has_geometry.ensures.1 h in cc), refl)

pub returns-then-not-has_vtoc_extent-clause-fault : goal.returns-then-not-has_vtoc_extent-clause-fault
returns-then-not-has_vtoc_extent-clause-fault c =
    c.broken-then-not-has_vtoc_extent.ensures (λ _. c.args.slot.now)
    ((c.in-Some.bytes, rw c.in-Some.is at c.in_ok-bytes.ensures, c.has_geometry.ensures.0 c.if-not-has_geometry.false, λ h. let e : false ≡ true = sym c.if-not-has_vtoc_extent.true ∙ c.has_vtoc_extent.ensures.1 h in cc), refl)
