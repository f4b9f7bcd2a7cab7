-- The types of extents as runs are those of their fields.
use Rattle.std.proofs.Common.{◌≡◌, ℕ, List, [], ◌∷◌, refl}
use Rattle.std.specs.List.{AllByRecursion}
use Rattle.std.proofs.lemmas.List.Elements.{recursion_from_All, All-from_recursion}
use Rattle.dscb_rec.specs.declared.field.Extent.{Extent as Field}
use Rattle.volume_model.specs.Pinned.{AreByCylinders}
use Rattle.volume_model.specs.Unit.{Extent}
use Rattle.plan_core.specs.Extents.{extents_at}
use Rattle.plan_core.proofs.Sums.{at}

all_at : (heads : ℕ) (extents : List Field) → AllByRecursion (λ extent. extent.kind ≡ 0x81) extents → AllByRecursion (λ (extent : Extent). extent.kind ≡ 0x81) (extents_at heads extents)
all_at heads [] all = tt
all_at heads (extent ∷ extents) all = (all.0, all_at heads extents all.1)

all_from : (heads : ℕ) (extents : List Field) → AllByRecursion (λ (extent : Extent). extent.kind ≡ 0x81) (extents_at heads extents) → AllByRecursion (λ extent. extent.kind ≡ 0x81) extents
all_from heads [] all = tt
all_from heads (extent ∷ extents) all = (all.0, all_from heads extents all.1)

some_at : (heads : ℕ) (extents : List Field) → extents_at heads extents ≡ [] → extents ≡ []
some_at heads [] e = refl
some_at heads (extent ∷ extents) e = let q : at heads extent ∷ extents_at heads extents ≡ [] = e in cc

none_from : (heads : ℕ) (extents : List Field) → extents ≡ [] → extents_at heads extents ≡ []
none_from heads extents e = λ i. extents_at heads (e i)

pub cylinders_at : (heads : ℕ) (extents : List Field) → AreByCylinders (λ extent. extent.kind) extents → AreByCylinders (λ (extent : Extent). extent.kind) (extents_at heads extents)
cylinders_at heads extents h = (
  λ e. h.0 (some_at heads extents e),
  All-from_recursion (λ (extent : Extent). extent.kind ≡ 0x81) (extents_at heads extents) (all_at heads extents (recursion_from_All (λ (extent : Field). extent.kind ≡ 0x81) extents h.1)),
)

pub cylinders_from : (heads : ℕ) (extents : List Field) → AreByCylinders (λ (extent : Extent). extent.kind) (extents_at heads extents) → AreByCylinders (λ extent. extent.kind) extents
cylinders_from heads extents h = (
  λ e. h.0 (none_from heads extents e),
  All-from_recursion (λ (extent : Field). extent.kind ≡ 0x81) extents (all_from heads extents (recursion_from_All (λ (extent : Extent). extent.kind ≡ 0x81) (extents_at heads extents) h.1)),
)
