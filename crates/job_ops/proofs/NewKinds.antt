-- Extents say one step of a search for a place.
use Rattle.std.proofs.Common.{◌≡◌, inl, inr, ℕ, List, sym, ◌∙◌}
use Rattle.volume_model.specs.Unit.{Extent}
use Rattle.plan_core.specs.Consolidate.{IsStepOf}

pub one_step : (heads : ℕ) (extents : List Extent) (a b : ℕ) → IsStepOf heads extents a → IsStepOf heads extents b → a ≡ b
one_step heads extents a b (inl one) (inl other) = one.1 ∙ sym other.1
one_step heads extents a b (inl one) (inr other) = absurd (other.0 one.0)
one_step heads extents a b (inr one) (inl other) = absurd (one.0 other.0)
one_step heads extents a b (inr one) (inr other) = one.1 ∙ sym other.1
