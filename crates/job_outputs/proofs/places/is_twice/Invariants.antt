use Rattle.std.proofs.Common.{◌≡◌, ℕ, ◌<◌, Some, IsTrue}
use Rattle.std.specs.Prelude.{slice_get}
use Rattle.job_outputs.proofs.places.is_twice.Given as goal

-- whether the name was met so far, which it was once at most
abbrev pub invariant-loop-other : goal.invariant-loop-other
invariant-loop-other l =
    ((place : ℕ) → place < l.other-index → slice_get l.names place ≡ Some l.name → IsTrue l.seen)
    × (IsTrue l.seen → (place : ℕ) × (place < l.other-index) × (slice_get l.names place ≡ Some l.name))
    × ((place later : ℕ) → place < later → later < l.other-index → slice_get l.names place ≡ Some l.name → slice_get l.names later ≡ Some l.name → ⊥)
