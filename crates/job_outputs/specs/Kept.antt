-- Outputs that a statement leaves as they were.
use Rattle.std.specs.Prelude.{◌≡◌, ◌≢◌, ◌⊎◌, ℕ, List, map, Contains, Some, slice_get}
use Rattle.dump_fmt.specs.declared.outs.OutState.TheVariants.{Unused}
use Rattle.dump_fmt.specs.Outs.{OutSeen}

-- Every output but those at these places is the very same, and each has the name that it had. One at these places isn't unused then, or is the very same.
pub record IsKeptBut {X : Type 0} (seen : X → OutSeen) (places : List ℕ) (before after : List X) : Type 0 where
  pub names_are : map (λ out. (seen out).name) after ≡ map (λ out. (seen out).name) before
  pub kept : (place : ℕ) → ¬ Contains places place → slice_get after place ≡ slice_get before place
  pub touched : (place : ℕ) (out : X) → Contains places place → slice_get after place ≡ Some out → ((seen out).state ≢ Unused) ⊎ (slice_get before place ≡ Some out)

-- The outputs have their names, and one that was used before is the very same. So is one that is unused still.
pub record KeepsUsed {X : Type 0} (seen : X → OutSeen) (before after : List X) : Type 0 where
  pub names_are : map (λ out. (seen out).name) after ≡ map (λ out. (seen out).name) before
  pub used : (place : ℕ) (out : X) → slice_get before place ≡ Some out → (seen out).state ≢ Unused → slice_get after place ≡ Some out
  pub unused : (place : ℕ) (out : X) → slice_get after place ≡ Some out → (seen out).state ≡ Unused → slice_get before place ≡ Some out
