-- Counts of faults.
use Rattle.std.specs.Prelude.{ℕ, ◌-◌, ◌<◌, ◌≤◌, ◌^◌, Result, IsErr}

-- the count rose, or stands at the last value of its type
abbrev pub Rose : ℕ → ℕ → Type 0
Rose before now = now < 2 ^ 64 - 1 → before < now

-- a count that never falls, and that rose where there is a refusal
pub record HasCause {T E : Type 0} (before now : ℕ) (result : Result T E) : Type 0 where
  pub later : before ≤ now
  pub cause : IsErr result → Rose before now
