-- What contracts see of a reel.
use Rattle.std.specs.Prelude.{ℕ, List, Option}

-- what it holds and what is left to be read, where it tells, and its count of faults
pub record TapeSeen : Type 0 where
  pub held : Option (List ℕ)
  pub left : Option (List ℕ)
  pub faults : ℕ
