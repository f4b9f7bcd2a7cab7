-- The chain of format 5s, on the way.
use Rattle.std.specs.Prelude.{◌≡◌, ℕ, ◌+◌, ◌<◌, Bool, List, [], ◌++◌, length}
use Rattle.volume_model.specs.declared.place.Placed.{Placed}
use Rattle.vtoc_check.specs.FiveChains.{AreAmong, chain_behind_five}

-- so many steps from the first format 5 on
pub record IsWalkedTo (heads : ℕ) (records : List Placed) (most first step at : ℕ) (marks : List Bool) : Type 0 where
  pub long : length marks ≡ length records
  pub inside : at < length records
  pub earlier : List Placed
  pub among : AreAmong records earlier marks
  pub left : ℕ
  pub left_is : left + step ≡ most
  pub front : (chain_behind_five heads records most [] first).0 ≡ earlier ++ (chain_behind_five heads records left earlier at).0
  pub told_is : (chain_behind_five heads records most [] first).1 ≡ (chain_behind_five heads records left earlier at).1
