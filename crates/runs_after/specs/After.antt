-- Which tracks are free once an extent moved, and what lies beside a run.
use Rattle.std.specs.Prelude.{◌≡◌, ℕ, ◌+◌, ◌-◌, ◌≤◌, ◌⊎◌, ◌↔◌, Bool, IsTrue, if◌then◌else◌}
use Rattle.free_map.specs.declared.run.Run.{Run}
use Rattle.free_map.specs.Free.{Free, IsFree}
use Rattle.free_map.specs.Runs.{HasTrack}

-- the tracks that were free and those that it left, but for those that it took
abbrev pub IsFreeThen : Free → Run → Run → ℕ → Type 0
IsFreeThen free from to track = (IsFree free track ⊎ HasTrack from track) × ¬ HasTrack to track

-- 1 for what is true
abbrev pub bit : Bool → ℕ
bit b = if b then 1 else 0

-- so many of the two tracks beside a run are in a set
pub record IsBeside (set : ℕ → Type 0) (run : Run) (count : ℕ) : Type 0 where
  pub before : Bool
  pub behind : Bool
  pub before_is : IsTrue before ↔ ((1 ≤ run.first) × set (run.first - 1))
  pub behind_is : IsTrue behind ↔ set (run.first + run.len)
  pub count_is : count ≡ bit before + bit behind
