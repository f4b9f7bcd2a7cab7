-- Places for a number of tracks.
use Rattle.std.specs.Prelude.{◌≡◌, ℕ, ◌+◌, ◌*◌, ◌-◌, ◌/◌, ◌%◌, ◌<◌, ◌≤◌}
use Rattle.ckd_image.specs.Device.{ceil_div}
use Rattle.free_map.specs.declared.run.Run.{Run}

-- a need in whole steps
abbrev pub rounded : ℕ → ℕ → ℕ
rounded need step = ceil_div need step * step

-- of a run, the part that lies on whole steps
abbrev pub aligned_part : ℕ → Run → Run
aligned_part step run = record { first = rounded run.first step; len = (run.first + run.len) / step * step - rounded run.first step }

-- from a multiple of the step on, as many tracks of a set follow as the need has in whole steps
pub record IsPlace (set : ℕ → Type 0) (need step start : ℕ) : Type 0 where
  pub aligned : start % step ≡ 0
  pub held : (track : ℕ) → start ≤ track → track < start + rounded need step → set track

-- no place is lower
pub record IsLowestPlace (set : ℕ → Type 0) (need step start : ℕ) : Type 0 where
  pub place : IsPlace set need step start
  pub lowest : (other : ℕ) → IsPlace set need step other → start ≤ other
