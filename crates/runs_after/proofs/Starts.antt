-- Sets of tracks by truth values, and the tracks with which their runs begin.
use Rattle.std.proofs.Common.{ℕ, zero, suc, ◌+◌, Bool, false, ◌&&◌, ◌||◌, not, List, [], ◌∷◌}
use Rattle.std.specs.Prelude.{nat_le, nat_lt}
use Rattle.free_map.specs.declared.run.Run.{Run}
use Rattle.runs_after.specs.After.{bit}

-- whether a track is one of a run's, or of one of several
abbrev pub holds : Run → ℕ → Bool
holds run track = nat_le run.first track && nat_lt track (run.first + run.len)

abbrev pub in_runs : List Run → ℕ → Bool
in_runs [] track = false
in_runs (run ∷ runs) track = holds run track || in_runs runs track

-- whether the track before one is in a set
abbrev pub before : (ℕ → Bool) → ℕ → Bool
before set zero = false
before set (suc track) = set track

-- a run begins at a track
abbrev pub starts_at : (ℕ → Bool) → ℕ → Bool
starts_at set track = set track && not (before set track)

-- how many runs begin below a track
abbrev pub starts : (ℕ → Bool) → ℕ → ℕ
starts set zero = 0
starts set (suc limit) = starts set limit + bit (starts_at set limit)
