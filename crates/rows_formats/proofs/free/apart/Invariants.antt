use Rattle.std.proofs.Common.{ℕ, take}
use Rattle.free_map.specs.Runs.{HasTrack, InRuns}
use Rattle.rows_formats.proofs.free.apart.Given as goal

abbrev pub invariant-loop-free : goal.invariant-loop-free
invariant-loop-free l = (track : ℕ) → HasTrack l.run track → ¬ InRuns (take l.free-index l.runs) track
