use Rattle.std.proofs.Common.{◌≡◌, max, drop}
use Rattle.free_map.specs.Free.{longest_of}
use Rattle.free_map.proofs.sums.longest.Given as goal

abbrev pub invariant-loop-run : goal.invariant-loop-run
invariant-loop-run l = max l.longest (longest_of (drop l.run-index l.runs)) ≡ longest_of l.runs
