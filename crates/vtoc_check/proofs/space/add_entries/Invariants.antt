use Rattle.std.proofs.Common.{◌≡◌, ◌++◌}
use Rattle.vtoc_check.proofs.Spaces.{entries_below}
use Rattle.vtoc_check.proofs.space.add_entries.Given as goal

abbrev pub invariant-loop-place : goal.invariant-loop-place
invariant-loop-place l = l.runs.items ≡ l.fn.runs.items ++ entries_below l.heads l.bytes l.place
