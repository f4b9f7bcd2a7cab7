use Rattle.std.proofs.Common.{◌≡◌, ◌++◌, drop}
use Rattle.free_map.proofs.Gaps.{gaps}
use Rattle.free_map.proofs.unused.gaps.Given as goal

abbrev pub invariant-loop-run : goal.invariant-loop-run
invariant-loop-run l = l.free.items ++ gaps l.next l.usable (drop l.run-index l.used) ≡ gaps 0 l.usable l.used
