use Rattle.std.proofs.Common.{◌≡◌, ◌+◌, ◌≤◌, take}
use Rattle.free_map.specs.Free.{count_of}
use Rattle.free_map.proofs.several.cut_front.Given as goal

abbrev pub invariant-loop-run : goal.invariant-loop-run
invariant-loop-run l = (l.chosen.items ≡ take l.run-index l.runs) × (count_of (take l.run-index l.runs) + l.left ≡ l.tracks) × (1 ≤ l.left)
