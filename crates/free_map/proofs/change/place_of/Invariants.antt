use Rattle.std.proofs.Common.{◌+◌, ◌<◌, All, take}
use Rattle.free_map.proofs.change.place_of.Given as goal

abbrev pub invariant-loop-place : goal.invariant-loop-place
invariant-loop-place l = All (λ run. run.first + run.len < l.track) (take l.place l.runs)
