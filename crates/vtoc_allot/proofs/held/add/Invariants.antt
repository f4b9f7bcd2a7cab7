use Rattle.std.proofs.Common.{◌≡◌, ◌++◌, take}
use Rattle.vtoc_allot.proofs.held.add.Given as goal

abbrev pub invariant-loop-place : goal.invariant-loop-place
invariant-loop-place l = l.places ≡ l.initial.places ++ take l.place-index l.more
