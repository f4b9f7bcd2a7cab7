use Rattle.std.proofs.Common.{◌≡◌, take}
use Rattle.vtoc_allot.proofs.places.copied.Given as goal

abbrev pub invariant-loop-place : goal.invariant-loop-place
invariant-loop-place l = l.copy ≡ take l.place-index l.places
