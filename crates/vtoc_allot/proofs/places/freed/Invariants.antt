use Rattle.std.proofs.Common.{◌≡◌, take, filter, not}
use Rattle.vtoc_allot.specs.Allotted.{is_at}
use Rattle.vtoc_allot.proofs.places.freed.Given as goal

abbrev pub invariant-loop-place : goal.invariant-loop-place
invariant-loop-place l = l.freed ≡ filter (λ place. not (is_at l.taken place)) (take l.place-index l.given)
