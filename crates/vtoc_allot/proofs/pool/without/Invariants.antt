use Rattle.std.proofs.Common.{◌≡◌, take, filter, not}
use Rattle.volume_model.specs.Directory.{same_place}
use Rattle.vtoc_allot.proofs.pool.without.Given as goal

abbrev pub invariant-loop-other : goal.invariant-loop-other
invariant-loop-other l = l.rest ≡ filter (λ other. not (same_place l.place other)) (take l.other-index l.pool)
