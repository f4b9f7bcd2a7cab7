use Rattle.std.proofs.Common.{◌≡◌, take}
use Rattle.vtoc_allot.specs.Allotted.{pool_of}
use Rattle.vtoc_allot.proofs.pool.pool_of.Given as goal

abbrev pub invariant-loop-placed : goal.invariant-loop-placed
invariant-loop-placed l = l.pool ≡ pool_of (take l.placed-index l.records) l.given
