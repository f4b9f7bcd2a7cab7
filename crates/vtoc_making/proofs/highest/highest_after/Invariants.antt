use Rattle.std.proofs.Common.{◌≡◌, take, filter}
use Rattle.vtoc_making.specs.Places.{is_one_after, last_of}
use Rattle.vtoc_making.proofs.highest.highest_after.Given as goal

abbrev pub invariant-loop-placed : goal.invariant-loop-placed
invariant-loop-placed l = l.highest ≡ last_of (filter (is_one_after l.gone l.put) (take l.placed-index l.records))
