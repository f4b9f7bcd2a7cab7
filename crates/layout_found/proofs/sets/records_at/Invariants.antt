use Rattle.std.proofs.Common.{◌≡◌, map, take}
use Rattle.vtoc_check.specs.Reach.{record_in}
use Rattle.layout_found.proofs.sets.records_at.Given as goal

abbrev pub invariant-loop-index : goal.invariant-loop-index
invariant-loop-index l = l.found ≡ map (record_in l.records) (take l.index-index l.indices)
