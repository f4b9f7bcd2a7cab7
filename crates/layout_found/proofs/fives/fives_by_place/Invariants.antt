use Rattle.std.proofs.Common.{◌≡◌, filter, take}
use Rattle.vtoc_check.specs.FiveRule.{is_five}
use Rattle.layout_found.proofs.fives.fives_by_place.Given as goal

abbrev pub invariant-loop-placed : goal.invariant-loop-placed
invariant-loop-placed l = l.fives ≡ filter is_five (take l.placed-index l.records)
