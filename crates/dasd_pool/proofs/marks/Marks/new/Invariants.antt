use Rattle.std.proofs.Common.{◌≡◌, take, map}
use Rattle.dasd_pool.specs.Marks.{lists_of, unmarked}
use Rattle.dasd_pool.proofs.marks.Marks.new.Given as goal

abbrev pub invariant-loop-unit : goal.invariant-loop-unit
invariant-loop-unit l = lists_of l.written.items ≡ take l.unit-index (map unmarked l.units)
