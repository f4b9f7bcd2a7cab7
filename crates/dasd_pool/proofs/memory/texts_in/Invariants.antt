use Rattle.std.proofs.Common.{◌≡◌, take}
use Rattle.dasd_pool.specs.Calls.{items_of, texts_of}
use Rattle.dasd_pool.proofs.memory.texts_in.Given as goal

abbrev pub invariant-loop-unit : goal.invariant-loop-unit
invariant-loop-unit l = items_of l.texts.items ≡ take l.unit-index (texts_of l.units)
