use Rattle.std.proofs.Common.{ℕ, ◌<◌, ◌≤◌}
use Rattle.dasd_pool.specs.Calls.{size_of}
use Rattle.dasd_pool.proofs.memory.largest_size.Given as goal

abbrev pub invariant-loop-unit : goal.invariant-loop-unit
invariant-loop-unit l = (u : ℕ) → u < l.unit-index → size_of l.units u ≤ l.largest
