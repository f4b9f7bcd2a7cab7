use Rattle.std.proofs.Common.{ℕ, ◌≡◌, ◌<◌, length}
use Rattle.dasd_pool.specs.Calls.{block_at, size_in}
use Rattle.dasd_pool.specs.Tears.{torn, trace_after, trace_first}
use Rattle.dasd_pool.proofs.memory.torn_unit.Given as goal

abbrev pub invariant-loop-block : goal.invariant-loop-block
invariant-loop-block l = record {
  same_length : length l.text.items ≡ length l.unit.blocks;
  blocks : (b : ℕ) → b < l.block → block_at (size_in l.unit.head) l.text.items b
      ≡ torn l.tear (trace_after l.number b (trace_first (block_at (size_in l.unit.head) l.unit.blocks b)) l.calls);
}
