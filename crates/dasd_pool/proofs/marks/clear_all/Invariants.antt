use Rattle.std.proofs.Common.{◌≡◌, ℕ, ◌<◌, [], length, false, slice_index_or}
use Rattle.dasd_pool.specs.Marks.{lists_of, is_marked}
use Rattle.dasd_pool.proofs.marks.clear_all.Given as goal

abbrev pub invariant-loop-unit : goal.invariant-loop-unit
invariant-loop-unit l = record {
  clear : (u b : ℕ) → u < l.unit → is_marked (lists_of l.written.items) u b ≡ false;
  lengths : (u : ℕ) → length (slice_index_or (lists_of l.written.items) u []) ≡ length (slice_index_or (lists_of l.fn.written.items) u []);
  count : length l.written.items ≡ length l.fn.written.items;
}
