use Rattle.std.proofs.Common.{ℕ, ◌≡◌, ◌<◌, length, slice_index}
use Rattle.std.specs.Int.{bit_at}
use Rattle.redo_core.proofs.control.bits.Given as goal

abbrev pub invariant-loop-unit : goal.invariant-loop-unit
invariant-loop-unit l = record {
  size : length l.bytes ≡ 64;
  each : (u : ℕ) → u < l.unit → slice_index l.bytes u ≡ bit_at l.fn.filling u;
}
