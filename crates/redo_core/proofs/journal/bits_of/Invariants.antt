use Rattle.std.proofs.Common.{ℕ, ◌≡◌, ◌<◌, ◌≤◌}
use Rattle.std.specs.Prelude.{◌==◌}
use Rattle.std.specs.Int.{bit_at}
use Rattle.redo_core.specs.Reading.{fills_of}
use Rattle.redo_core.proofs.journal.bits_of.Given as goal

abbrev pub invariant-loop-unit : goal.invariant-loop-unit
invariant-loop-unit l = record {
  flags : (u : ℕ) → u < l.unit → (bit_at l.filling u == 1) ≡ fills_of l.fills u;
  none : (u : ℕ) → l.unit ≤ u → bit_at l.filling u ≡ 0;
}
