use Rattle.std.proofs.Common.{ℕ, ◌≡◌, ◌<◌, length, slice_index_or, false}
use Rattle.redo_core.specs.Format.{is_filling}
use Rattle.redo_core.proofs.survey.fills_in.Given as goal

abbrev pub invariant-loop-unit : goal.invariant-loop-unit
invariant-loop-unit l = record {
  size : length l.fills ≡ 64;
  each : (u : ℕ) → u < l.unit → slice_index_or l.fills u false ≡ is_filling l.block u;
}
