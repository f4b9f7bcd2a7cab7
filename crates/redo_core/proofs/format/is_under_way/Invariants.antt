use Rattle.std.proofs.Common.{ℕ, ◌≡◌, ◌<◌, false}
use Rattle.redo_core.specs.Format.{is_filling}
use Rattle.redo_core.proofs.format.is_under_way.Given as goal

abbrev pub invariant-loop-unit : goal.invariant-loop-unit
invariant-loop-unit l = (u : ℕ) → u < l.unit → is_filling l.block u ≡ false
