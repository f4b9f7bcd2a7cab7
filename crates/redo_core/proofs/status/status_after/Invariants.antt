use Rattle.std.proofs.Common.{ℕ, ◌≡◌, ◌<◌, take}
use Rattle.redo_core.specs.Reading.{control_after, fills_after, fills_of}
use Rattle.redo_core.proofs.status.status_after.Given as goal

abbrev pub invariant-loop-entry : goal.invariant-loop-entry
invariant-loop-entry g l = record {
  control : l.status.control ≡ control_after l.journal (take l.entry-index l.entries) l.fn.before.control;
  fills : (u : ℕ) → u < 64 → fills_of l.status.fills u ≡ fills_after l.journal (take l.entry-index l.entries) (fills_of l.fn.before.fills) u;
}
