use Rattle.std.proofs.Common.{ℕ, ◌≡◌, ◌<◌, ◌≤◌, ◌+◌, take}
use Rattle.std.specs.Prelude.{IfSome}
use Rattle.dasd_pool.specs.Disk.{Image}
use Rattle.redo_core.specs.Reading.{placed, body_for}
use Rattle.redo_core.specs.Steps.{shown}
use Rattle.redo_core.proofs.opening.image_of.Given as goal

abbrev pub invariant-loop-target : goal.invariant-loop-target
invariant-loop-target l = record {
  at : l.place ≡ 4 + l.target-index;
  image : (size : ℕ → ℕ) (journal : ℕ) (image : Image) → placed image (body_for size journal image (take l.target-index l.targets)) l.unit l.block ≡ shown size journal image l.unit l.block l.found;
  within : IfSome l.found (λ place. (4 ≤ place) × (place < l.place));
}
