use Rattle.std.proofs.Common.{◌≡◌, ℕ, ◌<◌, ◌≤◌, get_or}
use Rattle.vol_label.proofs.serial.is_blank_from.Given as goal

abbrev pub invariant-loop-place : goal.invariant-loop-place
invariant-loop-place l = (k : ℕ) → l.start ≤ k → k < l.place → get_or l.text k 0 ≡ 0x40
