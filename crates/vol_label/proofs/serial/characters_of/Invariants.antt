use Rattle.std.proofs.Common.{ℕ, ◌<◌, get_or}
use Rattle.vol_label.specs.Serial.{IsSerialByte}
use Rattle.vol_label.proofs.serial.characters_of.Given as goal

abbrev pub invariant-loop-place : goal.invariant-loop-place
invariant-loop-place l = (k : ℕ) → k < l.place → IsSerialByte (get_or l.text k 0)
