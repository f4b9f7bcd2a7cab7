use Rattle.std.proofs.Common.{◌≡◌, ℕ, ◌<◌, ◌≤◌, length, get_or, Some}
use Rattle.vol_label.specs.CodePage.{ascii_of}
use Rattle.vol_label.specs.Serial.{IsSerialCharacter}
use Rattle.vol_label.proofs.serial.Serial.read.Given as goal

abbrev pub invariant-loop-place : goal.invariant-loop-place
invariant-loop-place l = record {
  six : length l.serial ≡ 6;
  characters : (k : ℕ) → k < l.place → IsSerialCharacter (get_or l.text k 0);
  coded : (k : ℕ) → k < l.place → ascii_of (get_or l.serial k 0) ≡ Some (get_or l.text k 0);
  blanks : (k : ℕ) → l.place ≤ k → k < 6 → get_or l.serial k 0 ≡ 0x40;
}
