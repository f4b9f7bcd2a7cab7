use Rattle.std.proofs.Common.{◌≡◌, length}
use Rattle.volume_change.proofs.Names.{AreCoded, AreBlank}
use Rattle.volume_change.proofs.name.name_bytes.Given as goal

-- the characters so far, and blanks behind them
abbrev pub invariant-loop-place : goal.invariant-loop-place
invariant-loop-place l = record {
  long : length l.bytes ≡ 44;
  characters : AreCoded l.name l.bytes l.place;
  blanks : AreBlank l.bytes l.place;
}
