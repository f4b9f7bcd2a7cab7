use Rattle.std.proofs.Common.{◌≡◌, ◌+◌, ◌++◌, length, take, map}
use Rattle.std.specs.Prelude.{unwrap_or}
use Rattle.vol_label.specs.CodePage.{ascii_of}
use Rattle.run_lines.proofs.line.Line.push_serial.Given as goal

abbrev pub invariant-loop-byte : goal.invariant-loop-byte
invariant-loop-byte l = record {
  text : l.self ≡ l.fn.self ++ map (λ byte. unwrap_or (ascii_of byte) 63) (take l.byte-index l.text);
  length : length l.self ≡ length l.fn.self + l.byte-index;
}
