use Rattle.std.proofs.Common.{◌≡◌, take, min, All}
use Rattle.std.specs.Prelude.{IsTrue}
use Rattle.std.specs.Char.{is_ascii_digit}
use Rattle.desk_head.specs.Fields.{number}
use Rattle.desk_head.proofs.field.number_of.Given as goal

abbrev pub invariant-loop-byte : goal.invariant-loop-byte
invariant-loop-byte l = record {
  value : l.value ≡ min (number (take l.byte-index l.text)) l.limit;
  digits : All (λ b. IsTrue (is_ascii_digit b)) (take l.byte-index l.text);
}
