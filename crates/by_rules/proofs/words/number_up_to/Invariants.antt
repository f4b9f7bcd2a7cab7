use Rattle.std.proofs.Common.{◌≡◌, ◌≤◌, take, true}
use Rattle.std.specs.List.{list_all}
use Rattle.std.specs.Char.{is_ascii_digit}
use Rattle.by_rules.specs.Words.{decimal}
use Rattle.by_rules.proofs.words.number_up_to.Given as goal

abbrev pub invariant-loop-byte : goal.invariant-loop-byte
invariant-loop-byte l = (l.number ≡ decimal (take l.byte-index l.word)) × (l.number ≤ l.limit) × (list_all is_ascii_digit (take l.byte-index l.word) ≡ true)
