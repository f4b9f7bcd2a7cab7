use Rattle.std.proofs.Common.{◌≡◌, take, true}
use Rattle.std.specs.List.{list_all}
use Rattle.sysin_text.specs.Signs.{is_word_byte}
use Rattle.by_rules.proofs.token.split_word.Given as goal

abbrev pub invariant-loop-at : goal.invariant-loop-at
invariant-loop-at l = list_all is_word_byte (take l.at l.text) ≡ true
