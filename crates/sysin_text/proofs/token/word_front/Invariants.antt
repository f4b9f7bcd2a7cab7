use Rattle.std.proofs.Common.{◌≡◌, ◌++◌, take, drop}
use Rattle.sysin_text.specs.Signs.{word_front}
use Rattle.sysin_text.proofs.token.word_front.Given as goal

abbrev pub invariant-loop-at : goal.invariant-loop-at
invariant-loop-at l = word_front l.bytes ≡ take l.at l.bytes ++ word_front (drop l.at l.bytes)
