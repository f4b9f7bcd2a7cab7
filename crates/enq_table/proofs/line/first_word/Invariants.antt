use Rattle.std.proofs.Common.{take}
use Rattle.enq_table.proofs.Marks.{Without}
use Rattle.enq_table.proofs.line.first_word.Given as goal

abbrev pub invariant-loop-place : goal.invariant-loop-place
invariant-loop-place l = Without 32 (take l.place l.text)
