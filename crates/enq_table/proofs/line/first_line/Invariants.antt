use Rattle.std.proofs.Common.{take}
use Rattle.enq_table.proofs.Marks.{Without}
use Rattle.enq_table.proofs.line.first_line.Given as goal

abbrev pub invariant-loop-place : goal.invariant-loop-place
invariant-loop-place l = Without 10 (take l.place l.text)
