use Rattle.std.proofs.Common.{◌+◌, ◌≤◌, length}
use Rattle.std.specs.Prelude.{IfSome}
use Rattle.enq_table.specs.Lines.{lines_behind}
use Rattle.enq_table.proofs.Taking.{IsTaking}
use Rattle.enq_table.proofs.reading.read_held.Given as goal

abbrev pub invariant-loop-rest : goal.invariant-loop-rest
invariant-loop-rest l = IsTaking l.fn.text l.held l.number (lines_behind l.rest) × IfSome l.rest (λ text. l.number + length text.now ≤ 1048577)

abbrev pub decreases-loop-rest : goal.decreases-loop-rest
decreases-loop-rest l = length (lines_behind l.rest)
