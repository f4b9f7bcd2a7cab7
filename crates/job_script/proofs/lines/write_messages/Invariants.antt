use Rattle.std.proofs.Common.{◌≤◌, length}
use Rattle.job_script.proofs.Printing.{HasLines}
use Rattle.job_script.proofs.lines.write_messages.Given as goal

abbrev pub invariant-loop-rest : goal.invariant-loop-rest
invariant-loop-rest g l = record {
  later : g.O.Sink.faults l.fn.out ≤ g.O.Sink.faults l.out;
  written : HasLines (g.O.Sink.taken l.fn.out) (g.O.Sink.taken l.out) l.statement l.messages l.rest;
}

abbrev pub decreases-loop-rest : goal.decreases-loop-rest
decreases-loop-rest g l = length l.rest
