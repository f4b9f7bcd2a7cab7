use Rattle.std.proofs.Common.{◌≤◌, length}
use Rattle.run_lines.proofs.Appending.{HasWritten}
use Rattle.run_lines.proofs.writing.write_all.Given as goal

abbrev pub invariant-loop-rest : goal.invariant-loop-rest
invariant-loop-rest g l = record {
  later : g.O.Sink.faults l.fn.out ≤ g.O.Sink.faults l.out;
  written : HasWritten (g.O.Sink.taken l.fn.out) (g.O.Sink.taken l.out) l.text l.rest;
}

abbrev pub decreases-loop-rest : goal.decreases-loop-rest
decreases-loop-rest g l = length l.rest
