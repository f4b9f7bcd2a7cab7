use Rattle.std.proofs.Common.{◌≡◌, ◌≤◌}
use Rattle.dump_read.proofs.ReadAll.{HasFront, pieces_left}
use Rattle.dump_read.proofs.reader.DumpReader.check.Given as goal

abbrev pub invariant-pieces : goal.invariant-pieces
invariant-pieces g l = record {
  read : HasFront (g.R.Tape.seen l.reel) l.reader;
  same : (g.R.Tape.seen l.reel).held ≡ (g.R.Tape.seen l.fn.reel).held;
  later : (g.R.Tape.seen l.fn.reel).faults ≤ (g.R.Tape.seen l.reel).faults;
}

abbrev pub decreases-pieces : goal.decreases-pieces
decreases-pieces g l = pieces_left l.reader.standing
