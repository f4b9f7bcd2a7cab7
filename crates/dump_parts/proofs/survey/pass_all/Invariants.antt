use Rattle.std.proofs.Common.{◌≡◌, ◌≤◌}
use Rattle.dump_read.proofs.ReadAll.{pieces_left}
use Rattle.dump_parts.specs.Reading.{HasRead}
use Rattle.dump_parts.proofs.survey.pass_all.Given as goal

abbrev pub invariant-pieces : goal.invariant-pieces
invariant-pieces g l = record {
  read : HasRead (g.R.Tape.seen l.reel) l.reader;
  head : l.reader.head ≡ l.fn.reader.head;
  same : (g.R.Tape.seen l.reel).held ≡ (g.R.Tape.seen l.fn.reel).held;
  later : (g.R.Tape.seen l.fn.reel).faults ≤ (g.R.Tape.seen l.reel).faults;
}

abbrev pub decreases-pieces : goal.decreases-pieces
decreases-pieces g l = pieces_left l.reader.standing
