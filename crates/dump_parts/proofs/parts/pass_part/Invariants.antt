use Rattle.std.proofs.Common.{◌≡◌, ◌≤◌}
use Rattle.dump_fmt.specs.Front.{Front}
use Rattle.dump_fmt.specs.Parts.{DumpPart}
use Rattle.dump_parts.specs.Reading.{HasPart, IsWithin}
use Rattle.dump_parts.proofs.Ended.{HasMore}
use Rattle.dump_parts.proofs.Within.{tracks_left}
use Rattle.dump_parts.proofs.parts.pass_part.Given as goal

abbrev pub invariant-tracks : goal.invariant-tracks
invariant-tracks g l = record {
  some : HasPart (g.R.Tape.seen l.fn.reel) l.fn.reader;
  more : (front : Front) (part : DumpPart) → IsWithin (g.R.Tape.seen l.fn.reel) l.fn.reader front part → HasMore (g.R.Tape.seen l.reel) l.reader front part;
  head : l.reader.head ≡ l.fn.reader.head;
  same : (g.R.Tape.seen l.reel).held ≡ (g.R.Tape.seen l.fn.reel).held;
  later : (g.R.Tape.seen l.fn.reel).faults ≤ (g.R.Tape.seen l.reel).faults;
}

abbrev pub decreases-tracks : goal.decreases-tracks
decreases-tracks g l = tracks_left l.reader.standing.under_way
