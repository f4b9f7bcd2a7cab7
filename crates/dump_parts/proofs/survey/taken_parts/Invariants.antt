use Rattle.std.proofs.Common.{◌≡◌, ◌≤◌, ◌-◌, ◌^◌}
use Rattle.dump_fmt.specs.Front.{Front}
use Rattle.dump_parts.specs.Reading.{IsBetween}
use Rattle.dump_parts.specs.Taken.{AreTaken}
use Rattle.dump_parts.proofs.survey.taken_parts.Given as goal

abbrev pub invariant-parts : goal.invariant-parts
invariant-parts g l = record {
  read : (front : Front) × IsBetween (g.R.Tape.seen l.reel) l.reader front × AreTaken l.filter l.today front.parts l.taken.items;
  head : l.reader.head ≡ l.fn.reader.head;
  same : (g.R.Tape.seen l.reel).held ≡ (g.R.Tape.seen l.fn.reel).held;
  later : (g.R.Tape.seen l.fn.reel).faults ≤ (g.R.Tape.seen l.reel).faults;
}

abbrev pub decreases-parts : goal.decreases-parts
decreases-parts g l = 2 ^ 32 - l.reader.standing.begun
