use Rattle.std.proofs.Common.{◌≡◌, ◌-◌, ◌≤◌, length}
use Rattle.dump_read.specs.Feed.{coming}
use Rattle.dump_read.proofs.feed.Window.read_ahead.Given as goal

abbrev pub invariant-reads : goal.invariant-reads
invariant-reads g l = record {
  coming : coming l.self (g.R.Tape.seen l.reel).left ≡ coming l.fn.self (g.R.Tape.seen l.fn.reel).left;
  same : (g.R.Tape.seen l.reel).held ≡ (g.R.Tape.seen l.fn.reel).held;
  later : (g.R.Tape.seen l.fn.reel).faults ≤ (g.R.Tape.seen l.reel).faults;
}

abbrev pub decreases-reads : goal.decreases-reads
decreases-reads g l = 65536 - length l.self
