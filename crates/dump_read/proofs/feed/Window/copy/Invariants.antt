use Rattle.std.proofs.Common.{◌≡◌, ◌-◌, ◌≤◌, length, take}
use Rattle.dasd_pool.specs.Stream.{Takes}
use Rattle.dump_read.specs.Feed.{coming}
use Rattle.dump_read.proofs.feed.Window.copy.Given as goal

abbrev pub invariant-pieces : goal.invariant-pieces
invariant-pieces g l = record {
  within : l.count ≤ length l.buf;
  bytes : Takes (coming l.fn.self (g.R.Tape.seen l.fn.reel).left) (coming l.self (g.R.Tape.seen l.reel).left) (take l.count l.buf);
  same : (g.R.Tape.seen l.reel).held ≡ (g.R.Tape.seen l.fn.reel).held;
  later : (g.R.Tape.seen l.fn.reel).faults ≤ (g.R.Tape.seen l.reel).faults;
}

abbrev pub decreases-pieces : goal.decreases-pieces
decreases-pieces g l = length l.buf - l.count
