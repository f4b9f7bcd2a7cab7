use Rattle.std.proofs.Common.{◌≤◌, length, arith}
use Rattle.dump_read.proofs.Windows.{coming_behind}
use Rattle.dump_read.proofs.feed.read_behind.Goals as goal

pub returns-clause-coming : goal.returns-clause-coming
returns-clause-coming g c =
    let within : c.args.held ≤ length c.args.bytes.now = omega arith in
    coming_behind c.args.held c.in_ok-count.count c.args.bytes.now c.more.new.buf _ (g.R.Tape.seen c.args.reel.now).left (g.R.Tape.seen c.more.new.self).left within c.in_ok-count.ensures.within c.in_ok-count.ensures.bytes
