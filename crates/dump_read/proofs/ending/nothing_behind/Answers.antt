use Rattle.dump_read.proofs.Ends.{come_more, more_refused}
use Rattle.dump_read.proofs.ending.nothing_behind.Goals as goal

pub returns-then-count-gt0-clause-refused : goal.returns-then-count-gt0-clause-refused
returns-then-count-gt0-clause-refused g c = λ parts tracks bytes digest long at is.
    more_refused (g.R.Tape.seen c.fetch.new.reel) c.fetch.new.self parts tracks bytes digest c.fetch.new.buf c.in_ok-count.count c.args.offset
    (come_more (g.R.Tape.seen c.args.reel.now) (g.R.Tape.seen c.fetch.new.reel) c.args.feed.now c.fetch.new.self _ c.fetch.new.buf c.in_ok-count.count is c.in_ok-count.ensures.same
    c.in_ok-count.ensures.within c.in_ok-count.ensures.bytes c.in_ok-count.ensures.offset)
    long at c.if-count-gt0.true c.in_ok-count.ensures.within
