use Rattle.std.proofs.Common.{rules, ◌≡◌, ◌<◌, length, take, arith}
use Rattle.dump_read.proofs.Ends.{come_more, taken_count, digest_refused}
use Rattle.dump_read.proofs.ending.read_digest.Goals as goal

pub returns-then-count-lt32-clause-refused : goal.returns-then-count-lt32-clause-refused
returns-then-count-lt32-clause-refused g c = λ parts tracks bytes is.
    let full : length c.fetch.new.buf ≡ 32 = search rules in
    let less = c.if-count-lt32.true in
    let short : length (take c.in_ok-count.count c.fetch.new.buf) < 32 = omega (arith, taken_count c.fetch.new.buf c.in_ok-count.count c.in_ok-count.ensures.within, less) in
    digest_refused (g.R.Tape.seen c.fetch.new.reel) c.fetch.new.self parts tracks bytes (take c.in_ok-count.count c.fetch.new.buf)
    (come_more (g.R.Tape.seen c.args.reel.now) (g.R.Tape.seen c.fetch.new.reel) c.args.feed.now c.fetch.new.self _ c.fetch.new.buf c.in_ok-count.count is c.in_ok-count.ensures.same
    c.in_ok-count.ensures.within c.in_ok-count.ensures.bytes c.in_ok-count.ensures.offset)
    short (c.in_ok-count.ensures.end (omega (arith, full, less)))
