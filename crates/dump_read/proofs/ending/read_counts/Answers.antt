use Rattle.std.proofs.Common.{rules, ◌≡◌, List, ℕ, ◌++◌, length, subst}
use Rattle.dump_read.specs.Reading.{HasRead}
use Rattle.dump_read.proofs.Ends.{fetched, counts_refused}
use Rattle.dump_read.proofs.ending.read_counts.Goals as goal

pub returns-in-Ok-clause-read : goal.returns-in-Ok-clause-read
returns-in-Ok-clause-read g c = λ bytes is.
    subst (λ (t : List ℕ). HasRead (g.R.Tape.seen c.fetch.new.reel) c.fetch.new.self (bytes ++ t)) c.in-Ok.ensures.read
    (fetched (g.R.Tape.seen c.args.reel.now) (g.R.Tape.seen c.fetch.new.reel) c.args.feed.now c.fetch.new.self bytes c.fetch.new.buf c.in_ok-count.count is
    c.in_ok-count.ensures.within c.in_ok-count.ensures.bytes c.in_ok-count.ensures.offset c.in_ok-count.ensures.digest c.in_ok-count.ensures.same)

pub returns-in-Err-clause-refused : goal.returns-in-Err-clause-refused
returns-in-Err-clause-refused g c = λ bytes is.
    let came = fetched (g.R.Tape.seen c.args.reel.now) (g.R.Tape.seen c.fetch.new.reel) c.args.feed.now c.fetch.new.self bytes c.fetch.new.buf c.in_ok-count.count is
    c.in_ok-count.ensures.within c.in_ok-count.ensures.bytes c.in_ok-count.ensures.offset c.in_ok-count.ensures.digest c.in_ok-count.ensures.same in
    let full : length c.fetch.new.buf ≡ 8 = search rules in
    counts_refused (g.R.Tape.seen c.fetch.new.reel) c.fetch.new.self c.args.parts c.args.tracks bytes c.fetch.new.buf c.in_ok-count.count c.args.feed.now.offset c.in-Err.stop c.count_fault.result came is.offset
    c.in_ok-count.ensures.within full c.in_ok-count.ensures.end c.in-Err.ensures.stops c.count_fault.ensures
