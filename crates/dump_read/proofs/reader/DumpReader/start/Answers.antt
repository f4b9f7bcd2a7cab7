use Rattle.std.proofs.Common.{rules, ◌≡◌, ◌≤◌, length, take, arith, length-take, ap, ◌∙◌}
use Rattle.dump_read.specs.Header.{offset_of, why_of}
use Rattle.dump_read.proofs.Beginning.{header_read, bad_head, short_head}
use Rattle.dump_read.proofs.Fed.{first_fetched, whole_header}
use Rattle.dump_read.proofs.reader.DumpReader.start.Goals as goal

pub returns-in-Ok-clause-read : goal.returns-in-Ok-clause-read
returns-in-Ok-clause-read g c =
    let fed = first_fetched (g.R.Tape.seen c.restart.new.self) (g.R.Tape.seen c.fetch.new.reel) c.in_ok-feed.feed c.fetch.new.self c.fetch.new.buf c.in_ok-count.count
    c.in_ok-restart.ensures.ok c.in_ok-feed.ensures.window c.in_ok-feed.ensures.offset c.in_ok-feed.ensures.digest c.in_ok-count.ensures.within c.in_ok-count.ensures.bytes c.in_ok-count.ensures.offset
    c.in_ok-count.ensures.digest c.in_ok-count.ensures.same in
    let size : length c.fetch.new.buf ≡ 32 = search rules in
    let short : length (take c.in_ok-count.count c.fetch.new.buf) ≤ 32 = omega (arith, length-take c.in_ok-count.count c.fetch.new.buf, size) in
    header_read (g.R.Tape.seen c.fetch.new.reel) c.in-Ok.head c.fetch.new.self c.new-in-Ok.result c.in-Ok.ensures.read.0 (c.new-in-Ok.ensures c.in-Ok.head)
    (whole_header (g.R.Tape.seen c.fetch.new.reel) c.fetch.new.self c.in-Ok.head (take c.in_ok-count.count c.fetch.new.buf) fed short c.in-Ok.ensures.read.0 c.in-Ok.ensures.read.1)

pub returns-in-Ok-clause-taken : goal.returns-in-Ok-clause-taken
returns-in-Ok-clause-taken g c =
    let fed = first_fetched (g.R.Tape.seen c.restart.new.self) (g.R.Tape.seen c.fetch.new.reel) c.in_ok-feed.feed c.fetch.new.self c.fetch.new.buf c.in_ok-count.count
    c.in_ok-restart.ensures.ok c.in_ok-feed.ensures.window c.in_ok-feed.ensures.offset c.in_ok-feed.ensures.digest c.in_ok-count.ensures.within c.in_ok-count.ensures.bytes c.in_ok-count.ensures.offset
    c.in_ok-count.ensures.digest c.in_ok-count.ensures.same in
    let size : length c.fetch.new.buf ≡ 32 = search rules in
    let short : length (take c.in_ok-count.count c.fetch.new.buf) ≤ 32 = omega (arith, length-take c.in_ok-count.count c.fetch.new.buf, size) in
    (whole_header (g.R.Tape.seen c.fetch.new.reel) c.fetch.new.self c.in-Ok.head (take c.in_ok-count.count c.fetch.new.buf) fed short c.in-Ok.ensures.read.0 c.in-Ok.ensures.read.1).taken

pub returns-in-Err-Wrong-clause-refused : goal.returns-in-Err-Wrong-clause-refused
returns-in-Err-Wrong-clause-refused g c =
    let fed = first_fetched (g.R.Tape.seen c.restart.new.self) (g.R.Tape.seen c.fetch.new.reel) c.in_ok-feed.feed c.fetch.new.self c.fetch.new.buf c.in_ok-count.count
    c.in_ok-restart.ensures.ok c.in_ok-feed.ensures.window c.in_ok-feed.ensures.offset c.in_ok-feed.ensures.digest c.in_ok-count.ensures.within c.in_ok-count.ensures.bytes c.in_ok-count.ensures.offset
    c.in_ok-count.ensures.digest c.in_ok-count.ensures.same in
    let size : length c.fetch.new.buf ≡ 32 = search rules in
    bad_head (g.R.Tape.seen c.fetch.new.reel) c.fetch.new.self c.fetch.new.buf c.in_ok-count.count c.offset.result c.why.result c.in-Err-Wrong.field c.in-Err-Wrong.field-0 fed size c.in_ok-count.ensures.within
    c.in_ok-count.ensures.end c.in-Err-Wrong.ensures.stops c.in-Err-Wrong.field-0-is (c.offset.ensures ∙ ap offset_of c.in-Err-Wrong.field-is)
    (c.why.ensures ∙ ap why_of c.in-Err-Wrong.field-is)

pub returns-clause-refused : goal.returns-clause-refused
returns-clause-refused g c =
    let fed = first_fetched (g.R.Tape.seen c.restart.new.self) (g.R.Tape.seen c.fetch.new.reel) c.in_ok-feed.feed c.fetch.new.self c.fetch.new.buf c.in_ok-count.count
    c.in_ok-restart.ensures.ok c.in_ok-feed.ensures.window c.in_ok-feed.ensures.offset c.in_ok-feed.ensures.digest c.in_ok-count.ensures.within c.in_ok-count.ensures.bytes c.in_ok-count.ensures.offset
    c.in_ok-count.ensures.digest c.in_ok-count.ensures.same in
    let size : length c.fetch.new.buf ≡ 32 = search rules in
    short_head (g.R.Tape.seen c.fetch.new.reel) c.fetch.new.self c.fetch.new.buf c.in_ok-count.count c.in-Err-Cut.field-0 fed size c.in_ok-count.ensures.within c.in_ok-count.ensures.end
    c.in-Err-Cut.ensures.stops c.in-Err-Cut.field-0-is
