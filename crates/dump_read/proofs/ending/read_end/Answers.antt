use Rattle.std.proofs.Common.{rules, ◌≡◌, ◌≢◌, ◌++◌, ◌+◌, min, List, ℕ, length, refl, ap, ◌∙◌, arith}
use Rattle.std.proofs.lemmas.Result.{err_from_is_err_and}
use Rattle.dump_read.specs.Feed.{largest_offset}
use Rattle.dump_read.specs.Ending.{both_counts, right_digest}
use Rattle.dump_read.proofs.Ends.{come_as, held_as, digest_differs}
use Rattle.dump_read.proofs.ending.read_end.Goals as goal

pub returns-in_err-read_counts-clause-refused : goal.returns-in_err-read_counts-clause-refused
returns-in_err-read_counts-clause-refused g c =
    let p = err_from_is_err_and c.from_residual.result c.from_residual.ensures.1 in
    rw (p.1, p.2) (λ bytes is. c.in_err-read_counts.ensures.refused bytes is)

pub returns-in_err-kept-clause-refused : goal.returns-in_err-kept-clause-refused
returns-in_err-kept-clause-refused g c =
    let p = err_from_is_err_and c.from_residual-in_err-kept.result c.from_residual-in_err-kept.ensures.1 in
    rw (p.1, p.2)
    (λ bytes is.
    c.in_err-kept.ensures.refused c.args.parts c.args.tracks bytes
    (come_as (g.R.Tape.seen c.read_counts.new.reel) c.read_counts.new.feed c.take_digest-found.new.self (bytes ++ both_counts c.args.parts c.args.tracks)
    (c.in_ok-read_counts.ensures.read bytes is) c.take_digest-found.ensures.window c.take_digest-found.ensures.offset))

pub returns-in_err-nothing_behind-clause-refused : goal.returns-in_err-nothing_behind-clause-refused
returns-in_err-nothing_behind-clause-refused g c =
    let p = err_from_is_err_and c.from_residual-in_err-nothing_behind.result c.from_residual-in_err-nothing_behind.ensures.1 in
    rw (p.1, p.2)
    (λ bytes is.
    let came = come_as (g.R.Tape.seen c.read_counts.new.reel) c.read_counts.new.feed c.take_digest-found.new.self (bytes ++ both_counts c.args.parts c.args.tracks)
    (c.in_ok-read_counts.ensures.read bytes is) c.take_digest-found.ensures.window c.take_digest-found.ensures.offset in
    let long : length c.in_ok-kept.kept ≡ 32 = search rules in
    let at : c.saturating_add.result ≡ min (length bytes + 40) largest_offset = omega (arith, c.saturating_add.ensures, is.offset) in
    c.in_err-nothing_behind.ensures.refused c.args.parts c.args.tracks bytes c.in_ok-kept.kept long at (c.in_ok-kept.ensures.read (bytes ++ both_counts c.args.parts c.args.tracks) came))

pub returns-then-not-same-clause-refused : goal.returns-then-not-same-clause-refused
returns-then-not-same-clause-refused g c = λ bytes is.
    let came = come_as (g.R.Tape.seen c.read_counts.new.reel) c.read_counts.new.feed c.take_digest-found.new.self (bytes ++ both_counts c.args.parts c.args.tracks)
    (c.in_ok-read_counts.ensures.read bytes is) c.take_digest-found.ensures.window c.take_digest-found.ensures.offset in
    let all = c.in_ok-nothing_behind.ensures.none ((bytes ++ both_counts c.args.parts c.args.tracks) ++ c.in_ok-kept.kept)
    (c.in_ok-kept.ensures.read (bytes ++ both_counts c.args.parts c.args.tracks) came) in
    let long : length c.in_ok-kept.kept ≡ 32 = search rules in
    let other : c.in_ok-kept.kept ≢ c.take_digest-found.result = search rules in
    digest_differs (g.R.Tape.seen c.nothing_behind.new.reel).held c.args.parts c.args.tracks bytes c.in_ok-kept.kept c.take_digest-found.result long
    (c.take_digest-found.ensures.digest (bytes ++ both_counts c.args.parts c.args.tracks) (c.in_ok-read_counts.ensures.read bytes is).digest) other all

pub returns-clause-whole : goal.returns-clause-whole
returns-clause-whole g c = λ bytes is.
    let came = come_as (g.R.Tape.seen c.read_counts.new.reel) c.read_counts.new.feed c.take_digest-found.new.self (bytes ++ both_counts c.args.parts c.args.tracks)
    (c.in_ok-read_counts.ensures.read bytes is) c.take_digest-found.ensures.window c.take_digest-found.ensures.offset in
    let all = c.in_ok-nothing_behind.ensures.none ((bytes ++ both_counts c.args.parts c.args.tracks) ++ c.in_ok-kept.kept)
    (c.in_ok-kept.ensures.read (bytes ++ both_counts c.args.parts c.args.tracks) came) in
    let same : c.in_ok-kept.kept ≡ c.take_digest-found.result = search rules in
    let right : c.in_ok-kept.kept ≡ right_digest c.args.parts c.args.tracks bytes =
    same ∙ c.take_digest-found.ensures.digest (bytes ++ both_counts c.args.parts c.args.tracks) (c.in_ok-read_counts.ensures.read bytes is).digest in
    held_as (g.R.Tape.seen c.nothing_behind.new.reel).held (g.R.Tape.seen c.nothing_behind.new.reel).held ((bytes ++ both_counts c.args.parts c.args.tracks) ++ c.in_ok-kept.kept)
    ((bytes ++ both_counts c.args.parts c.args.tracks) ++ right_digest c.args.parts c.args.tracks bytes) refl (ap (λ (t : List ℕ). (bytes ++ both_counts c.args.parts c.args.tracks) ++ t) right) all
