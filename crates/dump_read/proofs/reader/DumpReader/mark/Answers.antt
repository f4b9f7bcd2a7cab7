use Rattle.std.proofs.Common.{◌≡◌, [], ℕ, true, false, inl, inr, List, length, drop, refl, sym, ap, subst, ◌∙◌, arith}
use Rattle.std.specs.List.{slice_get}
use Rattle.dasd_pool.specs.Stream.{EndsOnly}
use Rattle.dump_read.specs.Marks.{MayStand}
use Rattle.dump_read.specs.Reader.{ReaderView, IsReading}
use Rattle.dump_read.proofs.Marking.{HasLooked, looked_on, nothing_stands, no_mark, first_of, none_first, stands_mark, mark_stands}
use Rattle.dump_read.proofs.reader.DumpReader.mark.Goals.{in_default-of-via-in-Some-of+else-allows, in_default-of-via-in_default-of}
use Rattle.dump_read.proofs.reader.DumpReader.mark.Goals as goal

pub returns-in_default-clause-refused : goal.returns-in_default-clause-refused
returns-in_default-clause-refused g c = λ front is.
    let before = g.R.Tape.seen c.args.reel.now in
    let tape = g.R.Tape.seen c.look.new.reel in
    let inside = c.self.inside in
    let old : ReaderView = record { head = inside.head; feed = inside.feed; standing = inside.standing } in
    let new : ReaderView = record { head = inside.head; feed = c.look.new.self; standing = inside.standing } in
    let seen = c.in_ok-look.ensures in
    let looked : HasLooked before tape old new = record { head = refl; standing = refl; held = seen.same; next = seen.coming; offset = seen.offset; digest = seen.digest } in
    let reading : IsReading tape new front = looked_on before tape old new front looked (subst (λ (r : ReaderView). IsReading before r front) (sym c.self.view_is) is) in
    let none : c.look.new.self.window ≡ [] = sym c.ahead.ensures.bytes ∙ none_first c.ahead.result.now (λ some. absurd (let e : false ≡ true = c.in_default.ensures.item.2 some in cc)) in
    let ends : EndsOnly tape.left = elim seen.ahead [ inl many ↦ absurd (omega (arith, many, ap length none)) | inr ends ↦ ends ] in
    rw (sym c.self.view_is) (nothing_stands tape new front c.cut.result reading none ends c.cut.ensures)

pub returns-in-Some-of-clause-marked : goal.returns-in-Some-of-clause-marked
returns-in-Some-of-clause-marked g c = λ front is.
    let before = g.R.Tape.seen c.args.reel.now in
    let tape = g.R.Tape.seen c.look.new.reel in
    let inside = c.self.inside in
    let old : ReaderView = record { head = inside.head; feed = inside.feed; standing = inside.standing } in
    let new : ReaderView = record { head = inside.head; feed = c.look.new.self; standing = inside.standing } in
    let seen = c.in_ok-look.ensures in
    let looked : HasLooked before tape old new = record { head = refl; standing = refl; held = seen.same; next = seen.coming; offset = seen.offset; digest = seen.digest } in
    let reading : IsReading tape new front = looked_on before tape old new front looked (subst (λ (r : ReaderView). IsReading before r front) (sym c.self.view_is) is) in
    let first = first_of c.look.new.self.window c.in-Some.byte.now (c.in-Some.ensures.value ∙ ap (λ (t : List ℕ). slice_get t 0) c.ahead.ensures.bytes) in
    mark_stands tape new front c.in-Some-of.mark c.in-Some.byte.now reading first c.in-Some-of.ensures.found ((c.if-allows.ensures.allowed front reading.going reading.stands).0 refl)
    (c.if-allows.ensures.name refl) seen.ahead

pub returns-in_default-of-clause-refused : goal.returns-in_default-of-clause-refused
returns-in_default-of-clause-refused g c = λ front is.
    let before = g.R.Tape.seen c.args.reel.now in
    let tape = g.R.Tape.seen c.look.new.reel in
    let inside = c.self.inside in
    let old : ReaderView = record { head = inside.head; feed = inside.feed; standing = inside.standing } in
    let new : ReaderView = record { head = inside.head; feed = c.look.new.self; standing = inside.standing } in
    let seen = c.in_ok-look.ensures in
    let looked : HasLooked before tape old new = record { head = refl; standing = refl; held = seen.same; next = seen.coming; offset = seen.offset; digest = seen.digest } in
    let reading : IsReading tape new front = looked_on before tape old new front looked (subst (λ (r : ReaderView). IsReading before r front) (sym c.self.view_is) is) in
    let first = first_of c.look.new.self.window c.in-Some.byte.now (c.in-Some.ensures.value ∙ ap (λ (t : List ℕ). slice_get t 0) c.ahead.ensures.bytes) in
    let none : ¬ MayStand inside.head front c.in-Some.byte.now = elim c.in_default-of.branch [
      | in_default-of-via-in-Some-of+else-allows w ↦ λ may.
          let stands : w.allows.result ≡ true = (w.allows.ensures.allowed front reading.going reading.stands).1 (subst (MayStand inside.head front) (sym w.in-Some-of.ensures.found) may) in
          absurd (let e : false ≡ true = sym w.if-allows.false ∙ stands in cc)
      | in_default-of-via-in_default-of w ↦ λ may. let (mark, same) = stands_mark inside.head front c.in-Some.byte.now may in w.in_default-of.ensures.none mark same
    ] in
    rw (sym c.self.view_is) (no_mark tape new front c.in-Some.byte.now (drop 1 c.look.new.self.window) c.wrong.result reading first none c.wrong.ensures)
