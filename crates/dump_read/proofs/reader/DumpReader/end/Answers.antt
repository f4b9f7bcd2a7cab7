use Rattle.std.proofs.Common.{ℕ, List, sym, subst}
use Rattle.std.proofs.lemmas.Result.{on_ok_weaker, IfErr-weaker}
use Rattle.dump_fmt.specs.Front.{Front}
use Rattle.dump_read.specs.declared.mark.Mark.TheVariants as marks
use Rattle.dump_read.specs.Ending.{IsEndFault}
use Rattle.dump_read.specs.Faults.{IsFaultBehind}
use Rattle.dump_read.specs.Reader.{ReaderView, IsMarked}
use Rattle.dump_read.specs.Reading.{HasRead}
use Rattle.dump_read.proofs.ReadEnds.{closes_at, mark_passed, dump_whole, end_refused}
use Rattle.dump_read.proofs.reader.DumpReader.end.Goals as goal

pub returns-clause-whole : goal.returns-clause-whole
returns-clause-whole g c =
    on_ok_weaker c.read_end.result
    (λ all front is.
    let old : ReaderView = record { head = c.self.inside.head; feed = c.self.inside.feed; standing = c.self.inside.standing } in
    let tape = g.R.Tape.seen c.args.reel.now in
    let marked = subst (λ (r : ReaderView). IsMarked tape r front marks.Trailer) (sym c.self.view_is) is in
    let reading = marked.reading in
    dump_whole (g.R.Tape.seen c.read_end.new.reel).held old.head front old.standing reading.is_front reading.stands (closes_at old.head front marked.may)
    (all _ (mark_passed tape old c.pass.new.self front marked c.pass.ensures.window c.pass.ensures.offset c.pass.ensures.digest))) c.read_end.ensures.whole

pub returns-clause-refused : goal.returns-clause-refused
returns-clause-refused g c =
    let held = (g.R.Tape.seen c.read_end.new.reel).held in
    let tape = g.R.Tape.seen c.args.reel.now in
    IfErr-weaker c.read_end.result
    (λ fault. (bytes : List ℕ) → HasRead tape c.pass.new.self bytes → IsEndFault c.self.inside.standing.parts c.self.inside.standing.tracks bytes held fault)
    (λ fault. (front : Front) → IsMarked tape c.args.self.now front marks.Trailer → IsFaultBehind c.args.self.now.head front held fault)
    (λ fault refused front is.
    let old : ReaderView = record { head = c.self.inside.head; feed = c.self.inside.feed; standing = c.self.inside.standing } in
    let marked : IsMarked tape old front marks.Trailer = subst (λ (r : ReaderView). IsMarked tape r front marks.Trailer) (sym c.self.view_is) is in
    let reading = marked.reading in
    subst (λ (r : ReaderView). IsFaultBehind r.head front held fault) c.self.view_is
    (end_refused old.head front old.standing reading.going reading.stands (closes_at old.head front marked.may) held fault
    (refused _ (mark_passed tape old c.pass.new.self front marked c.pass.ensures.window c.pass.ensures.offset c.pass.ensures.digest)))) c.read_end.ensures.refused
