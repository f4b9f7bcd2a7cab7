use Rattle.std.proofs.Common.{drop, refl, sym, ap, subst, ◌∙◌}
use Rattle.dump_read.specs.declared.mark.Mark.TheVariants.{Track}
use Rattle.dump_read.specs.Reader.{ReaderView, IsMarked}
use Rattle.dump_read.proofs.ReadParts.{track_wrong, track_cut, track_gives}
use Rattle.dump_read.proofs.reader.DumpReader.track.Goals as goal

pub returns-in-Ok-clause-read : goal.returns-in-Ok-clause-read
returns-in-Ok-clause-read c = λ tape front is.
    let inside = c.self.inside in
    let old : ReaderView = record { head = inside.head; feed = inside.feed; standing = inside.standing } in
    let new : ReaderView = record { head = inside.head; feed = c.pass.new.self; standing = c.count_track.new.self } in
    let read = rw (c.behind.ensures ∙ ap (λ (v : ReaderView). drop 1 v.feed.window) (sym c.self.view_is)) at c.in-Ok.ensures.read in
    track_gives tape old new front c.in-Ok.track c.in-Ok.count (subst (λ (v : ReaderView). IsMarked tape v front Track) (sym c.self.view_is) is) read
    (c.count_track.ensures inside.head c.in-Ok.track) refl c.pass.ensures.window c.pass.ensures.offset c.pass.ensures.digest

pub returns-in-Err-Wrong-clause-refused : goal.returns-in-Err-Wrong-clause-refused
returns-in-Err-Wrong-clause-refused c = λ tape front is.
    let stops = rw (ap (λ (v : ReaderView). v.head.device) c.self.view_is, c.behind.ensures, c.in-Err-Wrong.field-0-is) at c.in-Err-Wrong.ensures.stops in
    track_wrong tape c.args.self.now front c.in-Err-Wrong.field c.in-Err-Wrong.place c.wrong.result is stops c.wrong.ensures

pub returns-in-Err-Cut-clause-refused : goal.returns-in-Err-Cut-clause-refused
returns-in-Err-Cut-clause-refused c = λ tape front is.
    let stops = rw (ap (λ (v : ReaderView). v.head.device) c.self.view_is, c.behind.ensures, c.in-Err-Cut.field-0-is) at c.in-Err-Cut.ensures.stops in
    track_cut tape c.args.self.now front c.cut.result is stops c.cut.ensures
