use Rattle.std.proofs.Common.{rules, ◌≡◌, ◌<◌, ◌^◌, drop, length, refl, sym, ap, subst, ◌∙◌}
use Rattle.dump_read.specs.declared.mark.Mark.TheVariants.{Part}
use Rattle.dump_read.specs.Reader.{ReaderView, IsMarked}
use Rattle.dump_read.proofs.ReadParts.{part_wrong, part_cut, part_gives}
use Rattle.dump_read.proofs.reader.DumpReader.part.Goals as goal

pub returns-in-Ok-clause-read : goal.returns-in-Ok-clause-read
returns-in-Ok-clause-read c = λ tape front is.
    let inside = c.self.inside in
    let old : ReaderView = record { head = inside.head; feed = inside.feed; standing = inside.standing } in
    let new : ReaderView = record { head = inside.head; feed = c.pass.new.self; standing = c.begin.new.self } in
    let read = rw (c.as_ref.ensures.value, c.behind-bytes.ensures ∙ ap (λ (v : ReaderView). drop 1 v.feed.window) (sym c.self.view_is)) at c.in-Ok.ensures.read in
    let long : length c.in-Ok.part.f1 ≡ 140 = search rules in
    let small : c.in-Ok.part.tracks < 2 ^ 32 = search rules in
    part_gives tape old new front c.min-count.result c.in-Ok.part (subst (λ (v : ReaderView). IsMarked tape v front Part) (sym c.self.view_is) is) read long small
    (c.begin.ensures inside.head c.in-Ok.part.f1 c.in-Ok.part.kind (sym c.copy_from_slice.ensures.after)) refl c.pass.ensures.window c.pass.ensures.offset c.pass.ensures.digest

pub returns-in-Err-Wrong-clause-refused : goal.returns-in-Err-Wrong-clause-refused
returns-in-Err-Wrong-clause-refused c = λ tape front is.
    let reader = c.args.self.now in
    let stops = rw (c.as_ref.ensures.value ∙ ap (λ (v : ReaderView). v.standing.name) c.self.view_is, c.behind-bytes.ensures, c.in-Err-Wrong.field-0-is) at c.in-Err-Wrong.ensures.stops in
    part_wrong tape reader front c.in-Err-Wrong.field c.min-count.result c.wrong.result is stops (rw (c.place.ensures) at c.wrong.ensures)

pub returns-in-Err-Cut-clause-refused : goal.returns-in-Err-Cut-clause-refused
returns-in-Err-Cut-clause-refused c = λ tape front is.
    let reader = c.args.self.now in
    let stops = rw (c.as_ref.ensures.value ∙ ap (λ (v : ReaderView). v.standing.name) c.self.view_is, c.behind-bytes.ensures, c.in-Err-Cut.field-0-is) at c.in-Err-Cut.ensures.stops in
    part_cut tape reader front c.min-count.result c.cut.result is (rw (c.behind-bytes.ensures) at c.min-count.ensures) stops c.cut.ensures
