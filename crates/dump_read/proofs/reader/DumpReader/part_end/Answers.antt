use Rattle.std.proofs.Common.{refl, sym, subst}
use Rattle.dump_read.specs.declared.mark.Mark.TheVariants as marks
use Rattle.dump_read.specs.Reader.{ReaderView, IsMarked}
use Rattle.dump_read.proofs.PartEnds.{part_ended}
use Rattle.dump_read.proofs.reader.DumpReader.part_end.Goals as goal

pub returns-clause-read : goal.returns-clause-read
returns-clause-read c = λ tape front is.
    part_ended tape (record { head = c.self.inside.head; feed = c.self.inside.feed; standing = c.self.inside.standing })
    (record { head = c.self.inside.head; feed = c.pass.new.self; standing = c.end_part.new.self }) front (c.end_part.ensures c.self.inside.head)
    (record { head = refl; window = c.pass.ensures.window; offset = c.pass.ensures.offset; digest = c.pass.ensures.digest })
    (subst (λ (r : ReaderView). IsMarked tape r front marks.PartEnd) (sym c.self.view_is) is)
