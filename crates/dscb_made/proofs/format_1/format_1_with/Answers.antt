use Rattle.dscb_made.proofs.Makes.{format_1_made}
use Rattle.dscb_made.proofs.format_1.format_1_with.Goals as goal

pub returns : goal.returns
returns c =
    format_1_made c.args.extents.now c.args.next c.requires.there c.args.format_1.now c.put_first_slots.new.dscb c.put_pointer.new.dscb c.told-format_1 c.put_pointer.ensures c.put_over.new.bytes
    c.requires.format c.put_over.ensures c.put_first_slots.ensures
