use Rattle.dscb_made.proofs.Makes.{identified, format_3_made}
use Rattle.dscb_made.proofs.format_3.format_3_with.Goals as goal

pub returns : goal.returns
returns c =
    format_3_made c.args.extents.now c.requires.there c.requires.few c.put_over-2.new.bytes c.put_further_slots.new.dscb
    (identified 0x03 0xF3 c.put_over.new.bytes c.put_over-2.new.bytes c.put_over.ensures c.put_over-2.ensures) c.put_further_slots.ensures
