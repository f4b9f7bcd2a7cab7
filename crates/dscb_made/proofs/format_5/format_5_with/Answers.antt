use Rattle.dscb_made.proofs.Makes.{identified, format_5_made}
use Rattle.dscb_made.proofs.format_5.format_5_with.Goals as goal

pub returns : goal.returns
returns c =
    format_5_made c.args.entries.now c.args.next c.requires.fits c.requires.few c.put_over-2.new.bytes c.put_entries.new.dscb c.put_pointer.new.dscb
    (identified 0x05 0xF5 c.put_over.new.bytes c.put_over-2.new.bytes c.put_over.ensures c.put_over-2.ensures) c.put_entries.ensures c.put_pointer.ensures
