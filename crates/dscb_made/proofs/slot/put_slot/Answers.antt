use Rattle.dscb_made.proofs.SlotsPut.{slot_put}
use Rattle.dscb_made.proofs.slot.put_slot.Goals as goal

pub returns : goal.returns
returns c = slot_put c.args.offset c.args.extent c.args.dscb.now c.put_extent.new.dscb c.requires.within c.told-dscb c.requires.fits c.put_extent.ensures
