use Rattle.dscb_made.specs.Slots.{first_offset, AreSlotsPut}
use Rattle.dscb_made.proofs.format_1.put_first_slots.Given as goal

abbrev pub invariant-loop-place : goal.invariant-loop-place
invariant-loop-place l = AreSlotsPut first_offset 0 l.place l.extents l.initial.dscb l.dscb
