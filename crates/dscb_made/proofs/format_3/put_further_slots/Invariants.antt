use Rattle.dscb_made.specs.Slots.{further_offset, AreSlotsPut}
use Rattle.dscb_made.proofs.format_3.put_further_slots.Given as goal

abbrev pub invariant-loop-place : goal.invariant-loop-place
invariant-loop-place l = AreSlotsPut further_offset 3 l.place l.extents l.initial.dscb l.dscb
