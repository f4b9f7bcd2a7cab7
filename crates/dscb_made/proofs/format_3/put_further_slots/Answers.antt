use Rattle.std.proofs.Common.{◌≡◌, ℕ, ◌+◌, ap, subst, ◌∙◌, arith}
use Rattle.dscb_made.specs.Slots.{slot_of, further_offset, IsSlotPut}
use Rattle.dscb_made.proofs.SlotsPut.{one_more, further_offsets}
use Rattle.dscb_made.proofs.format_3.put_further_slots.Goals as goal

swapped : (n : ℕ) → n + 3 ≡ 3 + n
swapped n = omega arith

pub loop-place-preserved : goal.loop-place-preserved
loop-place-preserved c =
    let P : ℕ → Type 0 = λ offset. IsSlotPut offset c.slot.result c.loop-place.dscb c.put_slot.new.dscb in
    one_more further_offset 3 13 c.loop-place.place further_offsets c.loop-place-test.true c.args.extents.now c.args.dscb.now c.loop-place.dscb c.put_slot.new.dscb c.told-dscb c.slot.result
    (c.slot.ensures.slot ∙ ap (slot_of c.args.extents.now) (swapped c.loop-place.place)) (subst P c.slot_offset.ensures.value c.put_slot.ensures) c.loop-place.invariant
