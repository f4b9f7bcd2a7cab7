use Rattle.std.proofs.Common.{◌≡◌, ℕ, ◌+◌, ◌*◌, ap, subst, ◌∙◌, arith}
use Rattle.dscb_made.specs.Slots.{slot_of, first_offset, IsSlotPut}
use Rattle.dscb_made.proofs.SlotsPut.{one_more, first_offsets}
use Rattle.dscb_made.proofs.format_1.put_first_slots.Goals as goal

same : (n : ℕ) → n ≡ 0 + n
same n = omega arith

pub loop-place-preserved : goal.loop-place-preserved
loop-place-preserved c =
    let P : ℕ → Type 0 = λ place. IsSlotPut (105 + 10 * place) c.slot.result c.loop-place.dscb c.put_slot.new.dscb in
    one_more first_offset 0 3 c.loop-place.place first_offsets c.loop-place-test.true c.args.extents.now c.args.dscb.now c.loop-place.dscb c.put_slot.new.dscb c.told-dscb c.slot.result
    (c.slot.ensures.slot ∙ ap (slot_of c.args.extents.now) (same c.loop-place.place)) (subst P c.from.ensures c.put_slot.ensures) c.loop-place.invariant
