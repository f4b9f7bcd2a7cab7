use Rattle.std.proofs.Common.{◌+◌, ◌∙◌, ℕ, List, ap, subst}
use Rattle.ckd_image.specs.Device.{heads_of, slot_of}
use Rattle.vtoc_write.specs.Written.{slot_at, AddsBlock}
use Rattle.vtoc_write.proofs.Ascending.{upto_next, ascending_next}
use Rattle.vtoc_write.proofs.blocks.changed_tracks.Goals as goal

pub loop-place-preserved : goal.loop-place-preserved
loop-place-preserved c = record {
  upto = upto_next c.args.edits.now c.args.device c.args.run.first c.loop-place.place c.args.slots.now c.loop-place.blocks c.add_track.new.blocks c.loop-place.invariant.upto adds;
  ascending = ascending_next c.args.edits.now c.args.device c.args.run.first c.loop-place.place c.args.slots.now c.loop-place.blocks c.add_track.new.blocks c.loop-place.invariant.upto
      c.loop-place.invariant.ascending adds;
}
  where
    adds : AddsBlock c.args.edits.now (heads_of c.args.device) (c.args.run.first + c.loop-place.place) (slot_at (slot_of c.args.device) c.args.slots.now c.loop-place.place)
        c.loop-place.blocks c.add_track.new.blocks
    adds = subst (λ (slot : List ℕ). AddsBlock c.args.edits.now (heads_of c.args.device) (c.args.run.first + c.loop-place.place) slot c.loop-place.blocks c.add_track.new.blocks)
        (c.slot_at-slot.ensures.slot ∙ ap (λ (size : ℕ). slot_at size c.args.slots.now c.loop-place.place) c.slot-size.ensures) c.in_ok-add_track.ensures
