use Rattle.std.proofs.Common.{◌+◌, refl}
use Rattle.ckd_image.specs.Device.{heads_of, slot_of}
use Rattle.vtoc_check.specs.Slots.{slot_in}
use Rattle.vtoc_check.proofs.Readings.{read_more, slot_there}
use Rattle.vtoc_check.proofs.read.read_tracks.Goals as goal

pub loop-place-preserved : goal.loop-place-preserved
loop-place-preserved c =
    read_more (heads_of c.args.device) (slot_in c.args.run (slot_of c.args.device) c.args.slots.now) c.args.run.first c.loop-place.place c.loop-place.tracks c.push.new.self c.in_ok-dscbs.dscbs
    (c.args.run.first + c.loop-place.place) c.slot_at-slot.result.now c.in_ok-push.ensures.ok refl
    (slot_there c.args.run (slot_of c.args.device) c.loop-place.place c.slot-size.result c.args.slots.now c.slot_at-slot.result.now c.slot-size.ensures c.slot_at-slot.ensures.slot) c.in_ok-dscbs.ensures c.loop-place.invariant
