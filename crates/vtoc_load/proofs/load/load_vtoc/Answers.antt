use Rattle.std.proofs.Common.{refl}
use Rattle.ckd_image.specs.Device.{slot_of}
use Rattle.vtoc_check.specs.Slots.{slot_in}
use Rattle.vtoc_load.proofs.load.load_vtoc.Goals as goal

pub volume_of-requires-clause-sized : goal.volume_of-requires-clause-sized
volume_of-requires-clause-sized c = (c.in_ok-found.ensures.sound (slot_in c.args.run (slot_of c.args.head.device) c.args.slots.now) (λ k lt. refl)).2

pub volume_of-requires-clause-sound : goal.volume_of-requires-clause-sound
volume_of-requires-clause-sound c = (c.in_ok-found.ensures.sound (slot_in c.args.run (slot_of c.args.head.device) c.args.slots.now) (λ k lt. refl)).1

pub returns-clause-loaded : goal.returns-clause-loaded
returns-clause-loaded c = λ unit are.
    let found = c.in_ok-found.ensures.sound unit are in
    record { vtoc = c.in_ok-found.found.vtoc; four = c.in_ok-found.found.four; stands = found.0; sized = found.2; sound = found.1; volume = c.in_ok-volume.ensures }
