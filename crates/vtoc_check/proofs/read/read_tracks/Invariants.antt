use Rattle.ckd_image.specs.Device.{heads_of, slot_of}
use Rattle.vtoc_check.specs.Slots.{slot_in}
use Rattle.vtoc_check.proofs.read.read_tracks.Given as goal
use Rattle.vtoc_check.proofs.ReadUpTo.{AreReadUpTo}

abbrev pub invariant-loop-place : goal.invariant-loop-place
invariant-loop-place l = AreReadUpTo (heads_of l.device) (slot_in l.fn.run (slot_of l.device) l.slots) l.fn.run.first l.place l.tracks
