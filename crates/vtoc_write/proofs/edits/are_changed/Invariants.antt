use Rattle.std.proofs.Common.{◌≡◌, map, take}
use Rattle.vtoc_write.specs.Edited.{rec_after}
use Rattle.vtoc_write.proofs.edits.are_changed.Given as goal

abbrev pub invariant-loop-rec : goal.invariant-loop-rec
invariant-loop-rec l = map (rec_after l.edits l.track) (take l.rec-index l.recs) ≡ take l.rec-index l.recs
