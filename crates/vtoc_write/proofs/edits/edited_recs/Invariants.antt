use Rattle.std.proofs.Common.{◌≡◌, map, take, All}
use Rattle.volume_model.specs.Sound.{IsDscbRecord}
use Rattle.vtoc_write.specs.Edited.{rec_after}
use Rattle.vtoc_write.proofs.edits.edited_recs.Given as goal

abbrev pub invariant-loop-rec : goal.invariant-loop-rec
invariant-loop-rec l = record {
  edited : l.new ≡ map (rec_after l.edits l.track) (take l.rec-index l.recs);
  shaped : All IsDscbRecord l.recs → All IsDscbRecord l.new;
}
