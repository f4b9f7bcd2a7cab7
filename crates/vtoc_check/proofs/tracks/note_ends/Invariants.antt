use Rattle.std.proofs.Common.{◌≡◌, length, take}
use Rattle.vtoc_check.specs.Tracks.{AreEndsOf}
use Rattle.vtoc_check.proofs.tracks.note_ends.Given as goal

abbrev pub invariant-loop-run : goal.invariant-loop-run
invariant-loop-run l = record {
  long : length l.ends ≡ length l.fn.ends;
  ends : AreEndsOf (take l.run-index l.runs) l.ends;
}
