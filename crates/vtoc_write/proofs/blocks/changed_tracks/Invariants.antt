use Rattle.vtoc_write.specs.Written.{AreRewrittenUpTo, AreAscending}
use Rattle.vtoc_write.proofs.blocks.changed_tracks.Given as goal

abbrev pub invariant-loop-place : goal.invariant-loop-place
invariant-loop-place l = record {
  upto : AreRewrittenUpTo l.edits l.device l.run.first l.place l.slots l.blocks;
  ascending : AreAscending l.blocks;
}
