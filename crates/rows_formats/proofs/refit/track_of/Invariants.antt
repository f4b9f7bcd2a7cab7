use Rattle.std.proofs.Common.{All}
use Rattle.ckd_image.specs.Track.{IsRecord}
use Rattle.rows_formats.proofs.refit.track_of.Given as goal

abbrev pub invariant-loop-length : goal.invariant-loop-length
invariant-loop-length l = All IsRecord l.recs
