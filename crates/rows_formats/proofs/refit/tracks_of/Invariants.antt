use Rattle.std.proofs.Common.{All}
use Rattle.ckd_image.specs.Track.{IsTrack}
use Rattle.rows_formats.proofs.refit.tracks_of.Given as goal

abbrev pub invariant-loop-track : goal.invariant-loop-track
invariant-loop-track l = All IsTrack l.tracks
