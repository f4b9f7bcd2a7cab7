use Rattle.std.proofs.Common.{◌∙◌, arith}
use Rattle.unit_session.proofs.CopyingMoves.{run_more}
use Rattle.unit_session.proofs.copies.add_extent.Goals as goal

pub loop-track-preserved : goal.loop-track-preserved
loop-track-preserved c =
    let inv = c.loop-track.invariant in
    record {
      from = omega (arith, inv.from);
      within = omega (arith, inv.from, inv.within, c.loop-track-test.true);
      tracks = c.in_ok-push.ensures.items ∙ run_more c.args.tracks.now.items c.loop-track.tracks.items c.track_of-first.result c.loop-track.track inv.from inv.tracks;
    }
