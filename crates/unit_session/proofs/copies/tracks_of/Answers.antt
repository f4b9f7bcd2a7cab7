use Rattle.ckd_image.specs.Device.{heads_of}
use Rattle.unit_session.proofs.CopyingMoves.{extents_next}
use Rattle.unit_session.proofs.copies.tracks_of.Goals as goal

pub loop-extent-preserved : goal.loop-extent-preserved
loop-extent-preserved c =
    extents_next (heads_of c.args.device) c.args.row.now.extents c.as_slice-extent-items.result.now c.loop-extent.extent-index _ c.as_slice-extent-items.ensures c.loop-extent-test.true
    c.loop-extent.tracks.items c.add_extent.new.tracks.items c.loop-extent.invariant c.in_ok-add_extent.ensures
