use Rattle.std.proofs.Common.{◌≡◌, length, take}
use Rattle.ckd_image.specs.Device.{heads_of}
use Rattle.volume_model.specs.Unit.{tracks_of}
use Rattle.plan_core.specs.Extents.{extents_at}
use Rattle.plan_core.proofs.extents.count_tracks.Given as goal

-- the tracks so far
abbrev pub invariant-loop-extent : goal.invariant-loop-extent
invariant-loop-extent l = l.count ≡ length (tracks_of (extents_at (heads_of l.device) (take l.extent-index l.extents)))
