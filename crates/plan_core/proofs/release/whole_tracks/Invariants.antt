use Rattle.std.proofs.Common.{◌≡◌, ◌+◌, ◌-◌, ◌≤◌, drop}
use Rattle.ckd_image.specs.Device.{heads_of}
use Rattle.volume_model.specs.Pinned.{whole_tracks}
use Rattle.plan_core.specs.Extents.{extents_at}
use Rattle.plan_core.proofs.release.whole_tracks.Given as goal

-- what is kept of the extents so far, and is to be kept of the others
abbrev pub invariant-loop-extent : goal.invariant-loop-extent
invariant-loop-extent l = record {
  few : l.kept ≤ l.used;
  rest : l.kept + whole_tracks (heads_of l.device) (l.used - l.kept) (extents_at (heads_of l.device) (drop l.extent-index l.extents)) ≡ whole_tracks (heads_of l.device) l.used (extents_at (heads_of l.device) l.extents);
}
