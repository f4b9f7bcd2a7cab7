use Rattle.std.proofs.Common.{◌≡◌, map, take}
use Rattle.ckd_image.specs.Device.{heads_of}
use Rattle.volume_model.specs.Reads.{extent_in}
use Rattle.volume_model.specs.Unit.{tracks_of}
use Rattle.vtoc_core.specs.Loaded.{field_of}
use Rattle.unit_session.proofs.copies.tracks_of.Given as goal

-- those of the first extents
abbrev pub invariant-loop-extent : goal.invariant-loop-extent
invariant-loop-extent l = l.tracks.items ≡ tracks_of (map (λ extent. extent_in (heads_of l.device) (field_of extent)) (take l.extent-index l.row.extents))
