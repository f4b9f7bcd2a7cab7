-- Extents of tracks and of whole cylinders.
use Rattle.std.specs.Prelude.{◌⊎◌, ℕ}
use Rattle.ckd_image.specs.declared.device.Device.{Device}
use Rattle.ckd_image.specs.Device.{heads_of}
use Rattle.dscb_rec.specs.declared.field.Extent.{Extent as Field}
use Rattle.volume_model.specs.Pinned.{IsOfTracks, IsOfCylinders}
use Rattle.volume_model.specs.Reads.{extent_in}
use Rattle.volume_model.specs.Unit.{Extent}
use Rattle.vtoc_core.specs.Loaded.{field_of}

-- an extent of tracks, or of whole cylinders
abbrev pub IsWhole : ℕ → Extent → Type 0
IsWhole heads extent = IsOfTracks extent ⊎ IsOfCylinders heads extent

-- an extent as it is loaded is one, on a device
abbrev pub IsWholeOn : Device → Field → Type 0
IsWholeOn device extent = IsWhole (heads_of device) (extent_in (heads_of device) (field_of extent))
