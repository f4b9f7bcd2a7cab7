-- Extents as runs of tracks.
use Rattle.std.specs.Prelude.{ℕ, List, map}
use Rattle.dscb_rec.specs.declared.field.Extent.{Extent as Field}
use Rattle.volume_model.specs.Reads.{extent_in}
use Rattle.volume_model.specs.Unit.{Extent}
use Rattle.vtoc_core.specs.Loaded.{field_of}

-- extents of a device with so many heads
abbrev pub extents_at : ℕ → List Field → List Extent
extents_at heads extents = map (λ extent. extent_in heads (field_of extent)) extents
