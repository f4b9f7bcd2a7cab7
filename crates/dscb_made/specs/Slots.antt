-- Extents in the slots of a DSCB.
use Rattle.std.specs.Prelude.{◌≡◌, ◌≢◌, ◌⊎◌, ℕ, ◌+◌, ◌*◌, ◌<◌, ◌≤◌, nat_lt, if◌then◌else◌, List, length, Option, Some, None, slice_index, slice_get}
use Rattle.ckd_image.specs.declared.track.TrackAt.{TrackAt}
use Rattle.ckd_image.specs.Body.{over}
use Rattle.dscb_rec.specs.declared.field.Extent.{Extent}
use Rattle.dscb_rec.specs.Field.{extent_text}
use Rattle.volume_model.specs.Dscbs.{extent_at}
use Rattle.vtoc_core.specs.Loaded.{field_of}

-- an extent's type isn't that of an empty slot
abbrev pub IsThere : Extent → Type 0
IsThere extent = extent.kind ≢ 0

abbrev pub first_track : TrackAt
first_track = record { cylinder = 0; head = 0 }

-- ten zeros
abbrev pub no_extent : Extent
no_extent = record { kind = 0; number = 0; first = first_track; last = first_track }

-- an extent with the number of its place
abbrev pub numbered : ℕ → Option Extent → Extent
numbered place None = no_extent
numbered place (Some extent) = record { kind = extent.kind; number = place; first = extent.first; last = extent.last }

-- what stands in a data set's slot by its place among all of them: the extent there, numbered by the place, or nothing
abbrev pub slot_of : List Extent → ℕ → Extent
slot_of extents place = numbered place (slice_get extents place)

-- ---- offsets

-- the slots of a format 1: three from byte 105 on
abbrev pub first_offset : ℕ → ℕ
first_offset place = 105 + 10 * place

-- the slots of a format 3: four from byte 4 on, and nine from byte 45 on
abbrev pub further_offset : ℕ → ℕ
further_offset place = if nat_lt place 4 then 4 + 10 * place else 5 + 10 * place

-- ---- what is written

-- a byte is before a slot or behind it
abbrev pub IsBeside : ℕ → ℕ → Type 0
IsBeside offset k = (k < offset) ⊎ (offset + 10 ≤ k)

-- an extent is written at an offset, and read there
pub record IsSlotPut (offset : ℕ) (extent : Extent) (old new : List ℕ) : Type 0 where
  pub made : new ≡ over offset (extent_text extent) old
  pub reads : extent_at new offset ≡ field_of extent

-- So many slots have the extents of a data set from a place on, each as it is read and byte by byte, and no byte beside the slots changes.
pub record AreSlotsPut (offset : ℕ → ℕ) (from count : ℕ) (extents : List Extent) (old new : List ℕ) : Type 0 where
  pub long : length new ≡ length old
  pub reads : (place : ℕ) → place < count → extent_at new (offset place) ≡ field_of (slot_of extents (from + place))
  pub spelled : (place byte : ℕ) → place < count → byte < 10 → slice_index new (offset place + byte) ≡ slice_index (extent_text (slot_of extents (from + place))) byte
  pub kept : (k : ℕ) → ((place : ℕ) → place < count → IsBeside (offset place) k) → slice_index new k ≡ slice_index old k
