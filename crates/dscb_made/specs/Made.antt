-- The DSCBs that are written.
use Rattle.std.specs.Prelude.{◌≡◌, ℕ, ◌+◌, ◌<◌, min, nat_lt, List, ◌∷◌, ◌++◌, length, map, filter, take, drop, Option, None, slice_index, bit_and, bit_or}
use Rattle.byteorder.specs.Endian.{big_bytes}
use Rattle.ckd_image.specs.declared.track.Cchhr.{Cchhr}
use Rattle.dscb_rec.specs.declared.field.Extent.{Extent}
use Rattle.dscb_rec.specs.declared.field.Entry5.{Entry5}
use Rattle.dscb_rec.specs.Field.{extent_text, entry_text, entry_offset}
use Rattle.volume_model.specs.declared.format.Format.TheVariants.{F1, F3, F4, F5}
use Rattle.volume_model.specs.Dscbs.{format_of, extents_of, pointer_in}
use Rattle.volume_model.specs.Space.{entries_of}
use Rattle.volume_model.specs.Reads.{fields_of_1, fields_of_4}
use Rattle.vtoc_core.specs.Edit.{no_entry, run_of_entry}
use Rattle.vtoc_core.specs.Loaded.{field_of}
use Rattle.dscb_made.specs.Slots.{slot_of, first_offset, further_offset}
use Rattle.dscb_made.specs.Pointers.{pointer_text}
use Rattle.std.specs.Prelude.{slice_index_or}

-- A format 1 has the first three of a data set's extents in its slots, in order and numbered from 0, zeros in the slots behind them, the
-- number of all of them, and a pointer. All its other fields are those of the given one.
pub record IsFormat1With (format_1 : List ℕ) (extents : List Extent) (next : Option Cchhr) (bytes : List ℕ) : Type 0 where
  pub long : length bytes ≡ 140
  pub format : format_of bytes ≡ F1
  pub name : take 44 bytes ≡ take 44 format_1
  pub fields : fields_of_1 bytes ≡ fields_of_1 format_1
  pub count : slice_index bytes 59 ≡ length extents
  pub extents_are : extents_of bytes ≡ map field_of (take 3 extents)
  pub slots : (place byte : ℕ) → place < 3 → byte < 10 → slice_index bytes (first_offset place + byte) ≡ slice_index (extent_text (slot_of extents place)) byte
  pub next_is : pointer_in bytes ≡ next

-- A format 3 has the extents of a data set behind its third in its slots, in order and numbered on, zeros in the slots behind them, and
-- no pointer.
pub record IsFormat3With (extents : List Extent) (bytes : List ℕ) : Type 0 where
  pub long : length bytes ≡ 140
  pub format : format_of bytes ≡ F3
  pub extents_are : extents_of bytes ≡ map field_of (drop 3 extents)
  pub slots : (place byte : ℕ) → place < 13 → byte < 10 → slice_index bytes (further_offset place + byte) ≡ slice_index (extent_text (slot_of extents (3 + place))) byte
  pub next_is : pointer_in bytes ≡ None

-- A format 5 has these entries in order, zeros behind them, and a pointer.
pub record IsFormat5With (entries : List Entry5) (next : Option Cchhr) (bytes : List ℕ) : Type 0 where
  pub long : length bytes ≡ 140
  pub format : format_of bytes ≡ F5
  pub entries_are : (heads : ℕ) → entries_of heads bytes ≡ filter (λ run. nat_lt 0 run.len) (map (run_of_entry heads) entries)
  pub slots : (place byte : ℕ) → place < 26 → byte < 5 → slice_index bytes (entry_offset place + byte) ≡ slice_index (entry_text (slice_index_or entries place no_entry)) byte
  pub next_is : pointer_in bytes ≡ next

-- A format 4 says the place of the highest format 1, or zeros, and so many free records, or 65,535 where there are more; the indicators of
-- unstated space and of an interrupted change are off. All its other fields are those of the given one.
pub record IsStatedFormat4 (format_4 : List ℕ) (highest : Option Cchhr) (free : ℕ) (bytes : List ℕ) : Type 0 where
  pub format : format_of bytes ≡ F4
  pub bytes_are : bytes ≡ take 45 format_4 ++ (pointer_text highest ++ (big_bytes 2 (min free 65535) ++ (take 6 (drop 52 format_4) ++ (bit_and (slice_index format_4 58) 0x7B ∷ drop 59 format_4))))
  pub fields : fields_of_4 bytes ≡ fields_of_4 format_4

-- A format 4 says that a change was interrupted. All its other fields are those of the given one.
pub record IsMarkedFormat4 (format_4 bytes : List ℕ) : Type 0 where
  pub format : format_of bytes ≡ F4
  pub bytes_are : bytes ≡ take 58 format_4 ++ (bit_or (slice_index format_4 58) 0x04 ∷ drop 59 format_4)
