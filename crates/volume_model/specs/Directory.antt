-- The records of a VTOC with their places, and the data sets that they describe.
use Rattle.std.specs.Prelude.{ℕ, zero, suc, ◌+◌, ◌*◌, Bool, ◌==◌, ◌&&◌, nat_lt, if◌then◌else◌, List, [], ◌∷◌, ◌++◌, length, map, filter, find, take, Option, Some, None}
use Rattle.std.specs.List.{flat_map}
use Rattle.std.specs.List.Sorted.{IsPermutation, IsSortedBy}
use Rattle.std.specs.Ordering.{is_lt, nat_cmp}
use Rattle.std.specs.Cmp.Lexicographic.{slice_cmp}
use Rattle.ckd_image.specs.declared.track.Cchhr.{Cchhr}
use Rattle.volume_model.specs.declared.format.Format.{Format}
use Rattle.volume_model.specs.declared.place.Place.{Place}
use Rattle.volume_model.specs.declared.place.Placed.{Placed}
use Rattle.volume_model.specs.declared.extent.ExtentField.{ExtentField}
use Rattle.volume_model.specs.Dscbs.{format_of, is_f1, is_f3, extents_of, pointer_in}

-- the records of one track, numbered from a number on
abbrev pub placed_from : ℕ → ℕ → List (List ℕ) → List Placed
placed_from track number [] = []
placed_from track number (bytes ∷ more) = record { place = record { track = track; record_number = number }; bytes = bytes } ∷ placed_from track (number + 1) more

-- the records of all tracks, the first of them with this number; a track that is no VTOC track has none
abbrev pub placed_in : ℕ → List (Option (List (List ℕ))) → List Placed
placed_in track [] = []
placed_in track (None ∷ tracks) = placed_in (track + 1) tracks
placed_in track (Some dscbs ∷ tracks) = placed_from track 1 dscbs ++ placed_in (track + 1) tracks

-- the place of an address and a record number, on a device with so many heads
abbrev pub named_place : ℕ → Cchhr → Place
named_place heads pointer = record { track = pointer.at.cylinder * heads + pointer.at.head; record_number = pointer.r }

abbrev pub same_place : Place → Place → Bool
same_place a b = (a.track == b.track) && (a.record_number == b.record_number)

-- the record at a place
abbrev pub record_at : List Placed → Place → Option Placed
record_at records place = find (λ placed. same_place placed.place place) records

-- The record that a pointer names: there is a pointer, its address is that of a track, and a record stands at that place. A head
-- that the device doesn't have is no track's.
abbrev pub named_record : ℕ → List Placed → Option Cchhr → Option Placed
named_record heads records None = None
named_record heads records (Some pointer) = if nat_lt pointer.at.head heads then record_at records (named_place heads pointer) else None

-- the record, where it has this format
abbrev pub if_format : (Format → Bool) → Option Placed → Option Placed
if_format is_format None = None
if_format is_format (Some placed) = if is_format (format_of placed.bytes) then Some placed else None

-- the format 3 that a record's pointer names
abbrev pub next_format_3 : ℕ → List Placed → List ℕ → Option Placed
next_format_3 heads records bytes = if_format is_f3 (named_record heads records (pointer_in bytes))

-- a record and those behind it, where there is one
abbrev pub extended : Option Placed → (Placed → List Placed) → List Placed
extended None behind = []
extended (Some placed) behind = placed ∷ behind placed

-- the format 3s that pointers reach from these bytes on, at most so many
abbrev pub chain_of : ℕ → List Placed → ℕ → List ℕ → List Placed
chain_of heads records zero bytes = []
chain_of heads records (suc most) bytes = extended (next_format_3 heads records bytes) (λ placed. chain_of heads records most placed.bytes)

-- a data set as the directory has it: its format 1, its extents in order, and how many format 3s it has
pub record DirectoryRow : Type 0 where
  pub format_1 : List ℕ
  pub extents : List ExtentField
  pub threes : ℕ

abbrev pub row_of : ℕ → List Placed → Placed → DirectoryRow
row_of heads records placed =
    let chain = chain_of heads records (length records) placed.bytes in
    record { format_1 = placed.bytes; extents = extents_of placed.bytes ++ flat_map (λ three. extents_of three.bytes) chain; threes = length chain }

-- each format 1 gives one row
abbrev pub rows_of : ℕ → List Placed → List DirectoryRow
rows_of heads records = map (row_of heads records) (filter (λ placed. is_f1 (format_of placed.bytes)) records)

-- ---- the order of names

-- the name of the first comes before that of the second
abbrev pub name_before : DirectoryRow → DirectoryRow → Bool
name_before a b = is_lt (slice_cmp nat_cmp (take 44 a.format_1) (take 44 b.format_1))

-- the same rows in the order of their names
pub record AreInOrder (found rows : List DirectoryRow) : Type 0 where
  pub same : IsPermutation found rows
  pub order : IsSortedBy name_before rows
