-- The records of the data set with a name.
use Rattle.std.specs.Prelude.{ℕ, Bool, List, find, Option, Some, None}
use Rattle.volume_model.specs.declared.place.Placed.{Placed}
use Rattle.volume_model.specs.declared.place.Vtoc.{Vtoc}
use Rattle.volume_model.specs.Dscbs.{format_of, is_f1}
use Rattle.volume_model.specs.Check.{same_bytes}
use Rattle.vtoc_layout.specs.Layout.{SetRecords, name_of, sets_of}
use Rattle.layout_found.specs.declared.sets.SetRecords.{SetRecords as FoundRecords}

abbrev pub is_one : Placed → Bool
is_one placed = is_f1 (format_of placed.bytes)

-- records that were found, as a layout has them
abbrev pub viewed : Option FoundRecords → Option SetRecords
viewed None = None
viewed (Some found) = Some (record { one = found.one; threes = found.threes })

-- the first data set with this name
abbrev pub set_named : Vtoc → List ℕ → Option SetRecords
set_named vtoc name = find (λ set. same_bytes (name_of set) name) (sets_of vtoc)
