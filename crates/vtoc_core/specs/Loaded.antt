-- A loaded volume as its VTOC says it.
use Rattle.std.specs.Prelude.{◌≡◌, ℕ, ◌+◌, map, take}
use Rattle.dscb_rec.specs.declared.field.Extent.{Extent}
use Rattle.volume_model.specs.declared.extent.ExtentField.{ExtentField}
use Rattle.volume_model.specs.Directory.{DirectoryRow}
use Rattle.vtoc_core.specs.declared.volume.Row.{Row}

-- an extent without its number, which isn't looked at
abbrev pub field_of : Extent → ExtentField
field_of extent = record { kind = extent.kind; first = extent.first; last = extent.last }

-- a row of the directory, as it is loaded
abbrev pub row_in : Row → DirectoryRow
row_in row = record { format_1 = row.f1; extents = map field_of row.extents; threes = row.threes }

-- the records that a data set uses
abbrev pub records_for : Row → ℕ
records_for row = 1 + row.threes

-- the rows of a volume have the names of their format 1s
abbrev pub HasItsName : Row → Type 0
HasItsName row = row.name ≡ take 44 row.f1
