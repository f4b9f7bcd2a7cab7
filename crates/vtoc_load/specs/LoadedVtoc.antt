-- A volume that is loaded from any VTOC that passes its check.
use Rattle.std.specs.Prelude.{◌≡◌, ℕ, Bool, IsTrue, not, List, [], length, map, filter, take, All}
use Rattle.std.specs.Ordering.{is_lt, nat_cmp}
use Rattle.std.specs.Cmp.Lexicographic.{slice_cmp}
use Rattle.free_map.specs.Free.{Free}
use Rattle.free_map.specs.Runs.{AreMaximalRuns}
use Rattle.ckd_image.specs.declared.device.Device.{Device}
use Rattle.ckd_image.specs.declared.head.Head.{Head}
use Rattle.vol_label.specs.declared.label.Label.{Label}
use Rattle.volume_model.specs.declared.place.Placed.{Placed}
use Rattle.volume_model.specs.declared.place.Vtoc.{Vtoc}
use Rattle.volume_model.specs.Dscbs.{is_free_record}
use Rattle.volume_model.specs.Directory.{DirectoryRow, AreInOrder, row_of, rows_of}
use Rattle.volume_model.specs.Space.{is_free}
use Rattle.volume_model.specs.Check.{records_of, fives_of, extents_in, usable_in, breaches_of}
use Rattle.volume_model.specs.Reads.{has_index}
use Rattle.volume_model.specs.Sound.{Slots}
use Rattle.vtoc_check.specs.Places.{blank}
use Rattle.vtoc_check.specs.Sized.{IsSized, IsVtocWith}
use Rattle.vtoc_core.specs.declared.volume.Volume.{Volume}
use Rattle.vtoc_core.specs.Loaded.{row_in, HasItsName}

-- the free records of a VTOC
abbrev pub free_records_of : Vtoc → List Placed
free_records_of vtoc = filter is_free_record (records_of vtoc)

-- the row of the data set with this format 1
abbrev pub row_with : ℕ → List Placed → List ℕ → DirectoryRow
row_with heads records bytes = row_of heads records (record { place = blank.place; bytes = bytes })

-- one format 1 comes before another by its name
abbrev pub set_before : List ℕ → List ℕ → Bool
set_before a b = is_lt (slice_cmp nat_cmp (take 44 a) (take 44 b))

-- the usable tracks of a VTOC, and the free ones among them
pub record IsSpaceOf (vtoc : Vtoc) (usable : ℕ) (free : Free) : Type 0 where
  pub usable_is : usable ≡ usable_in vtoc
  pub free_are : AreMaximalRuns (λ track. IsTrue (is_free usable vtoc.run (extents_in vtoc) track)) free.runs
  pub limit_is : free.usable ≡ usable
  pub heads_are : free.heads ≡ vtoc.heads

-- A volume as its label, what is read of its VTOC, and the format 4 say it: its rows in the order of their names with all their
-- extents, its free tracks, and the counts of its records.
pub record IsVolumeOf (label : Label) (device : Device) (vtoc : Vtoc) (four : List ℕ) (loaded : Volume) : Type 0 where
  pub serial_is : loaded.serial ≡ label.serial
  pub device_is : loaded.device ≡ device
  pub vtoc_is : loaded.vtoc ≡ vtoc.run
  pub rows_are : AreInOrder (rows_of vtoc.heads (records_of vtoc)) (map row_in loaded.rows)
  pub names_are : All HasItsName loaded.rows
  pub space : IsSpaceOf vtoc loaded.usable loaded.free
  pub repair_is : loaded.repair ≡ not vtoc.valid
  pub indexed_is : loaded.indexed ≡ has_index four
  pub dscbs_are : loaded.dscbs ≡ length (records_of vtoc)
  pub fives_are : loaded.fives ≡ length (fives_of vtoc)
  pub free_dscbs_are : loaded.free_dscbs ≡ length (free_records_of vtoc)

-- The volume of a VTOC that breaks no rule. While a slide is open on it, the indicator of an interrupted change counts as off.
pub record IsLoadedVtoc (head : Head) (label : Label) (slots : Slots) (sliding : Bool) (loaded : Volume) : Type 0 where
  pub vtoc : Vtoc
  pub four : List ℕ
  pub stands : IsVtocWith head slots label.vtoc sliding vtoc four
  pub sized : IsSized vtoc
  pub sound : breaches_of vtoc ≡ []
  pub volume : IsVolumeOf label head.device vtoc four loaded
