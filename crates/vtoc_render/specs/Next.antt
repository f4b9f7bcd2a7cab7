-- A volume after one change of its VTOC.
use Rattle.std.specs.Prelude.{◌≡◌, ◌≢◌, ◌⊎◌, ℕ, ◌+◌, ◌<◌, ◌≤◌, true, false, List, [], ◌∷◌, ◌++◌, length, All, Contains, sum_by}
use Rattle.std.specs.List.{flat_map}
use Rattle.ckd_image.specs.Device.{heads_of}
use Rattle.dscb_rec.specs.declared.field.Extent.{Extent}
use Rattle.dsn_filter.specs.Dsn.{IsDsn}
use Rattle.free_map.specs.declared.run.Run.{Run}
use Rattle.free_map.specs.Free.{IsFree}
use Rattle.free_map.specs.Runs.{InRuns, AreMaximalRuns}
use Rattle.volume_model.specs.declared.format.Format.TheVariants.{F1}
use Rattle.volume_model.specs.Changed.{threes_for}
use Rattle.volume_model.specs.Dscbs.{format_of}
use Rattle.volume_model.specs.Pinned.{IsNameOf}
use Rattle.volume_model.specs.Reads.{fields_of_1}
use Rattle.volume_model.specs.Space.{is_run}
use Rattle.volume_model.specs.Unit.{fives_for}
use Rattle.vtoc_check.specs.declared.fault.VtocFault.{VtocFault}
use Rattle.vtoc_check.specs.declared.fault.VtocFault.TheVariants.{BadVtoc, Indexed, VtocFull, NoMemory}
use Rattle.vtoc_core.specs.declared.volume.Row.{Row}
use Rattle.vtoc_core.specs.declared.volume.Volume.{Volume}
use Rattle.vtoc_core.specs.Loaded.{field_of, records_for, HasItsName}
use Rattle.vtoc_layout.specs.Layout.{AreApart}
use Rattle.dscb_made.specs.Slots.{IsThere}
use Rattle.volume_change.specs.declared.change.Change.{Change}
use Rattle.volume_change.specs.declared.change.Change.TheVariants.{Repair, Put, Swap, Remove, Mark}
use Rattle.volume_change.specs.Runs.{runs_in, IsFreeAfter}
use Rattle.volume_change.specs.Spot.{AreNamed}

-- the runs of a volume's data sets
abbrev pub runs_of_rows : Volume → List Row → List Run
runs_of_rows volume rows = flat_map (λ row. runs_in (heads_of volume.device) row.extents) rows

-- ---- what may be put

-- A data set may be put in the place of others, or of none: its format 1 is one, of its name; its extents are at most 16, none of them empty,
-- runs below the usable tracks, with no track in two of them, and each track is free or one of those others.
pub record MayPut (volume : Volume) (gone : List Row) (row : Row) : Type 0 where
  pub named : HasItsName row
  pub format : format_of row.f1 ≡ F1
  pub few : length row.extents ≤ 16
  pub there : All IsThere row.extents
  pub ranges : All (λ extent. is_run (heads_of volume.device) volume.usable (field_of extent) ≡ true) row.extents
  pub apart : AreApart (runs_in (heads_of volume.device) row.extents)
  pub tracks : (track : ℕ) → InRuns (runs_in (heads_of volume.device) row.extents) track → IsFree volume.free track ⊎ InRuns (runs_of_rows volume gone) track

-- A change that may be made: what is put has a name of its own, what is swapped or removed is there, and what is marked states its free tracks.
abbrev pub MayChange : Volume → Change → Type 0
MayChange volume Repair = Unit {0}
MayChange volume (Put row) = MayPut volume [] row × All (λ other. other.name ≢ row.name) volume.rows
MayChange volume (Swap name row) = IsNameOf name row.name × ((old : Row) × Contains volume.rows old × (old.name ≡ row.name) × MayPut volume (old ∷ []) row)
MayChange volume (Remove name) = IsDsn name × (old : Row) × Contains volume.rows old × IsNameOf name old.name
MayChange volume Mark = volume.repair ≡ false

-- ---- what is left

-- extents numbered in order from a number on
abbrev pub numbered_from : ℕ → List Extent → List Extent
numbered_from number [] = []
numbered_from number (extent ∷ extents) = record { kind = extent.kind; number = number; first = extent.first; last = extent.last } ∷ numbered_from (number + 1) extents

-- A data set once it is put: its format 1 as it is written, its extents numbered from 0, and a format 3 where there are four or more.
pub record IsRowPut (given written : Row) : Type 0 where
  pub name_is : written.name ≡ given.name
  pub fields_are : fields_of_1 written.f1 ≡ fields_of_1 given.f1
  pub extents_are : written.extents ≡ numbered_from 0 given.extents
  pub threes_are : written.threes ≡ threes_for (length given.extents)

-- The rows after a change: all stay as they are, one is put between them, one is put in another's place, or one goes.
abbrev pub AreRowsAfter : List Row → Change → List Row → List Row → List Row → Type 0
AreRowsAfter old Repair gone put new = (gone ≡ []) × (put ≡ []) × (new ≡ old)
AreRowsAfter old (Put given) gone put new =
    (front back : List Row) × (row : Row) × (gone ≡ []) × (put ≡ row ∷ []) × IsRowPut given row × (old ≡ front ++ back) × (new ≡ front ++ (row ∷ back))
AreRowsAfter old (Swap name given) gone put new =
    (front back : List Row) × (before row : Row) × (gone ≡ before ∷ []) × (put ≡ row ∷ []) × (before.name ≡ given.name) × IsRowPut given row
    × (old ≡ front ++ (before ∷ back)) × (new ≡ front ++ (row ∷ back))
AreRowsAfter old (Remove name) gone put new =
    (front back : List Row) × (before : Row) × (gone ≡ before ∷ []) × (put ≡ []) × IsNameOf name before.name × (old ≡ front ++ (before ∷ back)) × (new ≡ front ++ back)
AreRowsAfter old Mark gone put new = ⊥

-- The volume after a change that is no mark, whether or not the VTOC has room for it.
pub record IsChanged (old : Volume) (change : Change) (new : Volume) : Type 0 where
  pub gone : List Row
  pub put : List Row
  pub rows_are : AreRowsAfter old.rows change gone put new.rows
  pub named : AreNamed new.rows
  pub free_are : AreMaximalRuns (IsFreeAfter old.free (runs_of_rows old gone) (runs_of_rows old put)) new.free.runs
  pub serial_is : new.serial ≡ old.serial
  pub device_is : new.device ≡ old.device
  pub usable_is : new.usable ≡ old.usable
  pub vtoc_is : new.vtoc ≡ old.vtoc
  pub repair_is : new.repair ≡ false
  pub indexed_is : new.indexed ≡ old.indexed
  pub dscbs_are : new.dscbs ≡ old.dscbs
  pub fives_are : new.fives ≡ fives_for (length new.free.runs)

-- the records that a volume's data sets and format 5s use, and its format 4
abbrev pub used_by : Volume → ℕ
used_by volume = 1 + volume.fives + sum_by records_for volume.rows

-- A mark changes nothing of a volume; any other change leaves one with so many free records as aren't used.
abbrev pub IsNext : Volume → Change → Volume → Type 0
IsNext old Mark new = new ≡ old
IsNext old change new = IsChanged old change new × (new.free_dscbs + used_by new ≡ new.dscbs)

-- ---- refusals

-- the change needs so many records more than are used, and fewer are free
pub record HasNoRoom (old : Volume) (change : Change) (need free : ℕ) : Type 0 where
  pub not_indexed : old.indexed ≡ false
  pub no_mark : change ≢ Mark
  pub new : Volume
  pub changed : IsChanged old change new
  pub need_is : used_by new ≡ used_by old + need
  pub free_is : free ≡ old.free_dscbs
  pub too_few : free < need

abbrev pub IsChangeFault : Volume → Change → VtocFault → Type 0
IsChangeFault old change Indexed = old.indexed ≡ true
IsChangeFault old change (VtocFull need free) = HasNoRoom old change need free
IsChangeFault old change (BadVtoc track number why) = ⊥
IsChangeFault old change NoMemory = Unit {0}
