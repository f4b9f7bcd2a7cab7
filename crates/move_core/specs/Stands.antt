-- The units that a pool's blocks stand for.
use Rattle.std.specs.Prelude.{◌≡◌, ℕ, ◌+◌, ◌-◌, ◌/◌, ◌<◌, ◌≤◌, Bool, false, ◌&&◌, ◌==◌, nat_le, nat_lt, if◌then◌else◌, List, [], ◌∷◌, ◌++◌, length, take, drop, All, Some, slice_get}
use Rattle.ckd_image.specs.Device.{heads_of}
use Rattle.dasd_pool.specs.Disk.{Image, Shape, State}
use Rattle.redo_core.specs.declared.control.Control.{Control}
use Rattle.redo_core.specs.declared.control.Control.TheVariants.{Idle, Slide}
use Rattle.redo_core.specs.Reading.{journal_of, Reading, Reads}
use Rattle.redo_core.specs.Faults.{LabelsAre}
use Rattle.redo_core.specs.Opening.{IsJournalSynced, IsSure}
use Rattle.volume_model.specs.Unit.{Text, good, Extent, DataSet, OnlineVolume, UnitModel, online, tracks_of, IsFreeTrack}
use Rattle.volume_model.specs.Reads.{IsUnit, IsVital}
use Rattle.volume_model.specs.Pinned.{IsPinned}
use Rattle.volume_model.specs.Changed.{threes_for, ChangesSets, used_records}
use Rattle.move_core.specs.Facts.{Facts}
use Rattle.move_core.specs.Steps.{Replaces}

-- ---- an open slide

-- whether a unit has one
abbrev pub is_sliding : Control → ℕ → Bool
is_sliding Idle u = false
is_sliding (Slide unit from to len done) u = u == unit

-- where a track's text stands: those of a sliding extent that are done stand below it
abbrev pub place_in : Control → ℕ → ℕ → ℕ
place_in Idle u track = track
place_in (Slide unit from to len done) u track =
    if (u == unit) && (nat_le from track && nat_lt track (from + done)) then to + (track - from) else track

abbrev pub IsGood : Text → Type 0
IsGood (good text) = Unit {0}
IsGood _ = ⊥

-- The extent that slides: whose it is, those before and behind it, and its type.
pub record SlidingExtent : Type 0 where
  pub set : DataSet
  pub front : List Extent
  pub kind : ℕ
  pub back : List Extent

abbrev pub extent_from : ℕ → ℕ → ℕ → Extent
extent_from first len kind = record { run = record { first = first; len = len }; kind = kind }

-- the data set, with its extent at another place
abbrev pub moved_to : SlidingExtent → ℕ → ℕ → DataSet
moved_to extent to len =
    let extents = extent.front ++ (extent_from to len extent.kind ∷ extent.back) in
    record extent.set { extents = extents; threes = threes_for (length extents) }

-- a slide of some data set's extent, from its first track to a lower one, and the volume after it
pub record Slides (room from to len : ℕ) (before after : OnlineVolume) : Type 0 where
  pub down : to < from
  pub not_indexed : before.indexed ≡ false
  pub few_tracks : before.vtoc.len ≤ (room - 1) / 2
  pub extent : SlidingExtent
  pub movable : ¬ IsPinned (heads_of before.device) extent.set.name extent.set.fields extent.set.extents
  pub extents_are : extent.set.extents ≡ extent.front ++ (extent_from from len extent.kind ∷ extent.back)
  pub texts : All IsGood (take len (drop (length (tracks_of extent.front)) extent.set.texts))
  pub free : (track : ℕ) → to ≤ track → track < from → IsFreeTrack before track
  pub changes : ChangesSets before after (extent.set ∷ []) (moved_to extent to len ∷ [])
  pub fits : used_records after ≤ after.dscbs

-- ---- the units of a reading

-- what the blocks of each unit say, with the texts of a sliding extent at their places
pub record AreUnits (shape : Shape) (reading : Reading) (found : List UnitModel) : Type 0 where
  pub count : length found ≡ journal_of shape
  pub each : (u : ℕ) (unit : UnitModel) → slice_get found u ≡ Some unit
      → IsUnit (reading.fills u) (is_sliding reading.control u) (place_in reading.control u) (shape.head u) (shape.blocks u) (reading.volumes u) unit

-- an open slide counts as done
abbrev pub IsAfterSlide : ℕ → Control → List UnitModel → List UnitModel → Type 0
IsAfterSlide room Idle found units = units ≡ found
IsAfterSlide room (Slide unit from to len done) found units =
    (before : OnlineVolume) × (after : OnlineVolume) × Replaces unit (online before) (online after) found units × Slides room from to len before after

-- the units that a reading means
pub record Means (shape : Shape) (reading : Reading) (units : List UnitModel) : Type 0 where
  pub found : List UnitModel
  pub found_are : AreUnits shape reading found
  pub after : IsAfterSlide reading.room reading.control found units

-- the meaning of a unit rests on a block
abbrev pub RestsOn : Shape → Reading → List UnitModel → ℕ → ℕ → Type 0
RestsOn shape reading found u b =
    (unit : UnitModel) × (slice_get found u ≡ Some unit) × (b < shape.blocks u)
    × IsVital (place_in reading.control u) (shape.head u) (shape.blocks u) (reading.volumes u) unit b

-- none of these blocks is the journal's, and no meaning rests on one
pub record AreUnused (may : ℕ → ℕ → Bool) (shape : Shape) (reading : Reading) (found : List UnitModel) : Type 0 where
  pub journal : (b : ℕ) → may (journal_of shape) b ≡ false
  pub volumes : (u b : ℕ) → u < journal_of shape → RestsOn shape reading found u b → may u b ≡ false

-- ---- what a pool stands for

-- An image of a pool with these facts stands for units: it reads so, under these names and with this room, each label that reads has its
-- name, and that is what it means.
pub record Stands (facts : Facts) (image : Image) (units : List UnitModel) : Type 0 where
  pub reading : Reading
  pub reads : Reads facts.shape image reading
  pub names_are : reading.names ≡ facts.names
  pub room_is : reading.room ≡ facts.room
  pub labels : LabelsAre facts.shape reading.volumes facts.names (journal_of facts.shape)
  pub means : Means facts.shape reading units

-- A pool stands for units, and is settled: a stop now leaves each block as it is on which their meaning rests.
pub record IsSettled (facts : Facts) (state : State) (units : List UnitModel) : Type 0 where
  pub stands : Stands facts state.contents units
  pub journal : IsJournalSynced facts.shape state
  pub vital : (u b : ℕ) → u < journal_of facts.shape → RestsOn facts.shape stands.reading stands.means.found u b → IsSure facts.shape state u b
