-- A loaded volume, and the unit that it was loaded from.
use Rattle.std.specs.Prelude.{◌≡◌, ℕ, ◌≤◌, ◌<◌, false, List, [], ◌∷◌, length, map}
use Rattle.ckd_image.specs.declared.head.Head.{Head}
use Rattle.ckd_image.specs.Device.{heads_of}
use Rattle.free_map.specs.Runs.{InRuns}
use Rattle.vol_label.specs.declared.label.Label.{Label}
use Rattle.volume_model.specs.declared.why.Why.TheVariants as whys
use Rattle.volume_model.specs.declared.place.Breach.{Breach}
use Rattle.volume_model.specs.Changed.{free_records}
use Rattle.volume_model.specs.Reads.{IsOnline, IsUnit, IsVitalTrack, HasLabelOf, extent_in, fields_of_1}
use Rattle.volume_model.specs.Rules.{number_of}
use Rattle.volume_model.specs.Sound.{Slots, IsCheckFault}
use Rattle.volume_model.specs.Unit.{DataSet, OnlineVolume, UnitModel, online, offline, AreFreeRunsOf}
use Rattle.vtoc_core.specs.declared.volume.Row.{Row}
use Rattle.vtoc_core.specs.declared.volume.Volume.{Volume}
use Rattle.vtoc_core.specs.Loaded.{field_of}
use Rattle.vtoc_load.specs.LoadedVtoc.{IsLoadedVtoc}

-- ---- a volume as it is loaded

-- a row and its data set, whatever the texts of its tracks
pub record DescribesSet (heads : ℕ) (row : Row) (set : DataSet) : Type 0 where
  pub name_is : set.name ≡ row.name
  pub fields_are : set.fields ≡ fields_of_1 row.f1
  pub extents_are : set.extents ≡ map (λ extent. extent_in heads (field_of extent)) row.extents
  pub threes_are : set.threes ≡ row.threes

abbrev pub DescribesSets : ℕ → List Row → List DataSet → Type 0
DescribesSets heads [] [] = Unit {0}
DescribesSets heads (row ∷ rows) (set ∷ sets) = DescribesSet heads row set × DescribesSets heads rows sets
DescribesSets heads _ _ = ⊥

-- a volume as it is loaded, and what it is: the same but for the texts of tracks and what track 0 and the format 4 say further
pub record Describes (loaded : Volume) (volume : OnlineVolume) : Type 0 where
  pub serial_is : volume.serial ≡ loaded.serial
  pub device_is : volume.device ≡ loaded.device
  pub usable_is : volume.usable ≡ loaded.usable
  pub vtoc_is : volume.vtoc ≡ loaded.vtoc
  pub sets_are : DescribesSets (heads_of loaded.device) loaded.rows volume.sets
  pub free_are : AreFreeRunsOf volume loaded.free.runs
  pub repair_is : volume.repair ≡ loaded.repair
  pub indexed_is : volume.indexed ≡ loaded.indexed
  pub dscbs_are : volume.dscbs ≡ loaded.dscbs
  pub fives_are : volume.fives ≡ loaded.fives
  pub free_dscbs_are : loaded.free_dscbs ≡ free_records volume

-- ---- units

-- a track stands at its own place where no slide is open
abbrev pub own_place : ℕ → ℕ
own_place track = track

-- the slots of a unit are no longer than a slot can be
abbrev pub AreShort : ℕ → Slots → Type 0
AreShort blocks slots = (track : ℕ) → track < blocks → length (slots track) ≤ 65536

-- Where head and label of a unit pass and a volume was loaded from its VTOC, the unit is online, and is what the volume describes.
abbrev pub LoadedUnitsAreOnline : Type 0
LoadedUnitsAreOnline =
    (head : List ℕ) (blocks : ℕ) (slots : Slots) (image : Head) (label : Label) (loaded : Volume) (unit : UnitModel)
    → image.tracks ≤ 65535 → AreShort blocks slots → HasLabelOf head blocks slots image label → IsLoadedVtoc image label slots false loaded
    → IsUnit false false own_place head blocks slots unit
    → (volume : OnlineVolume) × (unit ≡ online volume) × IsOnline false own_place head blocks slots volume × Describes loaded volume

-- Where they pass and the VTOC is refused, the unit is offline, for that reason.
abbrev pub RefusedUnitsAreOffline : Type 0
RefusedUnitsAreOffline =
    (head : List ℕ) (blocks : ℕ) (slots : Slots) (image : Head) (label : Label) (told : Breach) (unit : UnitModel)
    → image.tracks ≤ 65535 → AreShort blocks slots → HasLabelOf head blocks slots image label → IsCheckFault image slots label.vtoc false told
    → IsUnit false false own_place head blocks slots unit
    → (kept : List (List ℕ)) × (unit ≡ offline (whys.Vtoc told.place.track told.place.record_number (number_of told.rule)) kept)

-- The meaning of a volume rests on no track that is free.
abbrev pub FreeTracksAreUnused : Type 0
FreeTracksAreUnused = (loaded : Volume) (volume : OnlineVolume) (track : ℕ) → Describes loaded volume → InRuns loaded.free.runs track → ¬ IsVitalTrack own_place volume track
