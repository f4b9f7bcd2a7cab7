-- The tracks of a data set that was loaded, and whether they have texts.
use Rattle.std.specs.Prelude.{◌≡◌, ℕ, List, All, Contains, Option, Some, IfSome, slice_get}
use Rattle.ckd_image.specs.declared.device.Device.{Device}
use Rattle.ckd_image.specs.declared.track.Track.{Track}
use Rattle.ckd_image.specs.Address.{address_of}
use Rattle.ckd_image.specs.Device.{heads_of}
use Rattle.ckd_image.specs.Track.{IsTrackText}
use Rattle.dasd_pool.specs.Disk.{Image}
use Rattle.dsn_filter.specs.declared.dsn.Dsn.{Dsn}
use Rattle.volume_model.specs.Pinned.{IsNameOf}
use Rattle.volume_model.specs.Reads.{AreTexts}
use Rattle.volume_model.specs.Sound.{Slots}
use Rattle.volume_model.specs.Unit.{DataSet, OnlineVolume, UnitModel, online}
use Rattle.vtoc_core.specs.declared.volume.Row.{Row}
use Rattle.vtoc_core.specs.declared.volume.Volume.{Volume}
use Rattle.unit_load.specs.declared.state.UnitState.{UnitState}
use Rattle.unit_steps.specs.declared.plan.Tracks.{Tracks}
use Rattle.unit_steps.specs.declared.plan.Tracks.TheVariants as texts
use Rattle.unit_steps.specs.unit_change.Described.{own_place}
use Rattle.unit_steps.specs.Plans.{IsLoadedAt, HasRow, tracks_in}
use Rattle.unit_session.specs.declared.copies.Source.{Source}

-- a track of a unit has a text
abbrev pub HasTextOn : ℕ → Slots → ℕ → Type 0
HasTextOn heads slots track = (text : Track) × IsTrackText (address_of heads track) (slots track) text

-- the tracks of the data set of a name on a unit, as it was loaded, and the unit's device
pub record AreTracksAt (units : List UnitState) (unit : ℕ) (name : Dsn) (device : Device) (tracks : List ℕ) : Type 0 where
  pub volume : Volume
  pub row : Row
  pub loaded : IsLoadedAt units unit volume
  pub row_is : HasRow volume name row
  pub device_is : device ≡ volume.device
  pub tracks_are : tracks ≡ tracks_in volume row

-- each track of the data set has a text
abbrev pub HasTexts : List UnitState → Image → Source → Type 0
HasTexts units contents set =
    (volume : Volume) (row : Row) → IsLoadedAt units set.unit volume → HasRow volume set.name row → All (HasTextOn (heads_of volume.device) (contents set.unit)) (tracks_in volume row)

-- so has the one that was seen, if one was
abbrev pub AreSeen : List UnitState → Image → Option Source → Type 0
AreSeen units contents seen = IfSome seen (HasTexts units contents)

-- the texts of these tracks are those of the data set that was seen
abbrev pub IsSeen : Option Source → Tracks → Type 0
IsSeen seen tracks = (source : Source) × (seen ≡ Some source) × (tracks ≡ texts.Rows source.unit source.name)

-- ---- a data set as it was loaded, and as it is

-- the row of a name on a unit, as it was loaded, and the data set of that name on the unit
pub record IsRowOf (units : List UnitState) (models : List UnitModel) (unit : ℕ) (name : Dsn) (loaded : Volume) (row : Row) (set : DataSet) : Type 0 where
  pub loaded_is : IsLoadedAt units unit loaded
  pub row_is : HasRow loaded name row
  pub volume : OnlineVolume
  pub online_is : slice_get models unit ≡ Some (online volume)
  pub there : Contains volume.sets set
  pub named : IsNameOf name set.name

-- the texts of each data set are what the tracks of its row say
abbrev pub AreTextsOf : List UnitState → List UnitModel → Image → Type 0
AreTextsOf units models contents =
    (unit : ℕ) (name : Dsn) (loaded : Volume) (row : Row) (set : DataSet) → IsRowOf units models unit name loaded row set
    → AreTexts (heads_of loaded.device) own_place (contents unit) (tracks_in loaded row) set.texts
