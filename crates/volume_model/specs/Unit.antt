-- What a unit is, whatever bytes say it: an online volume with its data sets, or an offline unit and why.
use Rattle.std.specs.Prelude.{◌≡◌, ℕ, ◌+◌, ◌<◌, max, Bool, List, map}
use Rattle.std.specs.Cmp.Lexicographic.{slice_cmp}
use Rattle.std.specs.List.{flat_map}
use Rattle.std.specs.List.Sorted.{IsSortedByKey}
use Rattle.std.specs.Ordering.{nat_cmp}
use Rattle.ckd_image.specs.declared.device.Device.{Device}
use Rattle.ckd_image.specs.declared.track.Track.{Track}
use Rattle.free_map.specs.declared.run.Run.{Run}
use Rattle.free_map.specs.Runs.{HasTrack, InRuns, AreMaximalRuns}
use Rattle.vol_label.specs.declared.serial.Serial.{Serial}
use Rattle.volume_model.specs.declared.why.Why.{Why}
use Rattle.volume_model.specs.Dscbs.{numbers_below}
use Rattle.ckd_image.specs.Device.{ceil_div}

-- the text of a track: what its slot says, or the bytes of a slot that says nothing
pub data Text : Type 0 where
  good : Track → Text
  bad : List ℕ → Text

-- an extent: its tracks, and its type
pub record Extent : Type 0 where
  pub run : Run
  pub kind : ℕ

-- A data set: its name of 44 bytes, the fields of its format 1, its extents in order, the texts of their tracks in order, and
-- how many format 3s it uses.
pub record DataSet : Type 0 where
  pub name : List ℕ
  pub fields : List ℕ
  pub extents : List Extent
  pub texts : List Text
  pub threes : ℕ

-- data sets in the order of their names, byte by byte
abbrev pub AreByName : List DataSet → Type 0
AreByName sets = IsSortedByKey (λ set. set.name) (slice_cmp nat_cmp) sets

-- An online volume: its serial and device, how many of its tracks are usable, the run of its VTOC, what stands on track 0, the
-- fields of its format 4, its data sets in the order of their names, whether its free space is unstated, whether it has an
-- index, how many records its VTOC has, how many of them are format 5s, and the blocks behind the usable tracks.
pub record OnlineVolume : Type 0 where
  pub serial : Serial
  pub device : Device
  pub usable : ℕ
  pub vtoc : Run
  pub first : Track
  pub four : List ℕ
  pub sets : List DataSet
  pub repair : Bool
  pub indexed : Bool
  pub dscbs : ℕ
  pub fives : ℕ
  pub tail : List (List ℕ)

-- a unit: online, or offline with the bytes of its blocks; an unfinished restore has none that mean anything
pub data UnitModel : Type 0 where
  online : OnlineVolume → UnitModel
  offline : Why → List (List ℕ) → UnitModel

-- ---- tracks

abbrev pub run_in : Extent → Run
run_in extent = extent.run

-- the tracks of a run, and of extents, in order
abbrev pub tracks_in : Run → List ℕ
tracks_in run = map (λ place. run.first + place) (numbers_below run.len)

abbrev pub tracks_of : List Extent → List ℕ
tracks_of extents = flat_map (λ extent. tracks_in extent.run) extents

-- the runs of all data sets
abbrev pub runs_of_sets : List DataSet → List Run
runs_of_sets sets = flat_map (λ set. map run_in set.extents) sets

-- a track is free: it is usable, and neither track 0 nor one of the VTOC or of a data set
pub record IsFreeTrack (volume : OnlineVolume) (track : ℕ) : Type 0 where
  pub usable : track < volume.usable
  pub not_0 : ¬ (track ≡ 0)
  pub not_vtoc : ¬ HasTrack volume.vtoc track
  pub not_set : ¬ InRuns (runs_of_sets volume.sets) track

-- the runs of the free tracks
abbrev pub AreFreeRunsOf : OnlineVolume → List Run → Type 0
AreFreeRunsOf volume runs = AreMaximalRuns (IsFreeTrack volume) runs

-- the format 5s that so many free runs need: 26 runs for each, and one at least
abbrev pub fives_for : ℕ → ℕ
fives_for runs = max 1 (ceil_div runs 26)
