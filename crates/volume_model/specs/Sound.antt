-- A volume that passes the VTOC check, and what its directory says.
use Rattle.std.specs.Prelude.{◌≡◌, ◌≢◌, ◌⊎◌, ℕ, ◌+◌, ◌*◌, ◌<◌, ◌≤◌, min, Bool, true, IsTrue, ◌==◌, ◌&&◌, ◌||◌, List, [], ◌++◌, length, map, All, Option, Some, None, bit_and, slice_index, slice_index_or}
use Rattle.ckd_image.specs.declared.device.Device.{Device}
use Rattle.ckd_image.specs.declared.head.Head.{Head}
use Rattle.ckd_image.specs.declared.track.Cchhr.{Cchhr}
use Rattle.ckd_image.specs.declared.track.Rec.{Rec}
use Rattle.ckd_image.specs.declared.track.Track.{Track}
use Rattle.ckd_image.specs.Address.{address_of}
use Rattle.ckd_image.specs.Device.{heads_of}
use Rattle.ckd_image.specs.Head.{IsHead}
use Rattle.ckd_image.specs.Track.{IsTrackText}
use Rattle.vol_label.specs.declared.label.Label.{Label}
use Rattle.vol_label.specs.Label.{IsFirstNumbered, IsLabel}
use Rattle.volume_model.specs.declared.rule.VtocRule.{VtocRule}
use Rattle.volume_model.specs.declared.rule.VtocRule.TheVariants as rules
use Rattle.volume_model.specs.declared.format.Format.TheVariants.{F4}
use Rattle.volume_model.specs.Dscbs.{format_of, number_at, extent_at}
use Rattle.volume_model.specs.Directory.{named_place, DirectoryRow, AreInOrder, rows_of}
use Rattle.free_map.specs.declared.run.Run.{Run}
use Rattle.free_map.specs.Runs.{AreMaximalRuns}
use Rattle.volume_model.specs.Space.{has_track, track_at, is_run, run_of, is_free}
use Rattle.volume_model.specs.declared.place.Breach.{Breach}
use Rattle.volume_model.specs.declared.place.Vtoc.{Vtoc}
use Rattle.volume_model.specs.Check.{records_of, extents_in, usable_in, breaches_of, IsLowestBreach}

-- the slots of a unit: of each track, its bytes
abbrev pub Slots : Type 0
Slots = ℕ → List ℕ

-- ---- reading the VTOC's tracks

-- a record with a key of 44 and 96 bytes
abbrev pub IsDscbRecord : Rec → Type 0
IsDscbRecord rec = (length rec.key ≡ 44) × (length rec.body ≡ 96)

abbrev pub dscb_of : Rec → List ℕ
dscb_of rec = rec.key ++ rec.body

-- a track of the VTOC: a track text with at least one record, numbered from 1 in order, each a DSCB's by its lengths
pub record IsVtocTrack (heads track : ℕ) (slot : List ℕ) (dscbs : List (List ℕ)) : Type 0 where
  pub text : Track
  pub stands : IsTrackText (address_of heads track) slot text
  pub some : 1 ≤ length text.recs
  pub numbered : (k : ℕ) → k < length text.recs → slice_index (map (λ rec. rec.r) text.recs) k ≡ k + 1
  pub shaped : All IsDscbRecord text.recs
  pub dscbs_are : dscbs ≡ map dscb_of text.recs

-- what is read of a track: its DSCBs, or none where it is no track of a VTOC
abbrev pub IsTrackReading : ℕ → ℕ → List ℕ → Option (List (List ℕ)) → Type 0
IsTrackReading heads track slot None = (dscbs : List (List ℕ)) → ¬ IsVtocTrack heads track slot dscbs
IsTrackReading heads track slot (Some dscbs) = IsVtocTrack heads track slot dscbs

pub record IsReading (heads : ℕ) (slots : Slots) (run : Run) (tracks : List (Option (List (List ℕ)))) : Type 0 where
  pub whole : length tracks ≡ run.len
  pub each : (k : ℕ) → k < run.len → IsTrackReading heads (run.first + k) (slots (run.first + k)) (slice_index_or tracks k None)

-- ---- the first three rules

-- the format 4 that a label's pointer names
pub record IsFormat4 (heads : ℕ) (slots : Slots) (pointer : Cchhr) (bytes : List ℕ) : Type 0 where
  pub text : Track
  pub rec : Rec
  pub stands : IsTrackText pointer.at (slots (track_at heads pointer.at)) text
  pub numbered : IsFirstNumbered pointer.r text.recs rec
  pub shaped : IsDscbRecord rec
  pub bytes_are : bytes ≡ dscb_of rec
  pub format : format_of bytes ≡ F4

-- the format 4 says the heads, and some cylinders
abbrev pub HasGeometry : ℕ → List ℕ → Type 0
HasGeometry heads bytes = (number_at bytes 64 ≡ heads) × (number_at bytes 62 ≢ 0)

-- the end of the volume: its cylinders, as far as the image goes
abbrev pub limit_of : Head → List ℕ → ℕ
limit_of head bytes = min (number_at bytes 62 * heads_of head.device) head.tracks

-- the VTOC's extent is a run below the end of the volume, without track 0 and with the track of the format 4
pub record HasVtocExtent (head : Head) (pointer : Cchhr) (bytes : List ℕ) : Type 0 where
  pub there : (extent_at bytes 105).kind ≢ 0
  pub run : is_run (heads_of head.device) (limit_of head bytes) (extent_at bytes 105) ≡ true
  pub not_track_0 : 1 ≤ track_at (heads_of head.device) (extent_at bytes 105).first
  pub holds : has_track (track_at (heads_of head.device) pointer.at) (run_of (heads_of head.device) (extent_at bytes 105)) ≡ true

-- the first of the three rules that fails
abbrev pub IsFirstRuleBroken : Head → Slots → Cchhr → VtocRule → Type 0
IsFirstRuleBroken head slots pointer rules.NoFormat4 = (bytes : List ℕ) → ¬ IsFormat4 (heads_of head.device) slots pointer bytes
IsFirstRuleBroken head slots pointer rules.Geometry =
    (bytes : List ℕ) × IsFormat4 (heads_of head.device) slots pointer bytes × ¬ HasGeometry (heads_of head.device) bytes
IsFirstRuleBroken head slots pointer rules.VtocExtent =
    (bytes : List ℕ) × IsFormat4 (heads_of head.device) slots pointer bytes × HasGeometry (heads_of head.device) bytes × ¬ HasVtocExtent head pointer bytes
IsFirstRuleBroken head slots pointer _ = ⊥

-- ---- the whole check

-- format 5 is valid where neither the bit for that nor, unless a slide is open, that of an interrupted change is on
abbrev pub is_valid : Bool → List ℕ → Bool
is_valid sliding bytes =
    let indicators = slice_index bytes 58 in
    (bit_and indicators 0x80 == 0) && (sliding || (bit_and indicators 0x04 == 0))

-- what the other rules look at, where the first three hold
pub record IsVtoc (head : Head) (slots : Slots) (pointer : Cchhr) (sliding : Bool) (vtoc : Vtoc) : Type 0 where
  pub bytes : List ℕ
  pub format_4 : IsFormat4 (heads_of head.device) slots pointer bytes
  pub geometry : HasGeometry (heads_of head.device) bytes
  pub extent : HasVtocExtent head pointer bytes
  pub heads_are : vtoc.heads ≡ heads_of head.device
  pub limit_is : vtoc.limit ≡ limit_of head bytes
  pub place_is : vtoc.format_4 ≡ named_place (heads_of head.device) pointer
  pub valid_is : vtoc.valid ≡ is_valid sliding bytes
  pub alternates_are : vtoc.alternates ≡ number_at bytes 56
  pub run_is : vtoc.run ≡ run_of (heads_of head.device) (extent_at bytes 105)
  pub reading : IsReading (heads_of head.device) slots vtoc.run vtoc.tracks

-- the check's refusal: the first of the three rules that fails, at the pointer's place, or the lowest place that breaks one of the others
abbrev pub IsCheckFault : Head → Slots → Cchhr → Bool → Breach → Type 0
IsCheckFault head slots pointer sliding told =
    (IsFirstRuleBroken head slots pointer told.rule × (told.place ≡ named_place (heads_of head.device) pointer))
    ⊎ ((vtoc : Vtoc) × IsVtoc head slots pointer sliding vtoc × IsLowestBreach vtoc told)

-- a volume, as far as a listing of it goes: its VTOC, the usable tracks, the runs of free tracks and the data sets
pub record Volume : Type 0 where
  pub device : Device
  pub label : Label
  pub usable : ℕ
  pub free : List Run
  pub rows : List DirectoryRow

-- A unit with this head and these slots is this volume: head, label and VTOC pass their checks.
pub record IsVolume (head : List ℕ) (blocks : ℕ) (slots : Slots) (sliding : Bool) (volume : Volume) : Type 0 where
  pub image : Head
  pub track_0 : Track
  pub vtoc : Vtoc
  pub head_stands : IsHead head blocks image.device
  pub tracks_are : image.tracks ≡ blocks
  pub device_is : volume.device ≡ image.device
  pub track_0_stands : IsTrackText (address_of (heads_of image.device) 0) (slots 0) track_0
  pub label_stands : IsLabel image track_0.recs volume.label
  pub vtoc_stands : IsVtoc image slots volume.label.vtoc sliding vtoc
  pub sound : breaches_of vtoc ≡ []
  pub usable_is : volume.usable ≡ usable_in vtoc
  pub free_are : AreMaximalRuns (λ track. IsTrue (is_free (usable_in vtoc) vtoc.run (extents_in vtoc) track)) volume.free
  pub rows_are : AreInOrder (rows_of vtoc.heads (records_of vtoc)) volume.rows
