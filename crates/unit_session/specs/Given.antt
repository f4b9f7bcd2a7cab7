-- The tracks whose texts the caller gives, and the step that they make.
use Rattle.std.specs.Prelude.{◌≡◌, ℕ, ◌<◌, ◌≤◌, Bool, List, ◌∷◌, length, get_or, All, Option, Some, None}
use Rattle.ckd_image.specs.declared.track.Track.{Track}
use Rattle.ckd_image.specs.Address.{address_of}
use Rattle.ckd_image.specs.Device.{heads_of, slot_of}
use Rattle.ckd_image.specs.Track.{IsTrackText, track_text}
use Rattle.dasd_pool.specs.Disk.{Image, Shape, is_at, none}
use Rattle.redo_core.specs.Reading.{journal_of}
use Rattle.vtoc_core.specs.declared.volume.Row.{Row}
use Rattle.vtoc_core.specs.declared.volume.Volume.{Volume}
use Rattle.volume_change.specs.declared.change.Change.{Change}
use Rattle.unit_load.specs.declared.state.UnitState.{UnitState}
use Rattle.unit_steps.specs.unit_change.Described.{AreShort}
use Rattle.unit_steps.specs.declared.plan.Tracks.{Tracks}
use Rattle.unit_steps.specs.declared.plan.Tracks.TheVariants as texts
use Rattle.unit_steps.specs.Copied.{IsPutBy}
use Rattle.unit_steps.specs.Plans.{IsLoadedAt, tracks_in}
use Rattle.unit_session.specs.declared.copies.Copies.{Copies}
use Rattle.unit_session.specs.declared.copies.GivenTracks.{GivenTracks}

-- the tracks of the row that a change puts on a unit
abbrev pub AreTracksPut : List UnitState → ℕ → Change → GivenTracks → Type 0
AreTracksPut units unit change given =
    (volume : Volume) × (row : Row) × IsLoadedAt units unit volume × IsPutBy change row
    × (given.device ≡ volume.device) × (given.unit ≡ unit) × (given.tracks.items ≡ tracks_in volume row)

-- the given tracks of a plan, if there are any
abbrev pub AreGivenOf : List UnitState → Tracks → List (ℕ × Change) → Option GivenTracks → Type 0
AreGivenOf units texts.Given (change ∷ changes) (Some given) = AreTracksPut units change.0 change.1 given
AreGivenOf units texts.Given (change ∷ changes) None = ⊥
AreGivenOf units tracks changes given = given ≡ None

-- what is done for the given tracks there may be
abbrev pub OnGiven : (GivenTracks → Type 0) → Option GivenTracks → Type 0
OnGiven P None = Unit {0}
OnGiven P (Some given) = P given

-- where texts are copied, none are given
abbrev pub AreNotBoth : Option Copies → Option GivenTracks → Type 0
AreNotBoth None given = Unit {0}
AreNotBoth (Some copies) given = given ≡ None

-- Given tracks may be written: they are tracks of a unit that is there, whose slots are those of the device.
pub record MayGive (shape : Shape) (given : GivenTracks) : Type 0 where
  pub unit : given.unit < journal_of shape
  pub few : shape.blocks given.unit ≤ 65535
  pub size : shape.block_size given.unit ≡ slot_of given.device
  pub tracks : All (λ track. track < shape.blocks given.unit) given.tracks.items

-- the track at a place among them
abbrev pub track_at : GivenTracks → ℕ → ℕ
track_at given index = get_or given.tracks.items index 0

-- there are given tracks, and one at this place
abbrev pub GivesAt : Option GivenTracks → ℕ → Type 0
GivesAt (Some given) index = index < length given.tracks.items
GivesAt None index = ⊥

-- how many tracks the caller gives
abbrev pub count_given : Option GivenTracks → ℕ
count_given (Some given) = length given.tracks.items
count_given None = 0

-- the text of a track fits the slot of the one at a place
abbrev pub FitsSlot : GivenTracks → ℕ → Track → Type 0
FitsSlot given index text = length (track_text (address_of (heads_of given.device) (track_at given index)) text) ≤ slot_of given.device

abbrev pub FitsAt : Option GivenTracks → ℕ → Track → Type 0
FitsAt given index text = OnGiven (λ some. FitsSlot some index text) given

-- its slot is this text
abbrev pub IsTextGiven : GivenTracks → ℕ → Track → Image → Type 0
IsTextGiven given index text contents =
    IsTrackText (address_of (heads_of given.device) (track_at given index)) (contents given.unit (track_at given index)) text

abbrev pub IsGivenAt : Option GivenTracks → ℕ → Track → Image → Type 0
IsGivenAt given index text contents = OnGiven (λ some. IsTextGiven some index text contents) given

-- the block of that track
abbrev pub is_given : Option GivenTracks → ℕ → ℕ → ℕ → Bool
is_given (Some given) index = is_at given.unit (track_at given index)
is_given None index = none

-- no block of the unit of given tracks is longer than a slot can be
abbrev pub IsShortGiven : Shape → Image → GivenTracks → Type 0
IsShortGiven shape contents given = AreShort (shape.blocks given.unit) (contents given.unit)
