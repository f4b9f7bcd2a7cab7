-- A track as it stands behind its mark in a dump, and what isn't one: the first field with which none goes on, or one that is cut.
use Rattle.std.specs.Prelude.{◌≡◌, ℕ, ◌<◌, ◌≤◌, List, [], ◌∷◌, ◌++◌, length, take}
use Rattle.byteorder.specs.Endian.{big_bytes}
use Rattle.ckd_image.specs.declared.device.Device.{Device}
use Rattle.ckd_image.specs.declared.track.Rec.{Rec}
use Rattle.ckd_image.specs.declared.track.Track.{Track as Text}
use Rattle.ckd_image.specs.Bytes.{Begins}
use Rattle.dump_fmt.specs.Parts.{StandsOn}
use Rattle.dump_fmt.specs.Pieces.{dumped_records, dumped_track}
use Rattle.dump_read.specs.declared.track.TrackField.{TrackField}
use Rattle.dump_read.specs.declared.track.TrackField.TheVariants as fields
use Rattle.dump_read.specs.declared.track.TrackStop.{TrackStop}
use Rattle.dump_read.specs.declared.track.TrackStop.TheVariants.{Wrong, Cut, NoMemory}
use Rattle.dump_read.specs.Fields.{IsFirstWrong}

-- these bytes are a track that can stand in a slot of the device
abbrev pub IsTrackBytes : Device → List ℕ → Type 0
IsTrackBytes device text = (track : Text) × StandsOn device track × (text ≡ dumped_track track)

-- how many bytes a field has
abbrev pub length_of : TrackField → ℕ
length_of fields.Records = 2
length_of fields.Number = 1
length_of fields.Key = 1
length_of fields.Body = 2

-- these bytes end where a record begins: flag, record 0, the number of records, and fewer records than that
pub record EndsAtRecord (front : List ℕ) : Type 0 where
  pub flag : ℕ
  pub r0 : List ℕ
  pub count : ℕ
  pub recs : List Rec
  pub zero : length r0 ≡ 8
  pub few : count ≤ 65535
  pub more : length recs < count
  pub spelled : front ≡ (flag ∷ []) ++ (r0 ++ (big_bytes 2 count ++ dumped_records recs))

-- the field is the one that begins where these bytes end: the number of records behind flag and record 0; or the number of a record, or the length of its key or
-- of its body
abbrev pub IsFieldBehind : TrackField → List ℕ → Type 0
IsFieldBehind fields.Records front = length front ≡ 9
IsFieldBehind fields.Number front = EndsAtRecord front
IsFieldBehind fields.Key front = (before : List ℕ) × (r : ℕ) × EndsAtRecord before × (front ≡ before ++ (r ∷ []))
IsFieldBehind fields.Body front = (before : List ℕ) × (r : ℕ) × (key : ℕ) × EndsAtRecord before × (front ≡ before ++ (r ∷ key ∷ []))

-- why no track is read: a first field is wrong at this place, or the bytes end before a track does that begins with them
abbrev pub IsTrackStop : Device → List ℕ → TrackStop → Type 0
IsTrackStop device bytes (Wrong field place) = IsFieldBehind field (take place bytes) × IsFirstWrong (IsTrackBytes device) bytes place (length_of field)
IsTrackStop device bytes Cut = (text : List ℕ) × IsTrackBytes device text × Begins bytes text × (length bytes < length text)
IsTrackStop device bytes NoMemory = Unit {0}

-- the bytes begin with this track, of so many bytes
pub record IsTrackRead (device : Device) (bytes : List ℕ) (track : Text) (count : ℕ) : Type 0 where
  pub stands : StandsOn device track
  pub begins : Begins (dumped_track track) bytes
  pub all : count ≡ length (dumped_track track)
