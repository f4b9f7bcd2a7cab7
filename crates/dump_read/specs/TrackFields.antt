-- The parts of a track behind its mark, each by itself, and why one isn't read.
use Rattle.std.specs.Prelude.{◌≡◌, ℕ, ◌+◌, ◌<◌, ◌≤◌, List, [], ◌∷◌, ◌++◌, length, take, sum_by, All}
use Rattle.byteorder.specs.Endian.{big_bytes}
use Rattle.ckd_image.specs.declared.track.Rec.{Rec}
use Rattle.ckd_image.specs.Bytes.{Begins}
use Rattle.ckd_image.specs.Track.{IsRecord}
use Rattle.dump_fmt.specs.Pieces.{dumped_record, dumped_records}
use Rattle.dump_read.specs.declared.record.RecordHead.{RecordHead}
use Rattle.dump_read.specs.declared.track.TrackField.{TrackField}
use Rattle.dump_read.specs.declared.track.TrackField.TheVariants as fields
use Rattle.dump_read.specs.declared.track.TrackStop.{TrackStop}
use Rattle.dump_read.specs.declared.track.TrackStop.TheVariants.{Wrong, Cut, NoMemory}
use Rattle.dump_read.specs.Fields.{IsFirstWrong, IsFieldFront}
use Rattle.dump_read.specs.TrackText.{length_of}

-- the bytes end before a text does that begins with them
abbrev pub IsCut : (List ℕ → Type 0) → List ℕ → Type 0
IsCut Is bytes = (text : List ℕ) × Is text × Begins bytes text × (length bytes < length text)

-- ---- a number of two bytes

-- the front of a number up to a limit
abbrev pub BeginsUpTo : ℕ → List ℕ → Type 0
BeginsUpTo limit = IsFieldFront (λ number. number ≤ limit) (big_bytes 2)

-- why it isn't read: it is too great as far as it is there, or cut and not too great
abbrev pub IsNumberStop : TrackField → ℕ → ℕ → List ℕ → TrackStop → Type 0
IsNumberStop field start limit bytes (Wrong found place) = (found ≡ field) × (place ≡ start) × ¬ BeginsUpTo limit (take 2 bytes)
IsNumberStop field start limit bytes Cut = (length bytes < 2) × BeginsUpTo limit bytes
IsNumberStop field start limit bytes NoMemory = ⊥

-- ---- a record

-- the bytes of its key and its body
abbrev pub size_of : Rec → ℕ
size_of rec = length rec.key + length rec.body

-- a record with no more bytes of key and body than there is room for
abbrev pub IsRecordText : ℕ → List ℕ → Type 0
IsRecordText room text = (rec : Rec) × IsRecord rec × (size_of rec ≤ room) × (text ≡ dumped_record rec)

-- the bytes begin with what stands before the key of such a record, and these are behind it
pub record IsRecordHead (room : ℕ) (bytes : List ℕ) (head : RecordHead) (rest : List ℕ) : Type 0 where
  pub numbered : 1 ≤ head.r
  pub number_fits : head.r ≤ 255
  pub key_fits : head.key ≤ 255
  pub within : head.key + head.body ≤ room
  pub spelled : bytes ≡ (head.r ∷ head.key ∷ []) ++ (big_bytes 2 head.body ++ rest)

-- the bytes begin with such a record, and these are behind it
pub record IsRecordRead (room : ℕ) (bytes : List ℕ) (rec : Rec) (rest : List ℕ) : Type 0 where
  pub sound : IsRecord rec
  pub within : size_of rec ≤ room
  pub spelled : bytes ≡ dumped_record rec ++ rest

-- so many bytes of a record are before a field
abbrev pub IsInRecord : TrackField → ℕ → Type 0
IsInRecord fields.Records within = ⊥
IsInRecord fields.Number within = within ≡ 0
IsInRecord fields.Key within = within ≡ 1
IsInRecord fields.Body within = within ≡ 2

-- why none is read: a field of it is the first that is wrong, or it is cut
abbrev pub IsRecordStop : (List ℕ → Type 0) → ℕ → List ℕ → TrackStop → Type 0
IsRecordStop Is start bytes (Wrong field place) = (within : ℕ) × IsInRecord field within × (place ≡ start + within) × IsFirstWrong Is bytes within (length_of field)
IsRecordStop Is start bytes Cut = IsCut Is bytes
IsRecordStop Is start bytes NoMemory = Unit {0}

-- ---- records

-- so many records that there is room for
pub record AreRecords (room count : ℕ) (recs : List Rec) : Type 0 where
  pub each : All IsRecord recs
  pub number : length recs ≡ count
  pub within : sum_by size_of recs ≤ room

abbrev pub AreRecordsText : ℕ → ℕ → List ℕ → Type 0
AreRecordsText room count text = (recs : List Rec) × AreRecords room count recs × (text ≡ dumped_records recs)

-- behind some of the records a field is the first that is wrong
pub record IsBadRecord (room count start : ℕ) (bytes : List ℕ) (field : TrackField) (place : ℕ) : Type 0 where
  pub recs : List Rec
  pub rest : List ℕ
  pub within : ℕ
  pub more : length recs < count
  pub spelled : bytes ≡ dumped_records recs ++ rest
  pub is_in : IsInRecord field within
  pub place_is : place ≡ start + (length (dumped_records recs) + within)
  pub wrong : IsFirstWrong (AreRecordsText room count) bytes (length (dumped_records recs) + within) (length_of field)

-- why they aren't read
abbrev pub AreRecordsStop : ℕ → ℕ → ℕ → List ℕ → TrackStop → Type 0
AreRecordsStop room count start bytes (Wrong field place) = IsBadRecord room count start bytes field place
AreRecordsStop room count start bytes Cut = IsCut (AreRecordsText room count) bytes
AreRecordsStop room count start bytes NoMemory = Unit {0}
