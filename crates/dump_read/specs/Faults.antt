-- Why what a reel holds is no dump: the first field with which no shape of a dump goes on, or what else is wrong with it.
use Rattle.std.specs.Prelude.{◌≡◌, ◌≢◌, ◌⊎◌, ℕ, ◌+◌, ◌<◌, ◌≤◌, min, true, List, [], ◌∷◌, ◌++◌, length, take, drop, Option}
use Rattle.sha2.specs.Sha256.{sha256}
use Rattle.ckd_image.specs.Bytes.{Begins}
use Rattle.vol_label.specs.declared.label.Label.{Label}
use Rattle.dump_fmt.specs.declared.fault.DumpFault.{DumpFault}
use Rattle.dump_fmt.specs.declared.fault.DumpFault.TheVariants.{BadDump, Truncated, DigestDiffers, Reel, NoMemory}
use Rattle.dump_fmt.specs.declared.piece.DumpHead.{DumpHead}
use Rattle.dump_fmt.specs.declared.piece.Piece.{Piece}
use Rattle.dump_fmt.specs.declared.piece.Piece.TheVariants as pieces
use Rattle.dump_fmt.specs.Front.{Front, Adds, HasLabel, IsCutSlot, IsFront}
use Rattle.dump_fmt.specs.Pieces.{piece_text}
use Rattle.dump_fmt.specs.Text.{front_text, digested_text}
use Rattle.dump_read.specs.declared.field.DumpField.{DumpField}
use Rattle.dump_read.specs.declared.field.DumpField.TheVariants as fields
use Rattle.dump_read.specs.declared.header.HeaderField.{HeaderField}
use Rattle.dump_read.specs.declared.mark.Mark.TheVariants as marks
use Rattle.dump_read.specs.Feed.{largest_offset}
use Rattle.dump_read.specs.Fields.{IsFirstWrong}
use Rattle.dump_read.specs.Header as header
use Rattle.dump_read.specs.Labelled.{IsLabelSlot, IsFormat4Slot}
use Rattle.dump_read.specs.Marks.{byte_of}
use Rattle.dump_read.specs.PartText as parts
use Rattle.dump_read.specs.Reading.{HeldSuch}
use Rattle.dump_read.specs.Shape.{IsGoing, IsShape, IsSomeShape}
use Rattle.dump_read.specs.SlotText as slots
use Rattle.dump_read.specs.TrackText as tracks

-- the number of a refusal
abbrev pub why_of : DumpField → ℕ
why_of (fields.Header field) = header.why_of field
why_of fields.Mark = 5
why_of (fields.Part field) = parts.why_of field
why_of (fields.Track field) = 7
why_of (fields.Slot field) = slots.why_of field
why_of fields.Count = 10

-- ---- where a field is

-- in what stands behind the pieces so far, of which so many are slots: its place, and how many bytes it has; a track ends within 65,535 bytes
abbrev pub IsFieldAt : DumpField → ℕ → List ℕ → ℕ → ℕ → Type 0
IsFieldAt (fields.Header field) number rest place count = ⊥
IsFieldAt fields.Mark number rest place count = (place ≡ 0) × (count ≡ 1)
IsFieldAt (fields.Part field) number rest place count =
    Begins (byte_of marks.Part ∷ []) rest × parts.IsField field × (place ≡ 1 + parts.place_of field) × (count ≡ parts.length_of field)
IsFieldAt (fields.Track field) number rest place count =
    Begins (byte_of marks.Track ∷ []) rest
    × ((behind : ℕ) × (behind ≤ 65535) × (place ≡ 1 + behind) × tracks.IsFieldBehind field (take behind (drop 1 rest))) × (count ≡ tracks.length_of field)
IsFieldAt (fields.Slot field) number rest place count =
    Begins (byte_of marks.Slot ∷ []) rest × (place ≡ 1 + slots.place_of field) × slots.HasLength field number (drop 1 rest) count
IsFieldAt fields.Count number rest place count = Begins (byte_of marks.Trailer ∷ []) rest × ((place ≡ 1) ⊎ (place ≡ 5)) × (count ≡ 4)

-- ---- what is wrong

-- no shape begins with the bytes up to and with this field of the header, and one with those before it
pub record IsBadHead (offset why : ℕ) (whole : List ℕ) : Type 0 where
  pub field : HeaderField
  pub at : offset ≡ header.offset_of field
  pub number : why ≡ header.why_of field
  pub wrong : IsFirstWrong IsSomeShape whole offset (header.length_of field)

-- so of a field behind these pieces
pub record IsBadField (head : DumpHead) (front : Front) (offset why : ℕ) (whole : List ℕ) : Type 0 where
  pub field : DumpField
  pub rest : List ℕ
  pub place : ℕ
  pub count : ℕ
  pub spelled : whole ≡ front_text head front ++ rest
  pub is_at : IsFieldAt field (length front.slots) rest place count
  pub at : offset ≡ min (length (front_text head front) + place) largest_offset
  pub number : why ≡ why_of field
  pub wrong : IsFirstWrong IsSomeShape whole (length (front_text head front) + place) count

-- the slot of track 0 has no label as it has to be, or that of the track that the label names has no format 4 there
abbrev pub LacksRecord : DumpHead → List (List ℕ) → List ℕ → Type 0
LacksRecord head before bytes =
    ((before ≡ []) × ((label : Label) → ¬ IsLabelSlot head bytes label))
    ⊎ ((length before ≡ head.vtoc) × ((label : Label) × HasLabel head before label × ¬ IsFormat4Slot head label bytes))

-- such a slot stands behind these pieces
pub record IsBadSlot (head : DumpHead) (front : Front) (offset why : ℕ) (whole : List ℕ) : Type 0 where
  pub bytes : List ℕ
  pub rest : List ℕ
  pub full : head.full ≡ true
  pub cut : IsCutSlot head.device bytes
  pub spelled : whole ≡ front_text head front ++ (piece_text (pieces.Slot (length front.slots) bytes) ++ rest)
  pub lacks : LacksRecord head front.slots bytes
  pub at : offset ≡ min (length (front_text head front)) largest_offset
  pub number : why ≡ 9

-- bytes stand behind a shape of these pieces
pub record HasMore (head : DumpHead) (front : Front) (offset why : ℕ) (whole : List ℕ) : Type 0 where
  pub digest : List ℕ
  pub text : List ℕ
  pub more : List ℕ
  pub is_shape : IsShape head front digest text
  pub spelled : whole ≡ text ++ more
  pub some : more ≢ []
  pub at : offset ≡ min (length text) largest_offset
  pub number : why ≡ 11

-- so many bytes are less than a shape that begins with them
pub record IsShortDump (count : ℕ) (whole : List ℕ) : Type 0 where
  pub text : List ℕ
  pub is_shape : IsSomeShape text
  pub begins : Begins whole text
  pub short : length whole < length text
  pub all : count ≡ min (length whole) largest_offset

-- they end in a piece behind these, or right behind them, or in the trailer
pub record IsCutBehind (head : DumpHead) (front : Front) (count : ℕ) (whole : List ℕ) : Type 0 where
  pub short : IsShortDump count whole
  pub rest : List ℕ
  pub spelled : whole ≡ front_text head front ++ rest
  pub none : (piece : Piece) (next : Front) → Adds front piece next → IsGoing head next → ¬ Begins (piece_text piece) rest

-- it is a shape with this digest, and its bytes have that one
pub record HasOtherDigest (head : DumpHead) (front : Front) (kept found whole : List ℕ) : Type 0 where
  pub is_shape : IsShape head front kept whole
  pub right : found ≡ sha256 (digested_text head front)

-- ---- what refusals say of what a reel holds

-- before a header was read
abbrev pub IsHeadFault : Option (List ℕ) → DumpFault → Type 0
IsHeadFault held (BadDump offset why) = HeldSuch held (IsBadHead offset why)
IsHeadFault held (Truncated count) = HeldSuch held (λ whole. IsShortDump count whole × (length whole < 32))
IsHeadFault held (DigestDiffers kept found) = ⊥
IsHeadFault held Reel = Unit {0}
IsHeadFault held NoMemory = Unit {0}

-- behind these pieces
abbrev pub IsFaultBehind : DumpHead → Front → Option (List ℕ) → DumpFault → Type 0
IsFaultBehind head front held (BadDump offset why) =
    HeldSuch held (λ whole. IsBadField head front offset why whole ⊎ (IsBadSlot head front offset why whole ⊎ HasMore head front offset why whole))
IsFaultBehind head front held (Truncated count) = HeldSuch held (IsCutBehind head front count)
IsFaultBehind head front held (DigestDiffers kept found) = (kept ≢ found) × HeldSuch held (HasOtherDigest head front kept found)
IsFaultBehind head front held Reel = Unit {0}
IsFaultBehind head front held NoMemory = Unit {0}

-- in a whole dump that is looked at: in the header, or behind some pieces of it
abbrev pub IsDumpFault : Option (List ℕ) → DumpFault → Type 0
IsDumpFault held fault = IsHeadFault held fault ⊎ ((head : DumpHead) × (front : Front) × IsFront head front × IsFaultBehind head front held fault)
