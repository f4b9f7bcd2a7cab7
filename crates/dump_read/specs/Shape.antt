-- The shape of a dump: its grammar, in which any 32 bytes may stand as the digest, and in which it isn't asked what two slots of a full dump hold.
use Rattle.std.specs.Prelude.{◌≡◌, ◌⊎◌, ℕ, ◌+◌, ◌<◌, ◌≤◌, Bool, true, false, IsTrue, List, [], ◌++◌, length, take, All, None, IfSome}
use Rattle.ckd_image.specs.Bytes.{Begins}
use Rattle.dump_fmt.specs.declared.piece.DumpHead.{DumpHead}
use Rattle.dump_fmt.specs.declared.piece.Piece.{Piece}
use Rattle.dump_fmt.specs.Head.{IsDumpHead}
use Rattle.dump_fmt.specs.Parts.{DumpPart}
use Rattle.dump_fmt.specs.Pieces.{piece_text}
use Rattle.dump_fmt.specs.Front.{Front, all_parts, whole_tracks, largest_count, IsLogical, IsCutSlot, Adds}
use Rattle.dump_fmt.specs.Text.{front_text, counts_text, digested_text}
use Rattle.dump_read.specs.Fields.{GoesOn}

-- ---- what stands so far

-- slots from track 0 on
pub record AreSlots (head : DumpHead) (front : Front) : Type 0 where
  pub no_parts : front.parts ≡ []
  pub no_current : front.current ≡ None
  pub slots : All (IsCutSlot head.device) front.slots
  pub few : length front.slots ≤ head.tracks

abbrev pub IsOfShape : Bool → DumpHead → Front → Type 0
IsOfShape true head front = AreSlots head front
IsOfShape false head front = IsLogical head front

-- the name of a data set is made of bytes
abbrev pub HasByteName : DumpPart → Type 0
HasByteName part = All (λ b. b ≤ 255) (take 44 part.f1)

-- the front of the shape of a dump with this header
pub record IsShapeFront (head : DumpHead) (front : Front) : Type 0 where
  pub header : IsDumpHead head
  pub behind : IsOfShape head.full head front
  pub few_tracks : whole_tracks front ≤ largest_count
  pub names : All HasByteName (all_parts front)

-- the part under way can end: it lacks tracks and is dropped, or its tracks can be counted
abbrev pub MayEndPart : Front → DumpPart → Type 0
MayEndPart front part = (length part.texts < part.tracks) ⊎ (whole_tracks front + part.tracks ≤ largest_count)

-- it can be ended
pub record IsGoing (head : DumpHead) (front : Front) : Type 0 where
  pub is_front : IsShapeFront head front
  pub current : IfSome front.current (MayEndPart front)

-- ---- the whole

-- no part is under way, and a full dump has each track
pub record MayClose (head : DumpHead) (front : Front) : Type 0 where
  pub ended : front.current ≡ None
  pub all_slots : IsTrue head.full → length front.slots ≡ head.tracks

-- this text is the shape of a dump
pub record IsShape (head : DumpHead) (front : Front) (digest text : List ℕ) : Type 0 where
  pub is_front : IsShapeFront head front
  pub closes : MayClose head front
  pub long : length digest ≡ 32
  pub spelled : text ≡ digested_text head front ++ digest

abbrev pub IsSomeShape : List ℕ → Type 0
IsSomeShape text = (head : DumpHead) × (front : Front) × (digest : List ℕ) × IsShape head front digest text

-- ---- how a shape goes on

-- with a piece more
pub record GoesWithPiece (head : DumpHead) (front : Front) (rest : List ℕ) : Type 0 where
  pub piece : Piece
  pub next : Front
  pub adds : Adds front piece next
  pub going : IsGoing head next
  pub begins : Begins (piece_text piece) rest

-- or with counts and a digest
pub record GoesWithEnd (head : DumpHead) (front : Front) (rest : List ℕ) : Type 0 where
  pub closes : MayClose head front
  pub digest : List ℕ
  pub long : length digest ≡ 32
  pub rest_is : rest ≡ counts_text front ++ digest

-- ---- laws

-- what can be ended is the front of a shape
abbrev pub FrontsGoOn : Type 0
FrontsGoOn = (head : DumpHead) (front : Front) → IsGoing head front → GoesOn IsSomeShape (front_text head front)

-- a piece more of a shape stands behind what stood
abbrev pub PiecesStandBehind : Type 0
PiecesStandBehind = (head : DumpHead) (front next : Front) (piece : Piece) → IsShapeFront head next → Adds front piece next → front_text head next ≡ front_text head front ++ piece_text piece

-- a shape that begins with what stands goes on with a piece or ends
abbrev pub ShapesGoOn : Type 0
ShapesGoOn = (head : DumpHead) (front : Front) (text rest : List ℕ) → IsGoing head front → IsSomeShape text → text ≡ front_text head front ++ rest
    → GoesWithPiece head front rest ⊎ GoesWithEnd head front rest

-- no shape begins another one
abbrev pub NoShapeBeginsAnother : Type 0
NoShapeBeginsAnother = (a b : List ℕ) → IsSomeShape a → IsSomeShape b → Begins a b → a ≡ b
