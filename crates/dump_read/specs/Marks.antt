-- The byte with which a piece or the trailer begins, and where it may stand.
use Rattle.std.specs.Prelude.{◌≡◌, ◌⊎◌, ℕ, [], ◌∷◌}
use Rattle.ckd_image.specs.Bytes.{Begins}
use Rattle.dump_fmt.specs.declared.piece.DumpHead.{DumpHead}
use Rattle.dump_fmt.specs.declared.piece.Piece.{Piece}
use Rattle.dump_fmt.specs.Pieces.{piece_text}
use Rattle.dump_fmt.specs.Front.{Front, Adds}
use Rattle.dump_read.specs.declared.mark.Mark.{Mark}
use Rattle.dump_read.specs.declared.mark.Mark.TheVariants as marks
use Rattle.dump_read.specs.Shape.{IsGoing, MayClose}

abbrev pub byte_of : Mark → ℕ
byte_of marks.Part = 0x50
byte_of marks.Track = 0x01
byte_of marks.PartEnd = 0x00
byte_of marks.Dropped = 0xFF
byte_of marks.Slot = 0x54
byte_of marks.Trailer = 0x5A

-- a piece begins with this byte
abbrev pub IsMarkOf : Piece → ℕ → Type 0
IsMarkOf piece byte = Begins (byte ∷ []) (piece_text piece)

-- behind what stands a piece may stand that begins with this byte
pub record MayBegin (head : DumpHead) (front : Front) (byte : ℕ) : Type 0 where
  pub piece : Piece
  pub next : Front
  pub adds : Adds front piece next
  pub going : IsGoing head next
  pub mark : IsMarkOf piece byte

-- or the trailer, which begins with it
abbrev pub MayStand : DumpHead → Front → ℕ → Type 0
MayStand head front byte = MayBegin head front byte ⊎ ((byte ≡ byte_of marks.Trailer) × MayClose head front)
