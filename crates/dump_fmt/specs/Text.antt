-- The text of a dump: header, pieces and trailer.
use Rattle.std.specs.Prelude.{◌≡◌, ℕ, List, ◌++◌}
use Rattle.sha2.specs.Sha256.{sha256}
use Rattle.dump_fmt.specs.declared.piece.DumpHead.{DumpHead}
use Rattle.dump_fmt.specs.declared.piece.Piece.{Piece}
use Rattle.dump_fmt.specs.Head.{header_text}
use Rattle.dump_fmt.specs.Pieces.{piece_text, pieces_text, counted_text}
use Rattle.dump_fmt.specs.Front.{Front, Adds, IsFront, front_pieces, whole_parts, whole_tracks, IsDump}

-- what stands so far
abbrev pub front_text : DumpHead → Front → List ℕ
front_text head front = header_text head ++ pieces_text (front_pieces front)

-- the bytes that a piece more adds behind what stands so far
abbrev pub added_text : DumpHead → Front → Piece → List ℕ
added_text head front piece = piece_text piece

-- what stands so far grows by what a piece adds
abbrev pub TextGrows : Type 0
TextGrows = (head : DumpHead) (front : Front) (piece : Piece) (next : Front) → Adds front piece next → IsFront head next → front_text head next ≡ front_text head front ++ added_text head front piece

abbrev pub counts_text : Front → List ℕ
counts_text front = counted_text (whole_parts front) (whole_tracks front)

-- all that the digest is of
abbrev pub digested_text : DumpHead → Front → List ℕ
digested_text head front = front_text head front ++ counts_text front

abbrev pub dump_text : DumpHead → Front → List ℕ
dump_text head front = digested_text head front ++ sha256 (digested_text head front)

-- these bytes are a dump
pub record IsDumpText (text : List ℕ) (head : DumpHead) (front : Front) : Type 0 where
  pub sound : IsDump head front
  pub spelled : text ≡ dump_text head front
