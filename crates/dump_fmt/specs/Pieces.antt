-- The texts of pieces.
use Rattle.std.specs.Prelude.{ℕ, ◌≤◌, List, [], ◌∷◌, ◌++◌, length}
use Rattle.std.specs.List.{flat_map}
use Rattle.byteorder.specs.Endian.{big_bytes}
use Rattle.ckd_image.specs.declared.track.Rec.{Rec}
use Rattle.ckd_image.specs.declared.track.Track.{Track as Text}
use Rattle.ckd_image.specs.Track.{IsTrack}
use Rattle.dump_fmt.specs.declared.piece.Piece.{Piece}
use Rattle.dump_fmt.specs.declared.piece.Piece.TheVariants.{Part, Track, PartEnd, Dropped, Slot}

-- a record without the address of its track: number, lengths of key and body, key, body
abbrev pub dumped_record : Rec → List ℕ
dumped_record rec = (rec.r ∷ length rec.key ∷ []) ++ (big_bytes 2 (length rec.body) ++ (rec.key ++ rec.body))

abbrev pub dumped_records : List Rec → List ℕ
dumped_records recs = flat_map dumped_record recs

-- a track without its address: flag, record 0, the number of the other records, and these
abbrev pub dumped_track : Text → List ℕ
dumped_track track = (track.flag ∷ []) ++ (track.r0 ++ (big_bytes 2 (length track.recs) ++ dumped_records track.recs))

-- each piece begins with a byte that tells what it is
abbrev pub piece_text : Piece → List ℕ
piece_text (Part f1 tracks kind) = (0x50 ∷ []) ++ (f1 ++ (big_bytes 4 tracks ++ (kind ∷ [])))
piece_text (Track track) = (0x01 ∷ []) ++ dumped_track track
piece_text PartEnd = 0x00 ∷ []
piece_text Dropped = 0xFF ∷ []
piece_text (Slot track bytes) = (0x54 ∷ []) ++ (big_bytes 4 track ++ (big_bytes 4 (length bytes) ++ bytes))

abbrev pub pieces_text : List Piece → List ℕ
pieces_text pieces = flat_map piece_text pieces

-- the trailer before its digest: the number of whole parts, and that of the tracks in them
abbrev pub counted_text : ℕ → ℕ → List ℕ
counted_text parts tracks = (0x5A ∷ []) ++ (big_bytes 4 parts ++ big_bytes 4 tracks)

-- the numbers of a piece fit their bytes
abbrev pub FitsFields : Piece → Type 0
FitsFields (Track track) = IsTrack track × (length track.recs ≤ 65535)
FitsFields (Slot track bytes) = length bytes ≤ 65535
FitsFields _ = Unit {0}
