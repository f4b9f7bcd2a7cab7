-- The parts of a dump, and the pieces that they are.
use Rattle.std.specs.Prelude.{◌≡◌, ◌⊎◌, ℕ, ◌≤◌, ◌==◌, Bool, if◌then◌else◌, List, [], ◌∷◌, ◌++◌, length, take, drop, replicate, map, All, slice_index}
use Rattle.std.specs.Ordering.{is_lt, nat_cmp}
use Rattle.std.specs.Cmp.Lexicographic.{slice_cmp}
use Rattle.ckd_image.specs.declared.device.Device.{Device}
use Rattle.ckd_image.specs.declared.track.TrackAt.{TrackAt}
use Rattle.ckd_image.specs.declared.track.Track.{Track as Text}
use Rattle.ckd_image.specs.Device.{slot_of}
use Rattle.ckd_image.specs.Track.{track_text, IsTrack}
use Rattle.dscb_rec.specs.Dscb.{format_byte}
use Rattle.dump_fmt.specs.declared.piece.Piece.{Piece}
use Rattle.dump_fmt.specs.declared.piece.Piece.TheVariants.{Part, Track, PartEnd, Dropped}

-- A data set of a logical dump: its format 1, how many tracks it has, the type of its extents, and the tracks that stand in the dump.
-- It is whole where all of them do.
pub record DumpPart : Type 0 where
  pub f1 : List ℕ
  pub tracks : ℕ
  pub kind : ℕ
  pub texts : List Text

abbrev pub is_whole : DumpPart → Bool
is_whole part = length part.texts == part.tracks

-- one name is before another in the order of their bytes
abbrev pub name_before : DumpPart → DumpPart → Bool
name_before a b = is_lt (slice_cmp nat_cmp (take 44 a.f1) (take 44 b.f1))

-- a track that can stand in a slot of the device, whatever its address
pub record StandsOn (device : Device) (track : Text) : Type 0 where
  pub sound : IsTrack track
  pub short : (at : TrackAt) → length (track_text at track) ≤ slot_of device

-- a format 1 without what holds of its old place alone: the number of its extents, the extents, and the pointer to more of them
pub record IsPlaceless (f1 : List ℕ) : Type 0 where
  pub long : length f1 ≡ 140
  pub format : format_byte f1 ≡ 0xF1
  pub no_count : slice_index f1 59 ≡ 0
  pub no_extents : drop 105 f1 ≡ replicate 35 0

-- a part, at its end or under way
pub record IsPart (device : Device) (part : DumpPart) : Type 0 where
  pub placeless : IsPlaceless part.f1
  pub few : part.tracks ≤ 65535
  pub kind : (part.kind ≡ 0x01) ⊎ (part.kind ≡ 0x81)
  pub texts : All (StandsOn device) part.texts
  pub within : length part.texts ≤ part.tracks

-- the pieces of a part under way
abbrev pub begun_pieces : DumpPart → List Piece
begun_pieces part = Part part.f1 part.tracks part.kind ∷ map Track part.texts

-- the pieces of a part that ended
abbrev pub part_pieces : DumpPart → List Piece
part_pieces part = begun_pieces part ++ ((if is_whole part then PartEnd else Dropped) ∷ [])
