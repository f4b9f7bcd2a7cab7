-- The place of a record in a data set: its track, counted from the data set's first, and its number there.
use Rattle.std.specs.Prelude.{◌≡◌, ◌≢◌, ℕ, ◌<◌, List, [], ◌∷◌, ◌++◌, length, map, All}
use Rattle.byteorder.specs.Endian.{big_bytes}
use Rattle.ckd_image.specs.declared.track.Rec.{Rec}
use Rattle.ckd_image.specs.declared.track.Track.{Track}
use Rattle.org_reloc.specs.declared.block.Block.{Block}
use Rattle.org_reloc.specs.declared.place.Place.{Place}
use Rattle.org_reloc.specs.Content.{block_of, records_of}

-- the three bytes that stand for no record
abbrev pub nowhere : List ℕ
nowhere = 0 ∷ 0 ∷ 0 ∷ []

-- what two bytes and one can say
pub record IsPlace (place : Place) : Type 0 where
  pub track : place.track < 65536
  pub number : place.number < 256

-- track and number, as a directory and a format 1 have them
abbrev pub place_text : ℕ → ℕ → List ℕ
place_text track number = big_bytes 2 track ++ number ∷ []

-- the place names a record, and these are that record and all behind it; of several with one number on a track the first is named
pub record Names (tracks : List Track) (place : List ℕ) (recs : List Rec) : Type 0 where
  pub before : List Track
  pub track : Track
  pub after : List Track
  pub skipped : List Rec
  pub rec : Rec
  pub rest : List Rec
  pub tracks_are : tracks ≡ before ++ track ∷ after
  pub recs_are : track.recs ≡ skipped ++ rec ∷ rest
  pub first : All (λ other. other.r ≢ rec.r) skipped
  pub near : length before < 65536
  pub place_is : place ≡ place_text (length before) rec.r
  pub named : recs ≡ rec ∷ (rest ++ records_of after)

-- the place names these blocks, up to the last of the tracks
pub record NamesBlocks (tracks : List Track) (place : List ℕ) (blocks : List Block) : Type 0 where
  pub recs : List Rec
  pub names : Names tracks place recs
  pub blocks_are : map block_of recs ≡ blocks
