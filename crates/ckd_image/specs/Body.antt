-- Bytes that are written over those of a record.
use Rattle.std.specs.Prelude.{◌≡◌, ℕ, ◌+◌, ◌≤◌, List, ◌++◌, length, take, drop, slice_set, Some}
use Rattle.std.specs.List.{slice_get}
use Rattle.ckd_image.specs.declared.track.Rec.{Rec}
use Rattle.ckd_image.specs.declared.track.Track.{Track}

-- bytes with others over those from a place on
abbrev pub over : ℕ → List ℕ → List ℕ → List ℕ
over start piece bytes = take start bytes ++ (piece ++ drop (start + length piece) bytes)

-- the body of the record at a place of the list has other bytes from one on, and nothing else changes
pub record IsBodyPut (place start : ℕ) (piece : List ℕ) (old new : Track) : Type 0 where
  pub rec : Rec
  pub there : slice_get old.recs place ≡ Some rec
  pub within : start + length piece ≤ length rec.body
  pub recs : new.recs ≡ slice_set old.recs place (record { r = rec.r; key = rec.key; body = over start piece rec.body })
  pub flag : new.flag ≡ old.flag
  pub r0 : new.r0 ≡ old.r0
