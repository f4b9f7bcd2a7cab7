-- The addresses of records, as they are changed one after the other.
use Rattle.std.specs.Prelude.{◌≡◌, ℕ, ◌+◌, List, ◌++◌, length, All}
use Rattle.ckd_image.specs.declared.track.TrackAt.{TrackAt}
use Rattle.ckd_image.specs.declared.track.Rec.{Rec}
use Rattle.ckd_image.specs.Track.{end_mark, records_text, IsRecord}

-- so many bytes, records with their addresses changed, records with the old address, and the end mark
pub record IsPartlyMoved (from to : TrackAt) (old new : List ℕ) (start place : ℕ) : Type 0 where
  pub front : List ℕ
  pub moved : List Rec
  pub left : List Rec
  pub rest : List ℕ
  pub same_len : length new ≡ length old
  pub start_is : length front ≡ start
  pub place_is : place ≡ start + length (records_text to moved)
  pub each_moved : All IsRecord moved
  pub each_left : All IsRecord left
  pub before : old ≡ front ++ (records_text from moved ++ (records_text from left ++ (end_mark ++ rest)))
  pub after : new ≡ front ++ (records_text to moved ++ (records_text from left ++ (end_mark ++ rest)))
