-- What is read of a VTOC: its sizes, and its format 4.
use Rattle.std.specs.Prelude.{◌≡◌, ℕ, ◌≤◌, Bool, List, length}
use Rattle.ckd_image.specs.declared.head.Head.{Head}
use Rattle.ckd_image.specs.declared.track.Cchhr.{Cchhr}
use Rattle.volume_model.specs.declared.place.Vtoc.{Vtoc}
use Rattle.volume_model.specs.Space.{end_of}
use Rattle.volume_model.specs.Sound.{Slots, IsVtoc}
use Rattle.vtoc_check.specs.Places.{AreShort}
use Rattle.vtoc_check.specs.Tracks.{HasTracks}

-- Heads, limit and alternate tracks are numbers of a format 4, the run is one of tracks below the limit, and each of its tracks
-- has at most 255 records.
pub record IsSized (vtoc : Vtoc) : Type 0 where
  pub some_heads : 1 ≤ vtoc.heads
  pub few_heads : vtoc.heads ≤ 255
  pub limit_fits : vtoc.limit ≤ 65535
  pub alternates_fit : vtoc.alternates ≤ 65535
  pub run_within : end_of vtoc.run ≤ vtoc.limit
  pub run_has : HasTracks vtoc.run
  pub whole : length vtoc.tracks ≡ vtoc.run.len
  pub short : AreShort vtoc.tracks

-- a VTOC stands there, and its format 4 has these bytes
pub record IsVtocWith (head : Head) (slots : Slots) (pointer : Cchhr) (sliding : Bool) (vtoc : Vtoc) (four : List ℕ) : Type 0 where
  pub stands : IsVtoc head slots pointer sliding vtoc
  pub four_is : four ≡ stands.bytes
