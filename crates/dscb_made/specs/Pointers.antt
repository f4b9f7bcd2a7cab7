-- The pointer of a DSCB.
use Rattle.std.specs.Prelude.{◌≡◌, ◌≢◌, ℕ, List, replicate, Option, Some, None}
use Rattle.ckd_image.specs.declared.track.Cchhr.{Cchhr}
use Rattle.ckd_image.specs.Address.{cchhr_text}
use Rattle.ckd_image.specs.Body.{over}
use Rattle.volume_model.specs.Dscbs.{pointer_in}

-- a record's number is from 1 on, so its place isn't zeros
abbrev pub IsPlaceOfRecord : Cchhr → Type 0
IsPlaceOfRecord place = place.r ≢ 0

-- the bytes of a pointer; zeros are none
abbrev pub pointer_text : Option Cchhr → List ℕ
pointer_text None = replicate 5 0
pointer_text (Some place) = cchhr_text place

-- a pointer is written, and read
pub record IsPointerPut (next : Option Cchhr) (old new : List ℕ) : Type 0 where
  pub made : new ≡ over 135 (pointer_text next) old
  pub reads : pointer_in new ≡ next
