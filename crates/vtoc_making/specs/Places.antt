-- DSCBs at their places.
use Rattle.std.specs.Prelude.{◌≡◌, ◌≢◌, ℕ, zero, suc, ◌*◌, ◌≤◌, Bool, false, ◌&&◌, ◌||◌, not, List, [], ◌∷◌, take, drop, Option, Some, None}
use Rattle.ckd_image.specs.declared.track.Cchhr.{Cchhr}
use Rattle.dscb_rec.specs.declared.field.Extent.{Extent}
use Rattle.dscb_rec.specs.declared.field.Entry5.{Entry5}
use Rattle.volume_model.specs.declared.place.Place.{Place}
use Rattle.volume_model.specs.declared.place.Placed.{Placed}
use Rattle.volume_model.specs.Dscbs.{format_of, is_f1}
use Rattle.volume_model.specs.Directory.{same_place}
use Rattle.dscb_made.specs.Made.{IsFormat1With, IsFormat3With}
use Rattle.vtoc_plan.specs.Plan.{pointer_to}
use Rattle.vtoc_making.specs.declared.set.SetWritten.{SetWritten}

-- a place of a record, on a volume of at most 65,536 tracks
pub record IsPlace (place : Place) : Type 0 where
  pub track : place.track ≤ 65535
  pub number : place.record_number ≢ 0

-- the pointer to a place, if there is one
abbrev pub next_pointer : ℕ → Option Place → Option Cchhr
next_pointer heads None = None
next_pointer heads (Some place) = Some (pointer_to heads place)

-- ---- a data set

abbrev pub IsThreeWritten : List Extent → Option Place → Option Placed → Type 0
IsThreeWritten extents None None = Unit {0}
IsThreeWritten extents (Some place) (Some three) = (three.place ≡ place) × IsFormat3With extents three.bytes
IsThreeWritten extents _ _ = ⊥

-- A data set's format 1 at one place, which points to its format 3 at another, if it has one.
pub record IsSetWritten (heads : ℕ) (format_1 : List ℕ) (extents : List Extent) (one : Place) (three : Option Place) (written : SetWritten) : Type 0 where
  pub one_at : written.one.place ≡ one
  pub one_is : IsFormat1With format_1 extents (next_pointer heads three) written.one.bytes
  pub three_is : IsThreeWritten extents three written.three

-- ---- format 5s

-- the entries of a format 5 by its number
abbrev pub part_of : List Entry5 → ℕ → List Entry5
part_of entries number = take 26 (drop (26 * number) entries)

-- entries in so many parts of 26
abbrev pub parts_of : ℕ → List Entry5 → List (List Entry5)
parts_of zero entries = []
parts_of (suc count) entries = take 26 entries ∷ parts_of count (drop 26 entries)

-- ---- the highest format 1

abbrev pub is_place : Option Place → Place → Bool
is_place None place = false
is_place (Some one) place = same_place one place

-- a record is a format 1 after a change that takes one away and puts one
abbrev pub is_one_after : Option Place → Option Place → Placed → Bool
is_one_after gone put placed = is_place put placed.place || (is_f1 (format_of placed.bytes) && not (is_place gone placed.place))

-- the place of the last of these records, if there is one
abbrev pub last_of : List Placed → Option Place
last_of [] = None
last_of (placed ∷ []) = Some placed.place
last_of (placed ∷ next ∷ more) = last_of (next ∷ more)
