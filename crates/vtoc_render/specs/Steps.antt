-- The steps of a change of a VTOC.
use Rattle.std.specs.Prelude.{◌≡◌, ℕ, Bool, true, false, if◌then◌else◌, List, [], ◌∷◌, length, All, Option, Some, None, is_some, filter, slice_get}
use Rattle.ckd_image.specs.Device.{heads_of}
use Rattle.dscb_rec.specs.declared.field.Extent.{Extent}
use Rattle.volume_model.specs.declared.place.Place.{Place}
use Rattle.volume_model.specs.declared.place.Placed.{Placed}
use Rattle.volume_model.specs.Pinned.{IsNameOf}
use Rattle.volume_model.specs.Space.{is_run}
use Rattle.vtoc_core.specs.declared.volume.Row.{Row}
use Rattle.vtoc_core.specs.declared.volume.Volume.{Volume}
use Rattle.vtoc_core.specs.Loaded.{field_of}
use Rattle.volume_model.specs.Changed.{needs_three}
use Rattle.volume_model.specs.Unit.{fives_for}
use Rattle.vtoc_allot.specs.Allotted.{listed}
use Rattle.vtoc_allot.specs.declared.held.Wanted.{Wanted}
use Rattle.vtoc_allot.specs.declared.places.Allotment.{Allotment}
use Rattle.dscb_made.specs.Made.{IsStatedFormat4}
use Rattle.vtoc_making.specs.Places.{IsSetWritten, next_pointer, last_of, is_one_after}
use Rattle.vtoc_render.specs.Next.{IsRowPut}
use Rattle.vtoc_making.specs.declared.set.SetWritten.{SetWritten}
use Rattle.volume_change.specs.declared.change.Change.{Change}
use Rattle.volume_change.specs.declared.change.Change.TheVariants.{Repair, Put, Swap, Remove, Mark}
use Rattle.volume_change.specs.declared.spot.Spot.{Spot}
use Rattle.volume_change.specs.Spot.{IsSpot}

-- ---- the data set that a change is of

-- the name of the data set that a change is of, if it is of one, and the row that is put, if one is
abbrev pub IsAimOf : Change → Option (List ℕ) → Option Row → Type 0
IsAimOf Repair name put = (name ≡ None) × (put ≡ None)
IsAimOf (Put row) name put = (name ≡ Some row.name) × (put ≡ Some row)
IsAimOf (Swap old row) name put = (name ≡ Some row.name) × (put ≡ Some row)
IsAimOf (Remove old) name put = ((bytes : List ℕ) × (name ≡ Some bytes) × IsNameOf old bytes) × (put ≡ None)
IsAimOf Mark name put = ⊥

-- the place of a name among rows; without a name nothing goes
abbrev pub IsSpotFor : List Row → Option (List ℕ) → Spot → Type 0
IsSpotFor rows None spot = (spot.place ≡ 0) × (spot.goes ≡ false)
IsSpotFor rows (Some name) spot = IsSpot rows name spot

-- the row that goes from a spot, if one does
abbrev pub gone_from : List Row → Spot → Option Row
gone_from rows spot = if spot.goes then slice_get rows spot.place else None

-- these extents are runs below the usable tracks
abbrev pub AreBelow : Volume → List Extent → Type 0
AreBelow volume extents = All (λ extent. is_run (heads_of volume.device) volume.usable (field_of extent) ≡ true) extents

-- a data set that is put needs a format 3
abbrev pub has_three : Option Row → Bool
has_three None = false
has_three (Some row) = needs_three (length row.extents)

-- ---- what is written

-- the records of a data set that is put, if one is
abbrev pub records_put : Option SetWritten → List Placed
records_put None = []
records_put (Some set) = set.one ∷ listed set.three

-- what a change wants with so many free runs afterwards
abbrev pub wanted_for : Option Row → ℕ → Wanted
wanted_for put runs = record { one = is_some put; three = has_three put; fives = fives_for runs }

-- the data set's row and its records where they are allotted
abbrev pub IsSetFor : ℕ → Option Row → Allotment → Option SetWritten → Type 0
IsSetFor heads None allotment set = set ≡ None
IsSetFor heads (Some row) allotment set =
    (one : Place) × (written : SetWritten) × (allotment.one ≡ Some one) × (set ≡ Some written) × IsSetWritten heads row.f1 row.extents one allotment.three written

-- the row that is put has its records' bytes
abbrev pub IsRowFor : Option Row → Option SetWritten → Option Row → Type 0
IsRowFor None set written = written ≡ None
IsRowFor (Some row) set written = (set_is : SetWritten) × (put : Row) × (set ≡ Some set_is) × (written ≡ Some put) × IsRowPut row put × (put.f1 ≡ set_is.one.bytes)

-- the format 4 once it is stated anew
abbrev pub IsFourFor : ℕ → List Placed → Placed → Option Place → Option Place → ℕ → Placed → Type 0
IsFourFor heads records old gone put free four =
    (four.place ≡ old.place) × IsStatedFormat4 old.bytes (next_pointer heads (last_of (filter (is_one_after gone put) records))) free four.bytes
