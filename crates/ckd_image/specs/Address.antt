-- The addresses of a track and of a record.
use Rattle.std.specs.Prelude.{ℕ, ◌≤◌, ◌/◌, ◌%◌, List, [], ◌∷◌, ◌++◌}
use Rattle.byteorder.specs.Endian.{big_bytes}
use Rattle.ckd_image.specs.declared.track.TrackAt.{TrackAt}
use Rattle.ckd_image.specs.declared.track.Cchhr.{Cchhr}

-- cylinder and head, as they stand in a slot
abbrev pub address : TrackAt → List ℕ
address at = big_bytes 2 at.cylinder ++ big_bytes 2 at.head

-- the address of a track by its number, on a device with so many heads
abbrev pub address_of : ℕ → ℕ → TrackAt
address_of heads track = record { cylinder = track / heads; head = track % heads }

-- an address whose numbers fit their bytes
abbrev pub IsAddress : TrackAt → Type 0
IsAddress at = (at.cylinder ≤ 65535) × (at.head ≤ 65535)

-- the address of a record: that of its track, and its number
abbrev pub cchhr_text : Cchhr → List ℕ
cchhr_text place = address place.at ++ (place.r ∷ [])

-- an address of a record whose numbers fit their bytes
abbrev pub IsCchhr : Cchhr → Type 0
IsCchhr place = IsAddress place.at × (place.r ≤ 255)
