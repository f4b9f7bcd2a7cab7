-- The fields of a DSCB that name tracks: extents, format-5 entries and the pointer.
use Rattle.std.specs.Prelude.{ℕ, ◌+◌, ◌-◌, ◌*◌, ◌≤◌, List, [], ◌∷◌, ◌++◌, nat_lt, if◌then◌else◌}
use Rattle.byteorder.specs.Endian.{big_bytes}
use Rattle.ckd_image.specs.Address.{address, IsAddress}
use Rattle.dscb_rec.specs.declared.field.Extent.{Extent}
use Rattle.dscb_rec.specs.declared.field.Entry5.{Entry5}

-- an extent: type, number, first and last track
abbrev pub extent_text : Extent → List ℕ
extent_text extent = extent.kind ∷ extent.number ∷ (address extent.first ++ address extent.last)

-- each number of an extent fits its bytes
pub record IsExtent (extent : Extent) : Type 0 where
  pub kind : extent.kind ≤ 255
  pub number : extent.number ≤ 255
  pub first : IsAddress extent.first
  pub last : IsAddress extent.last

-- an entry of a format 5: relative track, full cylinders and more tracks
abbrev pub entry_text : Entry5 → List ℕ
entry_text entry = big_bytes 2 entry.first ++ big_bytes 2 entry.cylinders ++ (entry.tracks ∷ [])

-- each number of an entry fits its bytes
pub record IsEntry5 (entry : Entry5) : Type 0 where
  pub first : entry.first ≤ 65535
  pub cylinders : entry.cylinders ≤ 65535
  pub tracks : entry.tracks ≤ 255

-- where an entry stands: eight from byte 4 on, and 18 from byte 45 on
abbrev pub entry_offset : ℕ → ℕ
entry_offset place = if nat_lt place 8 then 4 + 5 * place else 45 + 5 * (place - 8)
