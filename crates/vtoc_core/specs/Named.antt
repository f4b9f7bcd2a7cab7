-- The bytes of a name.
use Rattle.std.specs.Prelude.{◌≡◌, ℕ, ◌<◌, ◌≤◌, Some, slice_index}
use Rattle.dsn_filter.specs.declared.dsn.Dsn.{Dsn}
use Rattle.vol_label.specs.CodePage.{ascii_of}

-- a byte is the character of a name at a place, or a blank behind the name
pub record IsByteOf (name : Dsn) (place byte : ℕ) : Type 0 where
  pub character : place < name.len → ascii_of byte ≡ Some (slice_index name.text place)
  pub blank : name.len ≤ place → byte ≡ 0x40
