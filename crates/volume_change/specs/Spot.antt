-- Where a name stands, or would stand, among rows in the order of their names, and the rows once one is put there.
use Rattle.std.specs.Prelude.{◌≡◌, ◌↔◌, ℕ, ◌+◌, ◌<◌, ◌≤◌, Bool, true, false, if◌then◌else◌, List, ◌++◌, length, map, take, drop, All, Option, Some, None, option_to_list, slice_index_or}
use Rattle.std.specs.List.Sorted.{IsSortedBy}
use Rattle.std.specs.Ordering.{is_lt, nat_cmp}
use Rattle.std.specs.Cmp.Lexicographic.{slice_cmp}
use Rattle.volume_model.specs.Directory.{name_before}
use Rattle.volume_model.specs.Pinned.{IsNameOf}
use Rattle.dsn_filter.specs.declared.dsn.Dsn.{Dsn}
use Rattle.vtoc_core.specs.declared.volume.Row.{Row}
use Rattle.vtoc_core.specs.Loaded.{row_in, HasItsName}
use Rattle.vtoc_layout.specs.Layout.{AreDistinct}
use Rattle.volume_change.specs.declared.spot.Spot.{Spot}

-- one name comes before another
abbrev pub comes_before : List ℕ → List ℕ → Bool
comes_before a b = is_lt (slice_cmp nat_cmp a b)

-- rows with the names of their format 1s, in the order of these
pub record AreNamed (rows : List Row) : Type 0 where
  pub order : IsSortedBy name_before (map row_in rows)
  pub names : All HasItsName rows

-- the place behind a spot
abbrev pub behind : Spot → ℕ
behind spot = if spot.goes then spot.place + 1 else spot.place

-- the row at a place has the name
abbrev pub HasNameAt : List Row → ℕ → List ℕ → Type 0
HasNameAt rows place name = (place < length rows) × ((d : Row) → (slice_index_or rows place d).name ≡ name)

-- A name's spot among rows: the names before it are lower, the row at it goes where it has the name, and the names behind it aren't
-- lower. Where no row goes, those behind it are higher.
pub record IsSpot (rows : List Row) (name : List ℕ) (spot : Spot) : Type 0 where
  pub within : spot.place ≤ length rows
  pub lower : All (λ row. comes_before row.name name ≡ true) (take spot.place rows)
  pub goes_is : (spot.goes ≡ true) ↔ HasNameAt rows spot.place name
  pub not_lower : All (λ row. comes_before row.name name ≡ false) (drop (behind spot) rows)
  pub higher : spot.goes ≡ false → All (λ row. comes_before name row.name ≡ true) (drop (behind spot) rows)

-- what is put at a spot has the spot's name
abbrev pub Suits : List Row → Spot → Option Row → Type 0
Suits rows spot None = Unit {0}
Suits rows spot (Some row) = HasItsName row × IsSpot rows row.name spot

-- the rows once the one that goes is away and another may stand in its place
abbrev pub rows_with : List Row → Spot → Option Row → List Row
rows_with rows spot put = take spot.place rows ++ (option_to_list put ++ drop (behind spot) rows)

-- ---- laws

-- of rows whose names differ, all behind a spot have higher names
abbrev pub HigherNamesAreBehind : Type 0
HigherNamesAreBehind = (rows : List Row) (name : List ℕ) (spot : Spot) → AreNamed rows → AreDistinct (map (λ row. row.name) rows) → IsSpot rows name spot
    → All (λ row. comes_before name row.name ≡ true) (drop (behind spot) rows)

-- a name is one array of bytes
abbrev pub NameIsOneText : Type 0
NameIsOneText = (name : Dsn) (a b : List ℕ) → IsNameOf name a → IsNameOf name b → a ≡ b
