-- Rows of answers, one for each rest of a list: words of the matching.
use Rattle.std.specs.Prelude.{◌≡◌, ℕ, ◌+◌, ◌<◌, ◌≤◌, ◌↔◌, Bool, false, List, [], length, IsTrue, Option, Some, None}
use Rattle.std.specs.List.{slice_index_or}
use Rattle.std.specs.Borrow.{Bor}
use Rattle.dsn_filter.specs.Text.{qualifiers}

-- the qualifiers of a text, and none where there is no text
abbrev pub qualifiers_behind : Option (Bor (List ℕ)) → List (List ℕ)
qualifiers_behind None = []
qualifiers_behind (Some text) = qualifiers text.now

-- a row answers yes at a place
abbrev pub Says : List Bool → ℕ → Type 0
Says row place = IsTrue (slice_index_or row place false)

-- each place says yes where it or a later one did
abbrev pub IsSpread : List Bool → List Bool → Type 0
IsSpread old new = (place : ℕ) → place < length old → Says new place ↔ ((later : ℕ) × (place ≤ later) × (later < length old) × Says old later)

-- each place says yes where its thing fits and the next place did, and the last says no
pub record IsStepped (Fits : ℕ → Type 0) (old new : List Bool) : Type 0 where
  pub each : (place : ℕ) → place + 1 < length old → Says new place ↔ (Fits place × Says old (place + 1))
  pub last : (place : ℕ) → place + 1 ≡ length old → ¬ Says new place
