-- Bytes that come from the outside and go there, where it tells them.
use Rattle.std.specs.Prelude.{◌≡◌, ℕ, ◌≤◌, List, [], ◌++◌, length, take, Option, Some, None}

-- these bytes come next: what was left is they and what is left now
abbrev pub Takes : Option (List ℕ) → Option (List ℕ) → List ℕ → Type 0
Takes None new bytes = new ≡ None
Takes (Some old) new bytes = (left : List ℕ) × (new ≡ Some left) × (old ≡ bytes ++ left)

-- nothing was left
abbrev pub EndsOnly : Option (List ℕ) → Type 0
EndsOnly None = Unit {0}
EndsOnly (Some old) = old ≡ []

-- these bytes stand behind what was there
abbrev pub Appends : Option (List ℕ) → Option (List ℕ) → List ℕ → Type 0
Appends None new bytes = new ≡ None
Appends (Some old) new bytes = new ≡ Some (old ++ bytes)

-- a front of these bytes does
abbrev pub AppendsSome : Option (List ℕ) → Option (List ℕ) → List ℕ → Type 0
AppendsSome old new bytes = (count : ℕ) × (count ≤ length bytes) × Appends old new (take count bytes)
