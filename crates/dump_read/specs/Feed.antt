-- A reel that is read through a window.
use Rattle.std.specs.Prelude.{ℕ, ◌-◌, ◌^◌, List, ◌++◌, Option, Some, None}

-- what comes next: what stands in the window, and then what is left on the reel
abbrev pub coming : List ℕ → Option (List ℕ) → Option (List ℕ)
coming window None = None
coming window (Some left) = Some (window ++ left)

-- the largest offset that can be told
abbrev pub largest_offset : ℕ
largest_offset = 2 ^ 64 - 1
