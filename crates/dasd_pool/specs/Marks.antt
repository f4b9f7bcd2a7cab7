-- One mark for each block: whether it has been written since the last successful sync.
use Rattle.std.specs.Prelude.{ℕ, ◌/◌, ◌^◌, ◌-◌, List, [], map, min, length, replicate, Bool, false, slice_index_or, Vec, ◌==◌, if◌then◌else◌}
use Rattle.std.specs.declared.alloc.Global.{Global}
use Rattle.dasd_pool.specs.declared.units.UnitText.{UnitText}
use Rattle.dasd_pool.specs.Calls.{size_in}

abbrev pub lists_of : List (Vec Bool Global) → List (List Bool)
lists_of marks = map (λ v. v.items) marks

abbrev pub is_marked : List (List Bool) → ℕ → ℕ → Bool
is_marked marks u b = slice_index_or (slice_index_or marks u []) b false

-- a mark for each block of a unit, not set
abbrev pub unmarked : UnitText → List Bool
unmarked unit = replicate (min (length unit.blocks / size_in unit.head) (2 ^ 32 - 1)) false

-- a pool that keeps calls has no marks
abbrev pub first_marks : ℕ → List UnitText → List (List Bool)
first_marks keep units = if keep == 0 then map unmarked units else []
