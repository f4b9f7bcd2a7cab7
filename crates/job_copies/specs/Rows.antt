-- The row of the data set that a copy replaces, on the volume as it was loaded.
use Rattle.std.specs.Prelude.{◌≡◌, true}
use Rattle.vtoc_core.specs.declared.volume.Row.{Row}
use Rattle.step_room.specs.unit_steps.Plans.{HasRow}
use Rattle.job_copies.specs.declared.copying.Copying.{Copying}

-- the copy would stand in the place of its origin
abbrev pub IsOwnRow : Copying → Type 0
IsOwnRow copying = (copying.within ≡ true) × (copying.new ≡ copying.name)

-- the copy stands in the place of a row of its name, which the statement asks for, and which isn't its origin's
pub record ReplacesRow (copying : Copying) (row : Row) : Type 0 where
  pub asked : copying.wish.replace ≡ true
  pub another : ¬ IsOwnRow copying
  pub row_is : HasRow copying.target.now copying.new row

abbrev pub ReplacesNone : Copying → Type 0
ReplacesNone copying = (row : Row) → ¬ ReplacesRow copying row
