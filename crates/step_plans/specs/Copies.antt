-- The row that is put for a copy.
use Rattle.std.specs.Prelude.{ℕ}
use Rattle.volume_model.specs.Pinned.{IsNameOf}
use Rattle.vtoc_core.specs.declared.volume.Row.{Row}
use Rattle.vtoc_core.specs.declared.volume.Volume.{Volume}
use Rattle.unit_steps.specs.vtoc_render.Next.{MayChange}
use Rattle.move_core.specs.Steps.{IsNewKind, extents_on, fields_at}
use Rattle.volume_model.specs.Reads.{fields_of_1}
use Rattle.unit_steps.specs.Plans.{HasRow, IsRowWith, extents_in, putting}
use Rattle.step_plans.specs.declared.copies.SetCopy.{SetCopy}

-- It has the fields of the data set that is copied but for name and serial, and its extents are of that one's type, on the runs of the copy. It may be
-- put on the target, beside the others or in the place of the one of its name.
pub record IsNewRow (source target : Volume) (copy : SetCopy) (row : Row) : Type 0 where
  pub old : Row
  pub old_is : HasRow source copy.from.name old
  pub named : IsNameOf copy.to.name row.name
  pub kind : ℕ
  pub kind_is : IsNewKind (extents_in source old) kind
  pub row_is : IsRowWith target row.name (fields_at row.name target.serial (fields_of_1 old.f1)) (extents_on kind copy.runs) row
  pub may : MayChange target (putting copy.replaced copy.to.name row)
