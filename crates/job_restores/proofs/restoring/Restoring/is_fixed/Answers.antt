use Rattle.ckd_image.specs.Device.{heads_of}
use Rattle.volume_model.specs.Pinned.{IsPinned}
use Rattle.volume_model.specs.Unit.{DataSet}
use Rattle.job_restores.specs.Case.{Case, Replaces}
use Rattle.job_restores.proofs.Replaced.{part_told}
use Rattle.job_restores.proofs.Tests.{either_first, either_second}
use Rattle.job_restores.proofs.restoring.Restoring.is_fixed.Goals as goal

abbrev Other : Case → Type 0
Other case = (other : DataSet) × Replaces case other × IsPinned (heads_of case.to.device) other.name other.fields other.extents

pub returns-then-is_part_pinned : goal.returns-then-is_part_pinned
returns-then-is_part_pinned c case are = either_first (Other case) (part_told are c.is_part_pinned.result c.is_part_pinned.ensures) c.if-is_part_pinned.true

pub returns-else-is_part_pinned : goal.returns-else-is_part_pinned
returns-else-is_part_pinned c case are =
    either_second (Other case) (part_told are c.is_part_pinned.result c.is_part_pinned.ensures) c.if-is_part_pinned.false
    c.is_replaced_pinned.result (c.is_replaced_pinned.ensures case are)
