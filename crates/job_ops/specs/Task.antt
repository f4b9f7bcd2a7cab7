-- What a statement does with each data set that its filter takes: which data sets no such statement changes, and how grave it is that one isn't processed.
use Rattle.std.specs.Prelude.{◌⊎◌, ℕ}
use Rattle.volume_model.specs.Pinned.{IsPinned, IsSequentialOrPartitioned, organization_in}
use Rattle.volume_model.specs.Unit.{DataSet}
use Rattle.job_lines.specs.declared.message.Reason.{Reason}
use Rattle.job_lines.specs.declared.message.Reason.TheVariants as reasons
use Rattle.job_lines.specs.declared.severity.Severity.{Severity}
use Rattle.job_lines.specs.declared.severity.Severity.TheVariants as severities
use Rattle.job_ops.specs.declared.task.Task.{Task}
use Rattle.job_ops.specs.declared.task.Task.TheVariants as tasks

-- On a volume with so many heads: a pinned data set stays as it is; and a release changes only sequential and partitioned ones.
abbrev pub StaysFor : Task → ℕ → DataSet → Type 0
StaysFor tasks.Release heads set = IsPinned heads set.name set.fields set.extents ⊎ (¬ IsSequentialOrPartitioned (organization_in set.fields))
StaysFor tasks.Consolidate heads set = IsPinned heads set.name set.fields set.extents

-- where data sets are only brought together, one that is pinned or held is but warned of
abbrev pub severity_for : Task → Reason → Severity
severity_for tasks.Release reason = severities.Error
severity_for tasks.Consolidate reasons.Pinned = severities.Warning
severity_for tasks.Consolidate reasons.Held = severities.Warning
severity_for tasks.Consolidate reason = severities.Error
