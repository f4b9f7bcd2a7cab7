use Rattle.std.proofs.Common.{◌≡◌, map, take}
use Rattle.step_plans.specs.Plans.{field_on}
use Rattle.step_plans.proofs.extents.extents_of_runs.Given as goal

-- those on the first runs
abbrev pub invariant-loop-run : goal.invariant-loop-run
invariant-loop-run l = l.extents.items ≡ map (field_on l.device l.kind) (take l.run-index l.runs)
