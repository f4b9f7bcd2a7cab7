use Rattle.std.proofs.Common.{◌≡◌, ◌++◌, drop}
use Rattle.move_core.specs.Steps.{cut}
use Rattle.step_plans.specs.Plans.{AreRuns, extents_from}
use Rattle.step_plans.proofs.extents.cut_extents.Given as goal

-- what is kept so far, before the tracks that are left to keep of those behind
abbrev pub invariant-loop-extent : goal.invariant-loop-extent
invariant-loop-extent l = record {
  cut : extents_from l.device l.kept.items ++ cut l.left (extents_from l.device (drop l.extent-index l.extents)) ≡ cut l.keep (extents_from l.device l.extents);
  runs : AreRuns l.device l.kept.items;
}
