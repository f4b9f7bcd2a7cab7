use Rattle.std.proofs.Common.{◌≤◌, length, drop}
use Rattle.sysin_lang.specs.Script.{plans_of}
use Rattle.job_script.specs.Backward.{TellPlans}
use Rattle.job_script.proofs.built.are_built.Given as goal

abbrev pub invariant-steps : goal.invariant-steps
invariant-steps l = (l.place ≤ length l.steps) × TellPlans l.answers.items (plans_of (drop l.place l.steps))

abbrev pub decreases-steps : goal.decreases-steps
decreases-steps l = l.place
