use Rattle.std.proofs.Common.{◌≡◌, ◌-◌, length, drop}
use Rattle.sysin_lang.specs.Flow.{next_of}
use Rattle.sysin_lang.specs.Script.{plan_of, codes_of}
use Rattle.sysin_lang.proofs.script.next_step.Given as goal

abbrev pub invariant-steps : goal.invariant-steps
invariant-steps l =
    next_of (plan_of (drop l.flow.place l.fn.steps)) (codes_of l.flow) ≡ next_of (plan_of (drop l.fn.flow.place l.fn.steps)) (codes_of l.fn.flow)

abbrev pub decreases-steps : goal.decreases-steps
decreases-steps l = length l.fn.steps - l.flow.place
