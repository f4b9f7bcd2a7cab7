use Rattle.std.proofs.Common.{take}
use Rattle.job_acts.proofs.Looking.{SeenSoFar}
use Rattle.job_acts.proofs.acts.look_over.Given as goal

-- the steps so far fit
abbrev pub invariant-loop-step : goal.invariant-loop-step
invariant-loop-step g l = SeenSoFar g.P.Pool l.fn.session l.session (take l.step-index l.list)
