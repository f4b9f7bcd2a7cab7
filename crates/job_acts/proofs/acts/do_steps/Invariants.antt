use Rattle.job_acts.proofs.InTurn.{LeadsSteps}
use Rattle.job_acts.proofs.acts.do_steps.Given as goal

-- what is left of the steps leads to all
abbrev pub invariant-loop-step : goal.invariant-loop-step
invariant-loop-step g l = LeadsSteps g.P.Pool l.fn.list.items l.step-iterator.rest.items l.fn.session l.session l.fn.steps.items l.steps.items
