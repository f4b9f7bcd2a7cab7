use Rattle.job_acts.proofs.Attempts.{attempt_of, attempt_short}
use Rattle.job_acts.proofs.acts.attempt.Goals as goal

pub returns-in-Ok : goal.returns-in-Ok
returns-in-Ok g c = attempt_of g.P.Pool c.args.session c.args.step.now c.in-Ok.plan c.try_plan.result c.in-Ok.ensures c.try_plan.ensures.run c.try_plan.ensures.tried c.try_plan.ensures.cut

pub returns-in-Err : goal.returns-in-Err
returns-in-Err g c = attempt_short g.P.Pool c.args.session c.args.step.now
