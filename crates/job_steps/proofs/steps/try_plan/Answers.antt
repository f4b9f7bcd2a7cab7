use Rattle.unit_session.specs.Planned.{IsKeptAs, IsPlanFault}
use Rattle.job_steps.proofs.AfterUnits.{have_next}
use Rattle.job_steps.proofs.Runs.{plan_failed}
use Rattle.job_steps.proofs.steps.try_plan.Goals as goal

pub returns-in-Ok-clause-tried : goal.returns-in-Ok-clause-tried
returns-in-Ok-clause-tried g c =
    let does = c.in-Ok.ensures in
    (does.session, does.plan, have_next c.args.session.units c.args.session.vtocs c.args.plan.changes c.in-Ok.planned.rendered does.rendered)

pub returns-in-Err-Kept-default-Pool-clause-run : goal.returns-in-Err-Kept-default-Pool-clause-run
returns-in-Err-Kept-default-Pool-clause-run g c =
    let arm = c.in-Err-Kept-default-Pool in
    let refused : IsKeptAs g.P.Pool c.args.session (λ kept. IsPlanFault g.P.Pool c.args.session c.args.plan kept.pool) arm.field-0 = arm.ensures.refused in
    plan_failed g.P.Pool c.args.session arm.session c.args.plan arm.field-0 arm.field-0-1 c.into.result arm.field-0-is arm.field-0-1-is arm.ensures.run refused c.into.ensures
