use Rattle.std.proofs.Common.{sym, subst}
use Rattle.std.proofs.lemmas.Result.{err_from_is_err_and}
use Rattle.unit_session.specs.unit_steps.declared.plan.Plan.{Plan}
use Rattle.unit_session.specs.unit_steps.Plans.{IsOfUnits}
use Rattle.job_steps.proofs.Runs.{failed_run, made_run, made_after}
use Rattle.job_steps.proofs.steps.make.Goals as goal

pub returns-in_err-copy-clause-run : goal.returns-in_err-copy-clause-run
returns-in_err-copy-clause-run g c =
    let copied = c.in_err-copy.ensures in
    let p = err_from_is_err_and c.from_residual.result c.from_residual.ensures.1 in
    rw (p.1, p.2) (failed_run g.P.Pool c.args.planned.plan.step c.args.planned.session.pool c.in_err-copy.field-0.0 copied.run copied.pending)

pub returns-clause-run : goal.returns-clause-run
returns-clause-run g c =
    let copied = c.in_ok-copy.ensures in
    let does = c.switch.ensures in
    let of : IsOfUnits c.in_ok-copy.field-0.plan.step = subst (λ (p : Plan). IsOfUnits p.step) (sym copied.plan) c.requires in
    made_run g.P.Pool c.args.planned c.in_ok-copy.field-0 copied.plan copied.run c.switch.result (does.run of) does.pending

pub returns-clause-after : goal.returns-clause-after
returns-clause-after g c =
    let copied = c.in_ok-copy.ensures in
    let does = c.switch.ensures in
    let of : IsOfUnits c.in_ok-copy.field-0.plan.step = subst (λ (p : Plan). IsOfUnits p.step) (sym copied.plan) c.requires in
    made_after g.P.Pool c.args.planned c.in_ok-copy.field-0 copied.plan copied.run c.switch.result (does.run of) (copied.session.0, copied.session.1, copied.session.2) does.plan does.rendered does.units does.session
