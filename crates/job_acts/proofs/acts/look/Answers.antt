use Rattle.std.proofs.lemmas.Result.{err_from_is_err_and}
use Rattle.job_acts.proofs.Attempts.{ready_at, full_at}
use Rattle.job_acts.proofs.Looking.{look_cut, look_ready, look_full}
use Rattle.job_acts.proofs.acts.look.Goals as goal

pub returns-in_err-planned : goal.returns-in_err-planned
returns-in_err-planned g c =
    let p = err_from_is_err_and c.from_residual.result c.from_residual.ensures.1 in
    rw (p.1, p.2)
    (look_cut g.P.Pool c.args.session c.args.step.now c.in_err-planned.field-0.0 c.in_err-planned.ensures)

pub returns-in-Ready : goal.returns-in-Ready
returns-in-Ready g c =
    look_ready g.P.Pool c.args.session c.args.step.now c.in-Ready.planned c.abandon.result
    (ready_at g.P.Pool c.args.session c.args.step.now c.in-Ready.planned c.in_ok-planned.field-0 c.in-Ready.is c.in_ok-planned.ensures) c.abandon.ensures

pub returns-in-Full : goal.returns-in-Full
returns-in-Full g c =
    look_full g.P.Pool c.args.session c.args.step.now c.in-Full.session
    (full_at g.P.Pool c.args.session c.args.step.now c.in-Full.session c.in_ok-planned.field-0 c.in-Full.is c.in_ok-planned.ensures)
