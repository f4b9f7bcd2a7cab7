use Rattle.std.proofs.Common.{refl}
use Rattle.std.proofs.lemmas.Result.{err_from_is_err_and}
use Rattle.job_acts.proofs.Attempts.{ready_at, full_at}
use Rattle.job_acts.proofs.Loaded.{are_sound}
use Rattle.job_acts.proofs.InTurn.{step_before, step_in, step_done}
use Rattle.job_acts.proofs.OfUnits.{of_units}
use Rattle.job_acts.proofs.acts.do_step.Goals as goal

pub returns-in_err-planned-clause-ends : goal.returns-in_err-planned-clause-ends
returns-in_err-planned-clause-ends g c =
    let p = err_from_is_err_and c.from_residual.result c.from_residual.ensures.1 in
    rw (p.1, p.2)
    (step_before g.P.Pool c.args.session c.args.step c.args.steps.now.items c.args.steps.now.items c.in_err-planned.field-0.0 refl c.in_err-planned.ensures)

pub unreachable-requires : goal.unreachable-requires
unreachable-requires g c =
    let at = full_at g.P.Pool c.args.session c.args.step c.in-Full.field-0 c.in_ok-planned.field-0 c.in-Full.is c.in_ok-planned.ensures in
    c.requires.room at.lacks

pub carry_out-requires-clause-step : goal.carry_out-requires-clause-step
carry_out-requires-clause-step g c =
    (ready_at g.P.Pool c.args.session c.args.step c.in-Ready.planned c.in_ok-planned.field-0 c.in-Ready.is c.in_ok-planned.ensures).step_is

pub carry_out-requires-clause-units : goal.carry_out-requires-clause-units
carry_out-requires-clause-units g c = of_units c.args.session.room c.args.session.units c.args.step c.requires.may

pub returns-in_err-session-clause-ends : goal.returns-in_err-session-clause-ends
returns-in_err-session-clause-ends g c =
    let at = ready_at g.P.Pool c.args.session c.args.step c.in-Ready.planned c.in_ok-planned.field-0 c.in-Ready.is c.in_ok-planned.ensures in
    let p = err_from_is_err_and c.from_residual-in_err-session.result c.from_residual-in_err-session.ensures.1 in
    rw (p.1, p.2)
    (step_in g.P.Pool c.args.session c.args.step c.in-Ready.planned c.args.steps.now.items c.carry_out.new.steps.items c.in_err-session.field-0.0 at c.in_err-session.ensures.steps
    c.in_err-session.ensures.run c.in_err-session.ensures.cut)

pub returns-clause-ends : goal.returns-clause-ends
returns-clause-ends g c =
    let at = ready_at g.P.Pool c.args.session c.args.step c.in-Ready.planned c.in_ok-planned.field-0 c.in-Ready.is c.in_ok-planned.ensures in
    step_done g.P.Pool c.args.session c.args.step c.in-Ready.planned c.in_ok-session.session c.args.steps.now.items c.carry_out.new.steps.items at c.in_ok-session.ensures.steps
    c.in_ok-session.ensures.run c.in_ok-session.ensures.after
    (are_sound (g.P.Pool.shape c.in_ok-session.session.pool).head (g.P.Pool.shape c.in_ok-session.session.pool).blocks c.in_ok-session.session.units c.stands.ensures.kept)

pub returns-clause-sound : goal.returns-clause-sound
returns-clause-sound g c =
    are_sound (g.P.Pool.shape c.in_ok-session.session.pool).head (g.P.Pool.shape c.in_ok-session.session.pool).blocks c.in_ok-session.session.units c.stands.ensures.kept
