use Rattle.std.proofs.Common.{All, List, Ok, take, refl, sym, ap, subst}
use Rattle.std.proofs.lemmas.Result.{err_from_is_err_and}
use Rattle.unit_load.specs.declared.state.UnitState.{UnitState}
use Rattle.job_acts.specs.declared.acts.Looked.TheVariants as looks
use Rattle.job_acts.specs.Making.{MayPlan}
use Rattle.job_acts.specs.Acting.{MayDo, AllFit, EndsLook, looked_at}
use Rattle.job_acts.proofs.Whole.{acts_unseen, acts_full, acts_done, acts_cut}
use Rattle.job_acts.proofs.acts.Acts.carry_out.Goals as goal

pub returns-in_err-session : goal.returns-in_err-session
returns-in_err-session g c =
    let acts = c.args.self in
    let p = err_from_is_err_and c.from_residual.result c.from_residual.ensures.1 in
    rw (p.1, p.2)
    (acts_unseen g.P.Pool c.args.session acts.steps.items (looked_at acts) (take acts.looked c.deref.result.now) (ap (take acts.looked) c.deref.ensures.value) c.args.steps.now.items c.args.steps.now.items c.in_err-session.field-0.0 refl c.in_err-session.ensures)

pub returns-in_err-do_steps : goal.returns-in_err-do_steps
returns-in_err-do_steps g c =
    let acts = c.args.self in
    let p = err_from_is_err_and c.from_residual-in_err-do_steps.result c.from_residual-in_err-do_steps.ensures.1 in
    rw (p.1, p.2)
    (acts_cut g.P.Pool c.args.session acts.steps.items (looked_at acts) (take acts.looked c.deref.result.now) (ap (take acts.looked) c.deref.ensures.value) c.in-Fits.session acts.steps.items refl
    (subst (λ looked. EndsLook g.P.Pool c.args.session (take acts.looked c.deref.result.now) (Ok looked)) c.in-Fits.is c.in_ok-session.ensures) c.in_err-do_steps.ensures)

pub returns-in-Full : goal.returns-in-Full
returns-in-Full g c =
    let acts = c.args.self in
    acts_full g.P.Pool c.args.session acts.steps.items (looked_at acts) (take acts.looked c.deref.result.now) (ap (take acts.looked) c.deref.ensures.value) c.in-Full.session c.args.steps.now.items c.args.steps.now.items refl
    (subst (λ looked. EndsLook g.P.Pool c.args.session (take acts.looked c.deref.result.now) (Ok looked)) c.in-Full.is c.in_ok-session.ensures)

pub do_steps-requires : goal.do_steps-requires
do_steps-requires g c =
    let acts = c.args.self in
    let look : EndsLook g.P.Pool c.args.session (take acts.looked c.deref.result.now) (Ok (looks.Fits c.in-Fits.session)) =
    subst (λ looked. EndsLook g.P.Pool c.args.session (take acts.looked c.deref.result.now) (Ok looked)) c.in-Fits.is c.in_ok-session.ensures in
    subst (λ room. MayDo room c.in-Fits.session.units acts.steps.items) (sym look.answers.0.room)
    (subst (λ (units : List UnitState). MayDo c.args.session.room units acts.steps.items) (sym look.answers.0.units) (c.requires.may (subst (AllFit c.args.session.units) (ap (take acts.looked) c.deref.ensures.value) look.answers.1)))

pub returns : goal.returns
returns g c =
    let acts = c.args.self in
    acts_done g.P.Pool c.args.session acts.steps.items (looked_at acts) (take acts.looked c.deref.result.now) (ap (take acts.looked) c.deref.ensures.value) c.in-Fits.session acts.steps.items refl
    (subst (λ looked. EndsLook g.P.Pool c.args.session (take acts.looked c.deref.result.now) (Ok looked)) c.in-Fits.is c.in_ok-session.ensures) c.in_ok-do_steps.ensures

pub look_over-requires : goal.look_over-requires
look_over-requires g c = subst (All (MayPlan c.args.session.room c.args.session.units)) (ap (take c.args.self.looked) (sym c.deref.ensures.value)) c.requires.looks
