use Rattle.std.proofs.Common.{◌∷◌, ◌++◌, [], Ok, take, sym, ap, subst, ◌∙◌}
use Rattle.std.proofs.lemmas.List.{take_all, take_more}
use Rattle.std.proofs.lemmas.List.Elements.{Contains-get_or}
use Rattle.std.proofs.lemmas.Result.{err_from_is_err_and}
use Rattle.std.specs.Prelude.{Contains}
use Rattle.move_core.specs.declared.steps.Step.{Step}
use Rattle.job_acts.specs.Acting.{EndsLook}
use Rattle.job_acts.proofs.Looking.{SeenSoFar, seen_none, seen_more, seen_all, seen_full, seen_cut}
use Rattle.job_acts.proofs.acts.look_over.Goals as goal

pub loop-step-init : goal.loop-step-init
loop-step-init g c = seen_none g.P.Pool c.args.session

pub returns-in_err-session : goal.returns-in_err-session
returns-in_err-session g c =
    let p = err_from_is_err_and c.from_residual.result c.from_residual.ensures.1 in
    rw (p.1, p.2)
    (seen_cut g.P.Pool c.loop-step.invariant c.step-item.result c.args.list.now c.in_err-session.ensures)

pub returns-in-Full : goal.returns-in-Full
returns-in-Full g c =
    let step = c.step-item.result in
    seen_full g.P.Pool c.loop-step.invariant step c.args.list.now
    (subst (λ (s : Step). Contains c.args.list.now s) (sym c.step-item.is) (Contains-get_or c.args.list.now c.loop-step.step-index step c.loop-step-test.true))
    (subst (λ looked. EndsLook g.P.Pool c.loop-step.session (step ∷ []) (Ok looked)) c.in-Full.is c.in_ok-session.ensures)

pub loop-step-preserved : goal.loop-step-preserved
loop-step-preserved g c =
    let step = c.step-item.result in
    let front = take c.loop-step.step-index c.args.list.now in
    subst (SeenSoFar g.P.Pool c.args.session c.in-Fits.session)
    (sym (take_more c.args.list.now c.loop-step.step-index step c.loop-step-test.true ∙ ap (λ (s : Step). front ++ (s ∷ [])) (sym c.step-item.is)))
    (seen_more g.P.Pool c.loop-step.invariant step (subst (λ looked. EndsLook g.P.Pool c.loop-step.session (step ∷ []) (Ok looked)) c.in-Fits.is c.in_ok-session.ensures))

pub returns : goal.returns
returns g c = seen_all g.P.Pool c.loop-step.invariant c.args.list.now (sym (take_all c.loop-step.step-index c.args.list.now c.loop-step-test.false))
