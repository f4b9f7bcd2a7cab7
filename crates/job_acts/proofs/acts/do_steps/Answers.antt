use Rattle.std.proofs.Common.{◌≡◌, List, rules, sym, subst, arith}
use Rattle.std.proofs.lemmas.List.{nil_from_length}
use Rattle.std.proofs.lemmas.Result.{err_from_is_err_and}
use Rattle.move_core.specs.declared.steps.Step.{Step}
use Rattle.job_acts.proofs.InTurn.{LeadsSteps, leads_begin, plan_first, room_first, leads_more, leads_cut, leads_end}
use Rattle.job_acts.proofs.acts.do_steps.Goals as goal

pub loop-step-init : goal.loop-step-init
loop-step-init g c =
    let same : c.into_iter-step-iterator.result.rest.items ≡ c.args.list.items = search rules in
    subst (λ (left : List Step). LeadsSteps g.P.Pool c.args.list.items left c.args.session c.args.session c.args.steps.now.items c.args.steps.now.items) (sym same)
    (leads_begin g.P.Pool c.args.list.items c.args.session c.args.steps.now.items c.requires)

pub do_step-requires-clause-may : goal.do_step-requires-clause-may
do_step-requires-clause-may g c = plan_first g.P.Pool c.loop-step.invariant c.in-Some.ensures.steps.0

pub do_step-requires-clause-room : goal.do_step-requires-clause-room
do_step-requires-clause-room g c = room_first g.P.Pool c.loop-step.invariant c.in-Some.ensures.steps.0

pub returns-in_err-session : goal.returns-in_err-session
returns-in_err-session g c =
    let p = err_from_is_err_and c.from_residual.result c.from_residual.ensures.1 in
    rw (p.1, p.2)
    (leads_cut g.P.Pool c.loop-step.invariant c.in-Some.ensures.steps.0 c.in_err-session.ensures.ends)

pub loop-step-preserved : goal.loop-step-preserved
loop-step-preserved g c = leads_more g.P.Pool c.loop-step.invariant c.in-Some.ensures.steps.0 c.in_ok-session.ensures.sound c.in_ok-session.ensures.ends

pub returns : goal.returns
returns g c =
    let left = c.loop-step.step-iterator.rest in
    leads_end g.P.Pool c.loop-step.invariant (nil_from_length left.items (omega (arith, left.ok, c.in-None.ensures.steps.0)))
