use Rattle.std.proofs.Common.{◌≡◌, ◌+◌, [], ◌∷◌, ◌++◌, replicate, ap, subst, ◌∙◌, arith}
use Rattle.std.proofs.lemmas.List.{replicate-append-replicate}
use Rattle.std.proofs.lemmas.Result.{err_from_is_err_and}
use Rattle.volume_model.specs.Unit.{good}
use Rattle.move_core.specs.Steps.{empty_text}
use Rattle.move_core.proofs.Running.{call_of, calls_then, run_idle}
use Rattle.job_steps.specs.Giving.{GivesMore, GivingView}
use Rattle.job_steps.proofs.Givings.{gives_none, gives_then}
use Rattle.job_steps.proofs.giving.Giving.fill.Goals as goal

pub loop-init : goal.loop-init
loop-init g c = record { run = call_of (run_idle tt); given = gives_none g.P.Pool c.args.self }

pub loop-preserved : goal.loop-preserved
loop-preserved g c =
    let inv = c.loop.invariant in
    let next = c.in_ok-giving.ensures in
    let more : replicate c.loop.counter empty_text ++ (good (record { flag = 0; r0 = replicate 8 0; recs = c.new.result }) ∷ []) ≡ replicate (c.loop.counter + 1) empty_text =
    ap (λ recs. replicate c.loop.counter empty_text ++ (good (record { flag = 0; r0 = replicate 8 0; recs = recs }) ∷ [])) c.new.ensures ∙ replicate-append-replicate c.loop.counter 1 empty_text in
    record {
      run = calls_then inv.run tt next.run;
      given = subst (GivesMore g.P.Pool c.args.self c.in_ok-giving.giving) more (gives_then g.P.Pool c.args.self c.loop.giving c.in_ok-giving.giving _ _ inv.given next.given);
    }

pub returns-in_err-giving-clause-run : goal.returns-in_err-giving-clause-run
returns-in_err-giving-clause-run g c =
    let p = err_from_is_err_and c.from_residual.result c.from_residual.ensures.1 in
    rw (p.1, p.2) (calls_then c.loop.invariant.run tt c.in_err-giving.ensures.run)

pub returns-clause-given : goal.returns-clause-given
returns-clause-given g c =
    subst (λ n. GivesMore g.P.Pool c.args.self c.loop.giving (replicate n empty_text)) (omega (arith, c.loop-test.false, c.loop.auto.counter-end, ap (λ (v : GivingView _). v.left) c.self.view_is)) c.loop.invariant.given
