use Rattle.std.proofs.Common.{refl, ap, ◌∙◌, arith}
use Rattle.sysin_lang.specs.Flow.{Plan}
use Rattle.sysin_lang.specs.Script.{left_of, codes_of}
use Rattle.job_outputs.proofs.Keeping.{keeps_same, keeps_then}
use Rattle.job_script.proofs.Plans.{most, gives_some, gives_none, shorter_then, built_then}
use Rattle.job_script.proofs.Fronts.{ran_none, ran_as, ran_more, ends_stopped, ends_whole}
use Rattle.job_script.proofs.run.run_script.Goals as goal

pub statements-init : goal.statements-init
statements-init g c = record {
  so_far = ran_none g.P.Pool c.args.session c.args.held.now c.args.today _ _ _ _ _ _ _ c.requires.built (c.new-flow.ensures.left c.args.script.now) c.new-flow.ensures.codes c.new.ensures.items;
  outs = keeps_same _ refl;
  ins = refl;
}

pub run_one-requires-clause-built : goal.run_one-requires-clause-built
run_one-requires-clause-built g c =
    (built_then (left_of c.args.script.now c.statements.flow) (codes_of c.statements.flow) c.statements.invariant.so_far.built
    (gives_some _ c.in-Some.statement _ _ c.in-Some.ensures)).0

pub returns-in-Err-clause-ends : goal.returns-in-Err-clause-ends
returns-in-Err-clause-ends g c =
    ends_stopped g.P.Pool _ _ c.args.held.now c.args.today c.statements.between c.statements.invariant.so_far (gives_some _ c.in-Some.statement _ _ c.in-Some.ensures) c.in-Err.left
    c.in-Err.ensures.ends

pub returns-in-Err-clause-outs : goal.returns-in-Err-clause-outs
returns-in-Err-clause-outs g c = keeps_then _ c.statements.invariant.outs c.in-Err.ensures.outs

pub returns-in-Err-clause-ins : goal.returns-in-Err-clause-ins
returns-in-Err-clause-ins g c = c.in-Err.ensures.ins ∙ c.statements.invariant.ins

pub statements-smaller : goal.statements-smaller
statements-smaller g c =
    let shorter = shorter_then (left_of c.args.script.now c.statements.flow) (codes_of c.statements.flow)
    (gives_some _ c.in-Some.statement (left_of c.args.script.now c.next.new.flow) (codes_of c.next.new.flow) c.in-Some.ensures) in
    omega (arith, ap (λ (p : Plan). most p) c.after.ensures.left, shorter)

pub statements-preserved : goal.statements-preserved
statements-preserved g c = record {
  so_far = ran_as c.after.ensures.left c.after.ensures.codes
      (ran_more g.P.Pool _ _ c.args.held.now c.args.today c.statements.between c.statements.invariant.so_far (gives_some _ c.in-Some.statement _ _ c.in-Some.ensures) c.in-Ok.ensures.ends);
  outs = keeps_then _ c.statements.invariant.outs c.in-Ok.ensures.outs;
  ins = c.in-Ok.ensures.ins ∙ c.statements.invariant.ins;
}

pub returns-clause-ends : goal.returns-clause-ends
returns-clause-ends g c =
    let told = c.stopped.ensures in
    ends_whole g.P.Pool _ _ c.args.held.now c.args.today c.statements.between c.statements.invariant.so_far (gives_none _ _ _ c.in_default.ensures) c.maxcc.result c.maxcc.ensures _ _
    c.close-end.result c.close-end.ensures.ended c.close-end.ensures.later c.stopped.result told.pool told.outs told.steps told.pending told.end

pub returns-clause-outs : goal.returns-clause-outs
returns-clause-outs g c = keeps_then _ c.statements.invariant.outs (keeps_same _ c.stopped.ensures.outs)

pub returns-clause-ins : goal.returns-clause-ins
returns-clause-ins g c = c.statements.invariant.ins
