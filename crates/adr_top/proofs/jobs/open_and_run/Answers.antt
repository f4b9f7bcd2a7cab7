use Rattle.std.proofs.Common.{inr}
use Rattle.sysin_lang.specs.Script.{plan_of_script}
use Rattle.job_script.specs.Ends.{after_of}
use Rattle.adr_top.specs.Parts.{sink_seen}
use Rattle.adr_top.proofs.Opened.{opens_not, opens_run, runs_text}
use Rattle.adr_top.proofs.jobs.open_and_run.Goals as goal

pub returns-in-Ok-clause-ends : goal.returns-in-Ok-clause-ends
returns-in-Ok-clause-ends g c =
    let does = c.in-Ok.ensures in
    let session = c.in-Ok.session in
    let plan = plan_of_script c.args.ready.now.script in
    let held = c.args.ready.now.held in
    let out = sink_seen g.O.Sink c.args.out.now c.run_script.new.out in
    let left = after_of c.run_script.result in
    record {
      run = opens_run g.P.Pool c.args.pool session plan held c.args.today _ out left does.run (λ told facts units same settled. does.facts told facts units same settled)
          (λ told facts units same stands. does.stands told facts units same stands) c.run_script.ensures.ends;
      how = inr (runs_text g.P.Pool c.args.pool session plan held c.args.today _ out left does.run (λ told facts units same settled. does.facts told facts units same settled)
          (λ told facts units same stands. does.stands told facts units same stands) c.run_script.ensures.ends c.args.serials.now (λ told. does.allowed told) (λ told. does.runs told) (λ told. does.closed told));
    }

pub returns-in-Err-clause-ends : goal.returns-in-Err-clause-ends
returns-in-Err-clause-ends g c =
    let does = c.in-Err.ensures in
    let stop = c.in-Err.stop in
    opens_not g.P.Pool c.args.pool stop.pool stop.cause c.from.result _ (sink_seen g.O.Sink c.args.out.now c.refuse.new.out) c.args.serials.now c.args.ready.now.held c.args.today
    (plan_of_script c.args.ready.now.script) (after_of c.refuse.result) c.refuse.ensures.ends c.from.ensures does.run (λ told. does.refused told) (λ told refusal. does.unwritten told refusal)
    (λ told. does.careful told) (λ told. does.runs told)
