use Rattle.std.proofs.Common.{inr, sym, ◌∙◌}
use Rattle.sysin_lang.specs.Script.{plan_of_script}
use Rattle.adr_top.proofs.jobs.run_jobs.Goals as goal

pub returns-in-Ok-names_of-clause-ends : goal.returns-in-Ok-names_of-clause-ends
returns-in-Ok-names_of-clause-ends g c =
    let ready = c.in-Ok.ensures.ready in (
      c.in-Ok.ensures.taken,
      inr (ready.0, c.in-Ok.ready.held, plan_of_script c.in-Ok.ready.script, ready.1, rw (sym (c.deref.ensures.value ∙ c.in-Ok-names_of.ensures)) c.open_and_run.ensures.ends),
    )
