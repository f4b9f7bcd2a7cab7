use Rattle.adr_top.proofs.runner.run.Goals as goal

pub returns-in-Jobs-clause-ends : goal.returns-in-Jobs-clause-ends
returns-in-Jobs-clause-ends g c = rw (c.in-Jobs.is) c.run_jobs.ensures.ends
