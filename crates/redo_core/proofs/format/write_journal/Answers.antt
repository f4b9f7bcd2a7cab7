use Rattle.redo_core.proofs.Making.{made_runs}
use Rattle.redo_core.proofs.format.write_journal.Goals as goal

pub returns-in_err-write_registration-clause-runs : goal.returns-in_err-write_registration-clause-runs
returns-in_err-write_registration-clause-runs g c = λ told.
    made_runs c.args.journal (g.P.Pool.disk c.args.pool.now) (g.P.Pool.disk c.clear_registration.new.pool) (g.P.Pool.disk c.clear_status.new.pool) (g.P.Pool.disk c.write_registration.new.pool)
    (c.clear_registration.ensures.runs told) (c.clear_status.ensures.runs told) (c.write_registration.ensures.runs told)

pub returns-clause-runs : goal.returns-clause-runs
returns-clause-runs g c = λ told.
    made_runs c.args.journal (g.P.Pool.disk c.args.pool.now) (g.P.Pool.disk c.clear_registration.new.pool) (g.P.Pool.disk c.clear_status.new.pool) (g.P.Pool.disk c.write_registration.new.pool)
    (c.clear_registration.ensures.runs told) (c.clear_status.ensures.runs told) (c.write_registration.ensures.runs told)
