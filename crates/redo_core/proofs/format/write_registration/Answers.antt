use Rattle.std.proofs.Common.{refl}
use Rattle.dasd_pool.specs.Disk.{is_at, none}
use Rattle.dasd_pool.proofs.Moments.{runs_then}
use Rattle.redo_core.proofs.format.write_registration.Goals as goal

pub returns-in_err-sync-clause-runs : goal.returns-in_err-sync-clause-runs
returns-in_err-sync-clause-runs g c = λ told.
    runs_then (is_at c.args.journal 0) (is_at c.args.journal 0) none (g.P.Pool.disk c.args.pool.now) (g.P.Pool.disk c.write.new.self) (g.P.Pool.disk c.sync.new.self) (λ u b apart. apart) (λ u b apart. refl) (c.write.ensures.runs told) (c.sync.ensures.runs told)

pub returns-clause-runs : goal.returns-clause-runs
returns-clause-runs g c = λ told.
    runs_then (is_at c.args.journal 0) (is_at c.args.journal 0) none (g.P.Pool.disk c.args.pool.now) (g.P.Pool.disk c.write.new.self) (g.P.Pool.disk c.sync.new.self) (λ u b apart. apart) (λ u b apart. refl) (c.write.ensures.runs told) (c.sync.ensures.runs told)
