use Rattle.std.proofs.Common.{length}
use Rattle.dasd_pool.specs.Disk.{none}
use Rattle.dasd_pool.proofs.Moments.{runs_start}
use Rattle.redo_core.proofs.Transitions.{body_runs, body_from}
use Rattle.redo_core.proofs.commit.put_body.Goals as goal

pub returns-in_err-write-clause-runs : goal.returns-in_err-write-clause-runs
returns-in_err-write-clause-runs g c = λ told.
    let new = g.P.Pool.disk c.write.new.self in
    body_runs c.args.journal (length c.args.entries.now) _ (g.P.Pool.disk c.stage.new.pool) new new (c.stage.ensures.runs told) (c.write.ensures.runs told) (runs_start none new)

pub returns-in_err-sync-clause-runs : goal.returns-in_err-sync-clause-runs
returns-in_err-sync-clause-runs g c = λ told.
    body_runs c.args.journal (length c.args.entries.now) _ (g.P.Pool.disk c.stage.new.pool) (g.P.Pool.disk c.write.new.self) _ (c.stage.ensures.runs told) (c.write.ensures.runs told) (c.sync.ensures.runs told)

pub returns-clause-body : goal.returns-clause-body
returns-clause-body g c = λ told.
    body_from (g.P.Pool.shape c.args.pool.now).block_size c.args.journal (g.P.Pool.disk c.stage.new.pool).state (g.P.Pool.disk c.write.new.self).state (g.P.Pool.disk c.sync.new.self).state
    c.args.entries.now c.put_directory.new.buffer
    (c.in_ok-stage.ensures.images told) ((c.write.ensures.runs told).touches) ((c.sync.ensures.runs told).touches)
    (c.in_ok-write.ensures.written told) c.put_directory.ensures.reads

pub returns-clause-runs : goal.returns-clause-runs
returns-clause-runs g c = λ told.
    body_runs c.args.journal (length c.args.entries.now) _ (g.P.Pool.disk c.stage.new.pool) (g.P.Pool.disk c.write.new.self) _ (c.stage.ensures.runs told) (c.write.ensures.runs told) (c.sync.ensures.runs told)
