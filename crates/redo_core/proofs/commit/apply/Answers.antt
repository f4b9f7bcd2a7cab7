use Rattle.redo_core.proofs.Readings.{all_placed_at, moments_read, reads_since, committed_at, rest_at, runs_at}
use Rattle.redo_core.proofs.commit.apply.Goals as goal

pub apply_all-requires-clause-entries : goal.apply_all-requires-clause-entries
apply_all-requires-clause-entries g c = all_placed_at (g.P.Pool.shape c.args.pool.now) c.args.journal c.requires.journal.last c.args.entries.now c.requires.each c.requires.apart

pub returns-in_err-apply_all-clause-any_moment : goal.returns-in_err-apply_all-clause-any_moment
returns-in_err-apply_all-clause-any_moment g c = λ told.
    moments_read (g.P.Pool.shape c.args.pool.now) c.args.journal c.requires.journal.last c.args.entries.now c.requires.each c.requires.apart
    (g.P.Pool.disk c.args.pool.now) (g.P.Pool.disk c.apply_all.new.pool) (c.requires.shut told) (c.requires.few told) (c.apply_all.ensures.any_moment told)

pub returns-in_err-apply_all-clause-each_image : goal.returns-in_err-apply_all-clause-each_image
returns-in_err-apply_all-clause-each_image g c = λ told.
    reads_since (g.P.Pool.shape c.args.pool.now) c.args.journal c.requires.journal.last c.args.entries.now c.requires.each c.requires.apart
    (g.P.Pool.disk c.args.pool.now) (g.P.Pool.disk c.apply_all.new.pool) (c.requires.shut told) (c.requires.few told) (c.apply_all.ensures.any_moment told)

pub returns-clause-any_moment : goal.returns-clause-any_moment
returns-clause-any_moment g c = λ told.
    moments_read (g.P.Pool.shape c.args.pool.now) c.args.journal c.requires.journal.last c.args.entries.now c.requires.each c.requires.apart
    (g.P.Pool.disk c.args.pool.now) (g.P.Pool.disk c.apply_all.new.pool) (c.requires.shut told) (c.requires.few told) (c.apply_all.ensures.any_moment told)

pub returns-clause-each_image : goal.returns-clause-each_image
returns-clause-each_image g c = λ told.
    reads_since (g.P.Pool.shape c.args.pool.now) c.args.journal c.requires.journal.last c.args.entries.now c.requires.each c.requires.apart
    (g.P.Pool.disk c.args.pool.now) (g.P.Pool.disk c.apply_all.new.pool) (c.requires.shut told) (c.requires.few told) (c.apply_all.ensures.any_moment told)

pub returns-clause-at_rest : goal.returns-clause-at_rest
returns-clause-at_rest g c = λ told.
    rest_at (g.P.Pool.shape c.args.pool.now) c.args.journal c.requires.journal.last c.args.entries.now c.requires.each c.requires.apart
    (g.P.Pool.disk c.args.pool.now).state (g.P.Pool.disk c.apply_all.new.pool).state (c.requires.shut told) (c.requires.few told) (c.in_ok-apply_all.ensures.done told)

pub returns-clause-committed : goal.returns-clause-committed
returns-clause-committed g c = λ told.
    committed_at (g.P.Pool.shape c.args.pool.now) c.args.journal c.requires.journal.last c.args.entries.now c.requires.each c.requires.apart
    (g.P.Pool.disk c.args.pool.now).state (g.P.Pool.disk c.apply_all.new.pool).state (c.requires.shut told) (c.requires.few told) (c.in_ok-apply_all.ensures.done told)

pub returns-in_err-apply_all-clause-runs : goal.returns-in_err-apply_all-clause-runs
returns-in_err-apply_all-clause-runs g c = λ told.
    runs_at (g.P.Pool.shape c.args.pool.now) c.args.journal c.requires.journal.last c.args.entries.now c.requires.each c.requires.apart
    (g.P.Pool.disk c.args.pool.now) (g.P.Pool.disk c.apply_all.new.pool) (c.apply_all.ensures.runs told)

pub returns-clause-runs : goal.returns-clause-runs
returns-clause-runs g c = λ told.
    runs_at (g.P.Pool.shape c.args.pool.now) c.args.journal c.requires.journal.last c.args.entries.now c.requires.each c.requires.apart
    (g.P.Pool.disk c.args.pool.now) (g.P.Pool.disk c.apply_all.new.pool) (c.apply_all.ensures.runs told)
