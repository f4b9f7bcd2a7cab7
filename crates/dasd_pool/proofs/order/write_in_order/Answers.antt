use Rattle.dasd_pool.proofs.Ordered.{in_order_both, in_order_since}
use Rattle.dasd_pool.proofs.order.write_in_order.Goals as goal

pub returns-in_err-write_and_sync-2-clause-any_moment : goal.returns-in_err-write_and_sync-2-clause-any_moment
returns-in_err-write_and_sync-2-clause-any_moment g c = λ told.
    let done = c.in_ok-write_and_sync.ensures in
    in_order_both c.args.unit c.args.first c.args.second c.args.first_bytes.now (g.P.Pool.disk c.args.pool.now) (g.P.Pool.disk c.write_and_sync.new.pool) (g.P.Pool.disk c.write_and_sync-2.new.pool)
    (done.runs told) (done.written told) (done.synced told) (c.write_and_sync-2.ensures.runs told)

pub returns-in_err-write_and_sync-2-clause-each_stop : goal.returns-in_err-write_and_sync-2-clause-each_stop
returns-in_err-write_and_sync-2-clause-each_stop g c = λ told.
    let done = c.in_ok-write_and_sync.ensures in
    in_order_since c.args.unit c.args.first c.args.second c.args.first_bytes.now (g.P.Pool.disk c.args.pool.now) (g.P.Pool.disk c.write_and_sync-2.new.pool)
    (in_order_both c.args.unit c.args.first c.args.second c.args.first_bytes.now (g.P.Pool.disk c.args.pool.now) (g.P.Pool.disk c.write_and_sync.new.pool) (g.P.Pool.disk c.write_and_sync-2.new.pool)
    (done.runs told) (done.written told) (done.synced told) (c.write_and_sync-2.ensures.runs told))

pub returns-clause-any_moment : goal.returns-clause-any_moment
returns-clause-any_moment g c = λ told.
    let done = c.in_ok-write_and_sync.ensures in
    in_order_both c.args.unit c.args.first c.args.second c.args.first_bytes.now (g.P.Pool.disk c.args.pool.now) (g.P.Pool.disk c.write_and_sync.new.pool) (g.P.Pool.disk c.write_and_sync-2.new.pool)
    (done.runs told) (done.written told) (done.synced told) (c.write_and_sync-2.ensures.runs told)

pub returns-clause-each_stop : goal.returns-clause-each_stop
returns-clause-each_stop g c = λ told.
    let done = c.in_ok-write_and_sync.ensures in
    in_order_since c.args.unit c.args.first c.args.second c.args.first_bytes.now (g.P.Pool.disk c.args.pool.now) (g.P.Pool.disk c.write_and_sync-2.new.pool)
    (in_order_both c.args.unit c.args.first c.args.second c.args.first_bytes.now (g.P.Pool.disk c.args.pool.now) (g.P.Pool.disk c.write_and_sync.new.pool) (g.P.Pool.disk c.write_and_sync-2.new.pool)
    (done.runs told) (done.written told) (done.synced told) (c.write_and_sync-2.ensures.runs told))
