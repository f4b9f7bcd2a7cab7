use Rattle.dasd_pool.specs.Disk.{is_at}
use Rattle.dasd_pool.specs.Memory.{disk_of, state_of, is_full, fails}
use Rattle.dasd_pool.proofs.Moments.{runs_from}
use Rattle.dasd_pool.proofs.Effects.{elapses_call, touches_write}
use Rattle.dasd_pool.proofs.memory.MemoryPoolPool.write.Goals as goal

pub returns-clause-runs : goal.returns-clause-runs
returns-clause-runs c =
    let old = c.args.self.now in
    let new = c.write_block.new.self in
    let done = c.write_block.ensures in
    runs_from (is_at c.args.unit c.args.block) (disk_of old) (disk_of new) (touches_write c.args.unit c.args.block c.args.buf.now (is_full old) (fails old) (state_of old) (state_of new) done.state)
    (elapses_call old new done.kept.0 done.call.units done.call.keep done.kept.1)
