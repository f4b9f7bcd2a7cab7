use Rattle.dasd_pool.specs.Disk.{none}
use Rattle.dasd_pool.specs.Memory.{disk_of, state_of, fails}
use Rattle.dasd_pool.proofs.Moments.{runs_from}
use Rattle.dasd_pool.proofs.Effects.{elapses_call, touches_sync}
use Rattle.dasd_pool.proofs.memory.MemoryPoolPool.sync.Goals as goal

pub returns-clause-runs : goal.returns-clause-runs
returns-clause-runs c =
    let old = c.args.self.now in
    let new = c.sync_blocks.new.self in
    let done = c.sync_blocks.ensures in
    runs_from none (disk_of old) (disk_of new) (touches_sync none (fails old) (state_of old) (state_of new) done.state) (elapses_call old new _ done.call.units done.call.keep done.kept)
