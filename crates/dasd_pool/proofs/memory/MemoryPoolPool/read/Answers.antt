use Rattle.dasd_pool.specs.Disk.{none}
use Rattle.dasd_pool.specs.Memory.{disk_of}
use Rattle.dasd_pool.proofs.Moments.{runs_from}
use Rattle.dasd_pool.proofs.Effects.{elapses_call, touches_same}
use Rattle.dasd_pool.proofs.memory.MemoryPoolPool.read.Goals as goal

pub returns-clause-runs : goal.returns-clause-runs
returns-clause-runs c =
    let old = c.args.self.now in
    let new = c.read_block.new.self in
    let done = c.read_block.ensures in
    runs_from none (disk_of old) (disk_of new) (touches_same none _ _ done.same) (elapses_call old new _ done.call.units done.call.keep done.kept)
