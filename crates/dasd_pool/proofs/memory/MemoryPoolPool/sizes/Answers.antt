use Rattle.std.proofs.Common.{◌≡◌, ◌<◌, length, subst}
use Rattle.dasd_pool.specs.Calls.{size_of, shape_of}
use Rattle.dasd_pool.specs.Memory.{MemoryView, state_of}
use Rattle.dasd_pool.proofs.Whole.{block_long}
use Rattle.dasd_pool.proofs.memory.MemoryPoolPool.sizes.Goals as goal

pub returns-clause-whole : goal.returns-clause-whole
returns-clause-whole c = λ told u b below less.
    subst (λ (m : MemoryView). b < (shape_of m.units).blocks u → length ((state_of m).contents u b) ≡ size_of m.units u) c.self.view_is
    (block_long _ _ c.self.invariant u b) less
