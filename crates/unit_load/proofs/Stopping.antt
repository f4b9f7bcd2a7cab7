-- Stops by their faults.
use Rattle.std.proofs.Common.{◌≡◌, ℕ}
use Rattle.unit_load.specs.declared.stop.UnitFault.TheVariants as faults
use Rattle.unit_load.specs.declared.stop.Stop.{Stop}
use Rattle.unit_load.specs.declared.stop.Stop.TheVariants as stops
use Rattle.unit_load.specs.Reads.{IsUnitFault, IsReadStop}
use Rattle.unit_load.specs.Stops.{IsMemory, StopsBy}

-- want of memory is no fault of the pool
pub by_memory : (before after : ℕ) (stop : Stop) → StopsBy IsMemory stop → StopsBy (IsUnitFault before after) stop
by_memory before after (stops.Fault faults.NoMemory) memory = tt
by_memory before after (stops.Fault faults.Pool) memory = absurd (let e : faults.Pool ≡ faults.NoMemory = memory in cc)
by_memory before after (stops.Offline why) memory = tt

pub by_reading : (before after : ℕ) (stop : Stop) → IsReadStop before after stop → StopsBy (IsUnitFault before after) stop
by_reading before after (stops.Fault fault) stopped = stopped
by_reading before after (stops.Offline why) stopped = tt
