-- Calls that only read.
use Rattle.std.specs.Prelude.{◌≡◌, ℕ, ◌≤◌, List, ◌++◌, length}
use Rattle.dasd_pool.specs.Count.{Rose}
use Rattle.dasd_pool.specs.Disk.{Runs, none}
use Rattle.dasd_pool.specs.declared.pool.Pool.{Ghosts}
use Rattle.redo_core.specs.Stops.{JournalView, IsStatusOf}
use Rattle.unit_load.specs.declared.stop.UnitFault.{UnitFault}
use Rattle.unit_load.specs.declared.stop.UnitFault.TheVariants as faults
use Rattle.unit_load.specs.declared.stop.Stop.{Stop}
use Rattle.unit_load.specs.declared.stop.Stop.TheVariants as stops

-- A journal before and after calls that only read: nothing is written, whenever a stop comes, and what is under way stays.
pub record OnlyReads {P : Type 0} (pools : Ghosts P) (old new : JournalView P) : Type 0 where
  pub shape : pools.shape new.pool ≡ pools.shape old.pool
  pub later : pools.faults old.pool ≤ pools.faults new.pool
  pub same : pools.tells → (pools.disk new.pool).state ≡ (pools.disk old.pool).state
  pub runs : pools.tells → Runs none (pools.disk old.pool) (pools.disk new.pool)
  pub status : IsStatusOf old new

-- a unit was not read: the pool failed, or memory ran out
abbrev pub IsUnitFault : ℕ → ℕ → UnitFault → Type 0
IsUnitFault before after faults.Pool = Rose before after
IsUnitFault before after faults.NoMemory = Unit {0}

abbrev pub IsReadStop : ℕ → ℕ → Stop → Type 0
IsReadStop before after (stops.Fault fault) = IsUnitFault before after fault
IsReadStop before after (stops.Offline why) = ⊥

-- one more slot stands behind others: that of the track that was taken before, or any of the right length
pub record AddsSlot (track : ℕ) (taken : ℕ) (taken_slot : List ℕ) (size : ℕ) (old new : List ℕ) : Type 0 where
  pub slot : List ℕ
  pub new_is : new ≡ old ++ slot
  pub long : length slot ≡ size
  pub as_taken : track ≡ taken → slot ≡ taken_slot
