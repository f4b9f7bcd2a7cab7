-- Calls of a pool that only look.
use Rattle.std.specs.Prelude.{◌≡◌, ◌≤◌}
use Rattle.dasd_pool.specs.Disk.{Runs, none}
use Rattle.dasd_pool.specs.declared.pool.Pool.{Ghosts}

-- A pool before and after calls that only look: what it is and holds stays, nothing is written, and its count never falls.
pub record OnlyLooks {P : Type 0} (pools : Ghosts P) (old new : P) : Type 0 where
  pub shape : pools.shape new ≡ pools.shape old
  pub later : pools.faults old ≤ pools.faults new
  pub same : pools.tells → (pools.disk new).state ≡ (pools.disk old).state
  pub runs : pools.tells → Runs none (pools.disk old) (pools.disk new)
