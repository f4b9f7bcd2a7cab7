-- What a stop leaves of a pool in memory over which words and a text were run.
use Rattle.std.specs.Prelude.{◌≡◌, ℕ, ◌<◌, ◌≤◌, List, length, take, Option}
use Rattle.dasd_pool.specs.declared.calls.Tear.{Tear}
use Rattle.dasd_pool.specs.Calls.{shape_of}
use Rattle.dasd_pool.specs.Memory.{MemoryView, state_of}
use Rattle.dasd_pool.specs.Tears.{torn_image}
use Rattle.volume_model.specs.Unit.{UnitModel}
use Rattle.move_core.specs.declared.steps.Step.{Step}
use Rattle.move_core.specs.Facts.{Facts}
use Rattle.move_core.specs.Runs.{moves_of, StandsAfterSome, StandsAfterMost}
use Rattle.move_core.specs.Stands.{IsSettled}

-- A run did these steps, this one is under way, and its pool had so many calls before. A stop after so many of its calls, at least those,
-- leaves what stands for the units after a prefix of the moves, however it tears; and after all steps where none of the calls is missing.
pub record StopStands (facts : Facts) (units : List UnitModel) (steps : List Step) (pending : Option Step) (before : ℕ) (pool : MemoryView) (calls : ℕ) (tear : Tear) : Type 0 where
  pub any_moment : before ≤ calls → StandsAfterSome facts units (moves_of steps pending) (torn_image tear pool.units (take calls pool.calls))
  pub returned : length pool.calls ≤ calls
      → StandsAfterMost facts units (moves_of steps pending) (length steps) (torn_image tear pool.units (take calls pool.calls))

-- so for each units for which a pool that keeps its calls was settled before
abbrev pub EachStopStands : MemoryView → List Step → Option Step → MemoryView → ℕ → Tear → Type 0
EachStopStands old steps pending pool calls tear =
    0 < old.keep → (facts : Facts) (units : List UnitModel) → facts.shape ≡ shape_of old.units → IsSettled facts (state_of old) units
    → StopStands facts units steps pending (length old.calls) pool calls tear
