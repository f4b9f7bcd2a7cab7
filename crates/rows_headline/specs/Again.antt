-- A pool in memory that a stop left, handed in again.
use Rattle.std.specs.Prelude.{◌≡◌, ◌≢◌, ℕ, ◌<◌, ◌≤◌, List, [], length, take, Option}
use Rattle.dasd_pool.specs.Disk.{Image, MayLeave}
use Rattle.dasd_pool.specs.Calls.{shape_of}
use Rattle.dasd_pool.specs.Memory.{MemoryView, disk_of, fresh, state_of}
use Rattle.dasd_pool.specs.declared.calls.Tear.{Tear}
use Rattle.dasd_pool.specs.Tears.{IsTornFrom}
use Rattle.redo_core.specs.Faults.{HasNoSlide, MayOpen}
use Rattle.volume_model.specs.Unit.{UnitModel}
use Rattle.move_core.specs.declared.steps.Step.{Step}
use Rattle.move_core.specs.Facts.{Facts, Shown}
use Rattle.move_core.specs.Steps.{Reaches}
use Rattle.move_core.specs.Runs.{EndsSettled, IsRun, StandsAfterMost, StandsAfterSome, moves_of}
use Rattle.move_core.specs.Stands.{IsSettled}
use Rattle.rows_headline.specs.declared.stopped.Ran.{Ran}

-- what a pool in memory shows
abbrev pub shown_of : MemoryView → Shown
shown_of pool = record { shape = shape_of pool.units; disk = disk_of pool; faults = pool.faults }

-- The pool has what the next run asks for: it keeps its calls, of which there are none yet, its shape is that of the facts, and it is
-- settled for the first units after so many of the first run's moves, and after all its steps where that had returned. Where no slide and no
-- fill was open in what the first run began on, nothing stands against the opening of its journal.
pub record IsReady (facts : Facts) (first : List UnitModel) (steps : List Step) (pending : Option Step) (returned : Type 0) (before : Image) (pool : MemoryView) : Type 0 where
  pub keeps : 0 < pool.keep
  pub uncalled : pool.calls ≡ []
  pub shape : facts.shape ≡ shape_of pool.units
  pub count : ℕ
  pub within : count ≤ length (moves_of steps pending)
  pub all : returned → length steps ≤ count
  pub units : List UnitModel
  pub reached : Reaches facts first (take count (moves_of steps pending)) units
  pub settled : IsSettled facts (state_of pool) units
  pub opens : HasNoSlide facts.shape before → MayOpen facts.shape (state_of pool).contents facts.names

-- so for each units for which a pool that keeps its calls was settled before a run, where it is stopped after one of the run's calls; the run
-- had returned where none of its calls is missing
abbrev pub EachStopIsReady : MemoryView → List Step → Option Step → MemoryView → ℕ → MemoryView → Type 0
EachStopIsReady old steps pending ran calls left =
    0 < old.keep → length old.calls ≤ calls → (facts : Facts) (units : List UnitModel) → facts.shape ≡ shape_of old.units → IsSettled facts (state_of old) units
    → IsReady facts units steps pending (length ran.calls ≤ calls) (state_of old).contents left

-- A run on what a stop left of another: there are units, to which a prefix of the first run's moves leads, with all its steps in it where that
-- had returned. Whatever moment the second is stopped at, what is left stands for them after a prefix of its own; once it has returned, after
-- all its steps. Where it ended, the pool is settled for them after all its steps.
pub record RunsOn (facts : Facts) (first : List UnitModel) (earlier : Ran) (returned : Type 0) (later : Ran) : Type 0 where
  pub count : ℕ
  pub within : count ≤ length (moves_of earlier.steps.items earlier.pending)
  pub all : returned → length earlier.steps.items ≤ count
  pub units : List UnitModel
  pub reached : Reaches facts first (take count (moves_of earlier.steps.items earlier.pending)) units
  pub any_moment : (image : Image) → (disk_of later.pool).left_since 0 image → StandsAfterSome facts units (moves_of later.steps.items later.pending) image
  pub behind : (image : Image) → MayLeave (disk_of later.pool).state image → StandsAfterMost facts units (moves_of later.steps.items later.pending) (length later.steps.items) image
  pub settled : later.status ≢ 16 → EndsSettled facts (disk_of later.pool) units later.steps.items later.pending

-- so for each units for which the pool was settled before the first
abbrev pub EachRunsOn : MemoryView → Ran → ℕ → Ran → Type 0
EachRunsOn old earlier calls later =
    0 < old.keep → length old.calls ≤ calls → (facts : Facts) (units : List UnitModel) → facts.shape ≡ shape_of old.units → IsSettled facts (state_of old) units
    → RunsOn facts units earlier (length earlier.pool.calls ≤ calls) later

-- a pool that has had no call, on the blocks that a stop of another leaves after so many of its calls
pub record IsLeftBy (tear : Tear) (calls : ℕ) (ran left : MemoryView) : Type 0 where
  pub torn : IsTornFrom tear ran.units (take calls ran.calls) left.units
  pub whole : left ≡ fresh left.units [] ran.keep

-- The second run began on what a stop of the first left, after so many of its calls, and is a run as any other, where no journal is made.
pub record BeginsOnStop (no_journal : Type 0) (tear : Tear) (calls : ℕ) (earlier later : Ran) : Type 0 where
  pub left : MemoryView
  pub is_left : IsLeftBy tear calls earlier.pool left
  pub run : no_journal → IsRun (Unit {0}) (shown_of left) (shown_of later.pool) (later.status ≢ 16) later.steps.items later.pending
