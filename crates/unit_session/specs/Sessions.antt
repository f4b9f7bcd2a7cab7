-- What callers see of a session, and what its calls hand on.
use Rattle.std.specs.Prelude.{◌≡◌, ℕ, List, length, Bool, Option, Result, Ok, Err}
use Rattle.dasd_pool.specs.declared.pool.Pool.{Ghosts}
use Rattle.vol_label.specs.declared.serial.Serial.{Serial}
use Rattle.redo_core.specs.declared.control.Control.{Control}
use Rattle.redo_core.specs.declared.control.Control.TheVariants.{Idle}
use Rattle.redo_core.specs.declared.fault.JournalFault.{JournalFault}
use Rattle.redo_core.specs.declared.fault.JournalFault.TheVariants.{Pool, NoMemory}
use Rattle.redo_core.specs.declared.journal.JournalStop.{JournalStop}
use Rattle.redo_core.specs.Reading.{journal_of}
use Rattle.redo_core.specs.Stops.{JournalView}
use Rattle.unit_load.specs.declared.state.UnitState.{UnitState}
use Rattle.unit_steps.specs.Loaded.{AreLoaded, AreVtocsOf, HaveFills, HaveStates, KeepVtocs}
use Rattle.move_core.specs.declared.steps.Step.{Step}
use Rattle.unit_session.specs.declared.copies.Source.{Source}
use Rattle.unit_session.specs.declared.session.SessionParts.{SessionParts}
use Rattle.unit_session.specs.Texts.{AreSeen}

-- the pool, how many blocks a commit may have, the registered serials, the units as they were loaded, and the slots of their VTOCs
pub record SessionView (P : Type 0) : Type 0 where
  pub pool : P
  pub room : ℕ
  pub names : List Serial
  pub units : List UnitState
  pub vtocs : List (List ℕ)

-- a pool that failed, and the step that was under way
pub record BrokenView (P : Type 0) : Type 0 where
  pub pool : P
  pub pending : Option Step

-- no slide is open, and a fill just on each unit that was loaded so
pub record HasOnlyFills (control : Control) (fills : List Bool) (units : List UnitState) : Type 0 where
  pub idle : control ≡ Idle
  pub fit : HaveFills fills units

-- What stands of a session: its open journal, the registered serials, each unit as it was loaded, the slots of their VTOCs, and the data set whose texts
-- were seen, if one was.
abbrev pub IsSession : {P : Type 0} → Ghosts P → JournalView P → List Serial → List UnitState → List (List ℕ) → Option Source → Type 0
IsSession pools journal names units vtocs seen =
    HasOnlyFills journal.control journal.fills units
    × (length names ≡ journal_of (pools.shape journal.pool))
    × HaveStates (pools.shape journal.pool) units
    × KeepVtocs (pools.shape journal.pool) units vtocs
    × (pools.tells → AreLoaded (pools.shape journal.pool) (pools.disk journal.pool).state.contents units)
    × (pools.tells → AreVtocsOf (pools.disk journal.pool).state.contents units vtocs)
    × (pools.tells → AreSeen units (pools.disk journal.pool).state.contents seen)

-- a session has these parts
pub record AreParts {P : Type 0} (session : SessionView P) (parts : SessionParts P) : Type 0 where
  pub pool : session.pool ≡ parts.journal.pool
  pub room : session.room ≡ parts.journal.room
  pub names : session.names ≡ parts.names.items
  pub units : session.units ≡ parts.units.items
  pub vtocs : session.vtocs ≡ parts.vtocs.items

-- all but the pool's clock and count is the same
pub record IsSameSession {P : Type 0} (pools : Ghosts P) (old new : SessionView P) : Type 0 where
  pub shape : pools.shape new.pool ≡ pools.shape old.pool
  pub state : pools.tells → (pools.disk new.pool).state ≡ (pools.disk old.pool).state
  pub room : new.room ≡ old.room
  pub names : new.names ≡ old.names
  pub units : new.units ≡ old.units
  pub vtocs : new.vtocs ≡ old.vtocs

-- ---- the pool that a call hands on

abbrev pub begun : {P : Type 0} → Result (SessionView P) (JournalStop P) → P
begun (Ok session) = session.pool
begun (Err stop) = stop.pool

-- the pool didn't fail
abbrev pub HasBegun : {P V : Type 0} → Result V (JournalStop P) → Type 0
HasBegun (Ok value) = Unit {0}
HasBegun (Err stop) = stop.cause ≡ Pool → ⊥

-- something stands against the opening: neither did the pool fail, nor did memory run out
abbrev pub IsRefusal : JournalFault → Type 0
IsRefusal Pool = ⊥
IsRefusal NoMemory = ⊥
IsRefusal _ = Unit {0}
