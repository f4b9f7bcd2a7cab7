-- A journal as its callers see it, and the pool that a call hands on, however it ends.
use Rattle.std.specs.Prelude.{◌≡◌, ℕ, List, Bool, Result, Ok, Err}
use Rattle.redo_core.specs.declared.control.Control.{Control}
use Rattle.redo_core.specs.declared.journal.JournalStop.{JournalStop}

-- the pool, how many entries a commit may have, and what is under way: a slide, and of each volume whether a fill is
pub record JournalView (P : Type 0) : Type 0 where
  pub pool : P
  pub room : ℕ
  pub control : Control
  pub fills : List Bool

-- all but the pool is the same
pub record IsStatusOf {P : Type 0} (old new : JournalView P) : Type 0 where
  pub room : new.room ≡ old.room
  pub control : new.control ≡ old.control
  pub fills : new.fills ≡ old.fills

abbrev pub pool_after : {P : Type 0} → Result (JournalView P) (JournalStop P) → P
pool_after (Ok journal) = journal.pool
pool_after (Err stop) = stop.pool

-- the pool that a format hands on
abbrev pub pool_of : {P : Type 0} → Result P (JournalStop P) → P
pool_of (Ok pool) = pool
pool_of (Err stop) = stop.pool
