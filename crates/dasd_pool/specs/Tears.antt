-- How a crash tears a block that is not synced.
use Rattle.std.specs.Prelude.{◌≡◌, ℕ, ◌/◌, ◌<◌, List, [], ◌∷◌, ◌++◌, length, map, take, drop, replicate, Bool, true, false, if◌then◌else◌}
use Rattle.dasd_pool.specs.declared.calls.Call.{Call}
use Rattle.dasd_pool.specs.declared.calls.Call.TheVariants.{Read, Write, Sync}
use Rattle.dasd_pool.specs.declared.units.UnitText.{UnitText}
use Rattle.dasd_pool.specs.declared.calls.Tear.{Tear}
use Rattle.dasd_pool.specs.declared.calls.Tear.TheVariants.{Old, New, Zero, Half}
use Rattle.dasd_pool.specs.Disk.{Image, is_at}
use Rattle.dasd_pool.specs.Calls.{first_state, shape_of, size_of, texts_of, image_of}

-- one block: as the last successful sync left it, as it is, as the last write wanted it, and whether it is synced
pub record Trace : Type 0 where
  pub base : List ℕ
  pub held : List ℕ
  pub last : List ℕ
  pub synced : Bool

abbrev pub trace_step : ℕ → ℕ → Trace → Call → Trace
trace_step u b trace (Read unit block failed) = trace
trace_step u b trace (Write unit block bytes failed) =
    if is_at unit block u b then record { base = trace.base; held = if failed then trace.held else bytes.items; last = bytes.items; synced = false } else trace
trace_step u b trace (Sync failed) = if failed then trace else record { base = trace.held; held = trace.held; last = trace.last; synced = true }

abbrev pub trace_after : ℕ → ℕ → Trace → List Call → Trace
trace_after u b trace [] = trace
trace_after u b trace (call ∷ calls) = trace_after u b (trace_step u b trace call) calls

abbrev pub trace_first : List ℕ → Trace
trace_first bytes = record { base = bytes; held = bytes; last = bytes; synced = true }

-- what is left of a block
abbrev pub torn : Tear → Trace → List ℕ
torn Old trace = if trace.synced then trace.held else trace.base
torn New trace = if trace.synced then trace.held else trace.last
torn Zero trace = if trace.synced then trace.held else replicate (length trace.base) 0
torn Half trace = if trace.synced then trace.held else take (length trace.base / 2) trace.last ++ drop (length trace.base / 2) trace.base

-- the image that a stop after these calls leaves, each block torn so
abbrev pub torn_image : Tear → List UnitText → List Call → Image
torn_image tear units calls u b = torn tear (trace_after u b (trace_first ((first_state units).contents u b)) calls)

-- a write to this unit has so many bytes
abbrev pub IsSized : ℕ → ℕ → Call → Type 0
IsSized unit size (Read u block failed) = Unit {0}
IsSized unit size (Write u block bytes failed) = u ≡ unit → length bytes.items ≡ size
IsSized unit size (Sync failed) = Unit {0}

-- The units hold the image that a stop after these calls leaves, each block torn so.
pub record IsTornFrom (tear : Tear) (units : List UnitText) (calls : List Call) (new : List UnitText) : Type 0 where
  pub heads : map (λ t. t.head) new ≡ map (λ t. t.head) units
  pub blocks : (u b : ℕ) → u < length units → b < (shape_of units).blocks u → image_of (size_of units) (texts_of new) u b ≡ torn_image tear units calls u b
