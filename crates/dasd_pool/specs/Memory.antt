-- A pool in memory: what its callers see, which of its calls fail, and what each call does.
use Rattle.std.specs.Prelude.{◌≡◌, ℕ, zero, suc, ◌<◌, ◌≤◌, ◌^◌, List, [], length, Bool, true, false, ◌&&◌, ◌||◌, not, ◌==◌, nat_lt, nat_le, if◌then◌else◌, slice_index_or, All, Result, is_err}
use Rattle.std.specs.List.{list_any}
use Rattle.dasd_pool.specs.declared.calls.Call.{Call}
use Rattle.dasd_pool.specs.declared.units.UnitText.{UnitText}
use Rattle.dasd_pool.specs.Disk.{Image, State, Disk, MayLeave, is_at}
use Rattle.dasd_pool.specs.Calls.{size_of, texts_of, image_of, shape_of, first_state, disk_after, IsKept}
use Rattle.dasd_pool.specs.declared.failures.Failures.{Failures}
use Rattle.dasd_pool.specs.Kept.{KeptView, with_call, WithWrite}
use Rattle.dasd_pool.specs.Marks.{is_marked, first_marks}
use Rattle.dasd_pool.specs.Failures.{one_more}

-- a pool in memory, as its callers see it
pub record MemoryView : Type 0 where
  pub units : List UnitText
  pub calls : List Call
  pub keep : ℕ
  pub failing : List ℕ
  pub count : ℕ
  pub faults : ℕ
  -- the bytes of each unit now
  pub texts : List (List ℕ)
  -- of a pool that keeps no calls, for each block whether it has been written since the last successful sync
  pub marks : List (List Bool)

-- by the parts of a pool
abbrev pub view_of : List UnitText → List (List ℕ) → KeptView → List (List Bool) → Failures → MemoryView
view_of units texts kept marks failures = record {
  units = units;
  calls = kept.calls;
  keep = kept.keep;
  failing = failures.told.items;
  count = failures.count;
  faults = failures.faults;
  texts = texts;
  marks = marks;
}

-- a pool that has had no calls
abbrev pub fresh : List UnitText → List ℕ → ℕ → MemoryView
fresh units failing keep = record {
  units = units;
  calls = [];
  keep = keep;
  failing = failing;
  count = 0;
  faults = 0;
  texts = texts_of units;
  marks = first_marks keep units;
}

-- what the bytes and the marks say
abbrev pub marked_state : List UnitText → List (List ℕ) → List (List Bool) → State
marked_state units texts marks = record { contents = image_of (size_of units) texts; synced = λ u b. not (is_marked marks u b) }

-- only what a stop now may leave is told, and nothing of earlier moments
abbrev pub disk_now : State → Disk
disk_now state = record {
  state = state;
  moment = 0;
  left_since = λ since image. MayLeave state image;
  keeps_past = ⊥;
  counts_now = λ since image le now. now;
  only_now = λ image left. left;
}

-- what is told where so many calls are kept
abbrev pub disk_by : ℕ → Disk → Disk → Disk
disk_by zero marked kept = marked
disk_by (suc n) marked kept = kept

abbrev pub disk_of : MemoryView → Disk
disk_of pool = disk_by pool.keep (disk_now (marked_state pool.units pool.texts pool.marks)) (disk_after (first_state pool.units) pool.calls)

abbrev pub state_of : MemoryView → State
state_of pool = (disk_of pool).state

-- calls are kept, and no more of them
abbrev pub is_full : MemoryView → Bool
is_full pool = nat_lt 0 pool.keep && nat_le pool.keep (length pool.calls)

-- the next call fails: its number is one of those that are to fail, or no more calls are kept
abbrev pub fails : MemoryView → Bool
fails pool = list_any (λ n. n == pool.count) pool.failing || is_full pool

-- A call: it fails just where it is to, and both counts say so.
pub record IsCall {T E : Type 0} (old new : MemoryView) (result : Result T E) : Type 0 where
  pub answer : is_err result ≡ fails old
  pub faults : new.faults ≡ (if fails old then one_more old.faults else old.faults)
  pub count : new.count ≡ one_more old.count
  pub units : new.units ≡ old.units
  pub keep : new.keep ≡ old.keep
  pub failing : new.failing ≡ old.failing

-- the pool keeps this call, where it has room for one more
abbrev pub Keeps : MemoryView → MemoryView → Call → Type 0
Keeps old new call = new.calls ≡ with_call old.keep old.calls call

-- it keeps a write with these bytes, where it has room for one more call
abbrev pub KeepsWrite : MemoryView → MemoryView → ℕ → ℕ → List ℕ → Bool → Type 0
KeepsWrite old new unit block bytes failed = WithWrite old.keep old.calls new.calls unit block bytes failed

-- what a write does: a block has other bytes, or where it fails the same, and isn't synced
abbrev pub write_step : ℕ → ℕ → List ℕ → Bool → State → State
write_step unit block bytes failed state = record {
  contents = λ u b. if not failed && is_at unit block u b then bytes else state.contents u b;
  synced = λ u b. if is_at unit block u b then false else state.synced u b;
}

-- what a sync does: all is synced, or where it fails what was
abbrev pub sync_step : Bool → State → State
sync_step failed state = record { contents = state.contents; synced = λ u b. if failed then state.synced u b else true }

-- The parts of a pool agree: the bytes are those of its state, a write fits, and each block has its mark.
pub record Agree (pool : MemoryView) (width : ℕ) : Type 0 where
  pub units_same : length pool.texts ≡ length pool.units
  pub lengths : (u : ℕ) → length (slice_index_or pool.texts u []) ≡ length (slice_index_or (texts_of pool.units) u [])
  pub current : (u b : ℕ) → image_of (size_of pool.units) pool.texts u b ≡ (state_of pool).contents u b
  pub few : length pool.units < 2 ^ 32
  pub wide : (u : ℕ) → size_of pool.units u ≤ width
  pub whole : All (IsKept pool.units) pool.calls
  pub most : length pool.calls ≤ pool.keep
  pub marked : pool.keep ≡ 0 → (u : ℕ) → length (slice_index_or pool.marks u []) ≡ (shape_of pool.units).blocks u

-- Another pool holds what a stop may leave of this one: an image that its disk allows since a time.
pub record IsLeftOf (pool : MemoryView) (since : ℕ) (left : MemoryView) : Type 0 where
  pub image : Image
  pub allowed : (disk_of pool).left_since since image
  pub held : (u b : ℕ) → u < length pool.units → b < (shape_of pool.units).blocks u → (state_of left).contents u b ≡ image u b
