-- A pool in memory is what it held at first, and the calls since.
use Rattle.std.specs.Prelude.{◌≡◌, ℕ, ◌*◌, ◌+◌, ◌/◌, ◌≤◌, ◌^◌, ◌-◌, List, [], ◌∷◌, ◌++◌, length, take, drop, map, min, true, false, ◌&&◌, not, if◌then◌else◌, slice_index_or, ◌==◌, ◌||◌, Vec}
use Rattle.byteorder.specs.Endian.{little_number}
use Rattle.std.proofs.Common.{arith, subst, sym}
use Rattle.std.proofs.lemmas.List.{take_all}
use Rattle.std.specs.declared.alloc.Global.{Global}
use Rattle.dasd_pool.specs.declared.calls.Call.{Call}
use Rattle.dasd_pool.specs.declared.calls.Call.TheVariants.{Read, Write, Sync}
use Rattle.dasd_pool.specs.declared.units.UnitText.{UnitText}
use Rattle.dasd_pool.specs.Disk.{Shape, Image, State, Disk, MayLeave, is_at}

-- the size of a unit's blocks, which its head says: that of a 3390, a 3380, a 3350 or a journal, else none
abbrev pub size_in : List ℕ → ℕ
size_in head =
    let said = little_number 4 (drop 12 head) in
    if (said == 56832) || (said == 47616) || (said == 19456) || (said == 65536) then said else 0

abbrev pub head_of : List UnitText → ℕ → List ℕ
head_of units u = slice_index_or (map (λ t. t.head) units) u []

abbrev pub size_of : List UnitText → ℕ → ℕ
size_of units u = size_in (head_of units u)

-- the bytes of each unit
abbrev pub texts_of : List UnitText → List (List ℕ)
texts_of units = map (λ t. t.blocks) units

abbrev pub items_of : List (Vec ℕ Global) → List (List ℕ)
items_of units = map (λ v. v.items) units

-- the bytes of a block, in a unit of such blocks
abbrev pub block_at : ℕ → List ℕ → ℕ → List ℕ
block_at size bytes block = take size (drop (block * size) bytes)

-- the bytes, with others in the place of some
abbrev pub written : List ℕ → ℕ → List ℕ → List ℕ
written text at bytes = take at text ++ bytes ++ drop (at + length bytes) text

-- the blocks of units with these bytes
abbrev pub image_of : (ℕ → ℕ) → List (List ℕ) → Image
image_of size texts u b = block_at (size u) (slice_index_or texts u []) b

-- at first all is synced
abbrev pub first_state : List UnitText → State
first_state units = record { contents = image_of (size_of units) (texts_of units); synced = λ unit block. true }

abbrev pub shape_of : List UnitText → Shape
shape_of units = record {
  units = length units;
  head = head_of units;
  block_size = size_of units;
  blocks = λ u. min (length (slice_index_or (texts_of units) u []) / size_of units u) (2 ^ 32 - 1);
  may_write = λ u. true;
}

-- what a call does to the contents and to what is synced
abbrev pub step : State → Call → State
step state (Read unit block failed) = state
step state (Write unit block bytes failed) = record {
  contents = λ u b. if not failed && is_at unit block u b then bytes.items else state.contents u b;
  synced = λ u b. if is_at unit block u b then false else state.synced u b;
}
step state (Sync failed) = record { contents = state.contents; synced = λ u b. if failed then state.synced u b else true }

-- the state after calls, the first of them first
abbrev pub after : State → List Call → State
after state [] = state
after state (call ∷ calls) = after (step state call) calls

-- an image may have been left since a time where a crash after so many of the calls may leave it
abbrev pub LeftSince : State → List Call → ℕ → Image → Type 0
LeftSince state calls since image = (n : ℕ) × (since ≤ n) × (n ≤ length calls) × MayLeave (after state (take n calls)) image

pub counts_now : (state : State) (calls : List Call) (since : ℕ) (image : Image) → since ≤ length calls → MayLeave (after state calls) image → LeftSince state calls since image
counts_now state calls since image le now =
    (length calls, le, omega arith, subst (λ (cs : List Call). MayLeave (after state cs) image) (sym (take_all (length calls) calls (omega arith))) now)

pub only_now : (state : State) (calls : List Call) (image : Image) → LeftSince state calls (length calls) image → MayLeave (after state calls) image
only_now state calls image left = subst (λ (cs : List Call). MayLeave (after state cs) image) (take_all left.0 calls left.1) left.3

abbrev pub disk_after : State → List Call → Disk
disk_after state calls = record {
  state = after state calls;
  moment = length calls;
  left_since = LeftSince state calls;
  keeps_past = Unit {0};
  counts_now = counts_now state calls;
  only_now = only_now state calls;
}

-- a write has bytes for one block of its unit
abbrev pub IsKept : List UnitText → Call → Type 0
IsKept units (Read unit block failed) = Unit {0}
IsKept units (Write unit block bytes failed) = length bytes.items ≡ size_of units unit
IsKept units (Sync failed) = Unit {0}
