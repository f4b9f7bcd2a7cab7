-- What a pool of blocks is: what it holds, what a crash may leave, and what it has kept of earlier moments.
use Rattle.std.specs.Prelude.{◌≡◌, ◌⊎◌, ℕ, ◌≤◌, List, Bool, true, false, ◌==◌, ◌&&◌}

-- the blocks: of each unit and number, its bytes
abbrev pub Image : Type 0
Image = ℕ → ℕ → List ℕ

-- what never changes
pub record Shape : Type 0 where
  pub units : ℕ
  pub head : ℕ → List ℕ
  pub block_size : ℕ → ℕ
  pub blocks : ℕ → ℕ
  pub may_write : ℕ → Bool

-- a moment: the contents, and which blocks have not been written since the last successful sync
pub record State : Type 0 where
  pub contents : Image
  pub synced : ℕ → ℕ → Bool

-- a crash now leaves the contents at each synced block, and anything elsewhere
abbrev pub MayLeave : State → Image → Type 0
MayLeave state image = (unit block : ℕ) → state.synced unit block ≡ true → image unit block ≡ state.contents unit block

-- all that a pool tells: its state, the clock, and what a crash at some moment since a time may have left
pub record Disk : Type 1 where
  pub state : State
  pub moment : ℕ
  pub left_since : ℕ → Image → Type 0
  -- whether nothing that was left is forgotten
  pub keeps_past : Type 0
  -- this moment is one of those since an earlier one
  pub counts_now : (since : ℕ) (image : Image) → since ≤ moment → MayLeave state image → left_since since image
  -- since this moment there is no other
  pub only_now : (image : Image) → left_since moment image → MayLeave state image

-- From old on, a crash has left only what has P, beside what it might have left before.
pub record LeavesOnly (old new : Disk) (P : Image → Type 0) : Type 0 where
  pub later : old.moment ≤ new.moment
  pub each : (since : ℕ) (image : Image) → since ≤ old.moment → new.left_since since image → old.left_since since image ⊎ P image
  pub goes_on : old.keeps_past → new.keeps_past
  pub keeps : old.keeps_past → (since : ℕ) (image : Image) → since ≤ old.moment → old.left_since since image → new.left_since since image

-- the pair of numbers is this one
abbrev pub is_at : ℕ → ℕ → ℕ → ℕ → Bool
is_at unit block u b = (u == unit) && (b == block)

-- no block at all
abbrev pub none : ℕ → ℕ → Bool
none u b = false

-- Only blocks of these may have been written: the others are as they were, and what was synced of them still is.
pub record Touches (may : ℕ → ℕ → Bool) (old new : State) : Type 0 where
  pub contents : (u b : ℕ) → may u b ≡ false → new.contents u b ≡ old.contents u b
  pub synced : (u b : ℕ) → may u b ≡ false → old.synced u b ≡ true → new.synced u b ≡ true

-- an image in which the other blocks that were synced are as they were
abbrev pub Spares : (ℕ → ℕ → Bool) → State → Image → Type 0
Spares may state image = (u b : ℕ) → may u b ≡ false → state.synced u b ≡ true → image u b ≡ state.contents u b

-- Calls that write blocks of these alone, and what a crash leaves at any moment of them.
pub record Runs (may : ℕ → ℕ → Bool) (old new : Disk) : Type 0 where
  pub touches : Touches may old.state new.state
  pub leaves : LeavesOnly old new (Spares may old.state)

-- all blocks are synced
abbrev pub IsSynced : State → Type 0
IsSynced state = (u b : ℕ) → state.synced u b ≡ true
