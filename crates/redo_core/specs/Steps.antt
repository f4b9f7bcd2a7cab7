-- The steps of a commit and of a redo, in terms of blocks.
use Rattle.std.specs.Prelude.{◌<◌, ◌≡◌, ◌⊎◌, ℕ, ◌+◌, ◌≤◌, List, [], length, take, Option, Some, None, Bool, true, false, ◌==◌, ◌&&◌, ◌||◌, nat_le}
use Rattle.dasd_pool.specs.Disk.{Image, Shape, State, IsSynced, is_at}
use Rattle.redo_core.specs.declared.entries.Entry.{Entry}
use Rattle.redo_core.specs.declared.target.Target.{Target}
use Rattle.redo_core.specs.Format.{wide, is_open, directory_in}
use Rattle.redo_core.specs.Reading.{is_place, overlay, placed, body_for}
use Rattle.redo_core.specs.Phases.{targets}

-- the last unit, after at most 64 volumes, with blocks for so many images
pub record IsJournal (shape : Shape) (journal room : ℕ) : Type 0 where
  pub last : journal + 1 ≡ shape.units
  pub volumes : journal ≤ 64
  pub width : shape.block_size journal ≡ wide
  pub blocks : 4 + room ≤ shape.blocks journal
  pub few : room ≤ 8191

-- an entry for a place that is there
pub record IsPlaced (shape : Shape) (journal : ℕ) (entry : Entry) : Type 0 where
  pub place : is_place journal entry.unit entry.block ≡ true
  pub there : entry.block < shape.blocks entry.unit
  pub slot : length entry.slot ≡ shape.block_size entry.unit

-- whether a block is the gate or the control
abbrev pub of_status : ℕ → ℕ → ℕ → Bool
of_status journal u b = is_at journal 1 u b || is_at journal 2 u b

-- whether a block is one that a making writes: the registration, the gate or the control
abbrev pub of_making : ℕ → ℕ → ℕ → Bool
of_making journal u b = (u == journal) && nat_le b 2

-- the gate is closed, and all blocks of the journal are synced
pub record IsShut (journal : ℕ) (state : State) : Type 0 where
  pub synced : (b : ℕ) → state.synced journal b ≡ true
  pub closed : is_open (state.contents journal 1) ≡ false

-- The places hold what they held, but for blocks that were not synced then.
pub record HoldsOld (size : ℕ → ℕ) (journal : ℕ) (old : State) (image : Image) : Type 0 where
  pub registration : image journal 0 ≡ old.contents journal 0
  pub closed : is_open (image journal 1) ≡ false
  pub places : (u b : ℕ) → is_place journal u b ≡ true → old.synced u b ≡ true → overlay size journal image u b ≡ old.contents u b

-- The places hold all entries.
pub record HoldsNew (size : ℕ → ℕ) (journal : ℕ) (old : State) (entries : List Entry) (image : Image) : Type 0 where
  pub registration : image journal 0 ≡ old.contents journal 0
  pub body : is_open (image journal 1) ≡ true → (directory_in (image journal 3) ≡ targets entries) × (1 ≤ length entries)
  pub places : (u b : ℕ) → is_place journal u b ≡ true → overlay size journal image u b ≡ placed old.contents entries u b

abbrev pub HoldsEither : (ℕ → ℕ) → ℕ → State → List Entry → Image → Type 0
HoldsEither size journal old entries image = HoldsOld size journal old image ⊎ HoldsNew size journal old entries image

-- the body is that of the entries
pub record HasEntries (size : ℕ → ℕ) (journal : ℕ) (image : Image) (entries : List Entry) : Type 0 where
  pub names : directory_in (image journal 3) ≡ targets entries
  pub images : body_for size journal image (targets entries) ≡ entries

-- The places have all entries, all is synced, and the gate is closed.
pub record IsDone (journal : ℕ) (old : State) (entries : List Entry) (new : State) : Type 0 where
  pub all : IsSynced new
  pub closed : is_open (new.contents journal 1) ≡ false
  pub registration : new.contents journal 0 ≡ old.contents journal 0
  pub places : (u b : ℕ) → is_place journal u b ≡ true → new.contents u b ≡ placed old.contents entries u b

-- the targets of the open body, or none behind a closed gate
pub record HasTargets (journal : ℕ) (image : Image) (list : List Target) : Type 0 where
  pub closed : is_open (image journal 1) ≡ false → list ≡ []
  pub «open» : is_open (image journal 1) ≡ true → (directory_in (image journal 3) ≡ list) × (1 ≤ length list)

-- what is to be read for a block: the front of this block of the journal, or the block itself
abbrev pub shown : (ℕ → ℕ) → ℕ → Image → ℕ → ℕ → Option ℕ → List ℕ
shown size journal image unit block (Some place) = take (size unit) (image journal place)
shown size journal image unit block None = image unit block

-- The image has the same registration and reads as these blocks do.
pub record HoldsSame (size : ℕ → ℕ) (journal : ℕ) (old image : Image) : Type 0 where
  pub registration : image journal 0 ≡ old journal 0
  pub body : is_open (image journal 1) ≡ true → (is_open (old journal 1) ≡ true) × (directory_in (image journal 3) ≡ directory_in (old journal 3))
  pub places : (u b : ℕ) → is_place journal u b ≡ true → overlay size journal image u b ≡ overlay size journal old u b

-- An open body is in place: all is synced, and the gate is closed.
pub record IsRedone (size : ℕ → ℕ) (journal : ℕ) (old : Image) (new : State) : Type 0 where
  pub all : IsSynced new
  pub closed : is_open (new.contents journal 1) ≡ false
  pub registration : new.contents journal 0 ≡ old journal 0
  pub places : (u b : ℕ) → is_place journal u b ≡ true → new.contents u b ≡ overlay size journal old u b
