-- What a commit leaves, at any moment and at its end.
use Rattle.std.specs.Prelude.{◌<◌, ◌≡◌, ◌⊎◌, ℕ, ◌+◌, List, length, map, All, Some, Bool, true, false, IsTrue, ◌==◌, ◌&&◌, ◌||◌, nat_le}
use Rattle.dasd_pool.specs.Disk.{Image, Shape, State, IsSynced, is_at}
use Rattle.vol_label.specs.declared.serial.Serial.{Serial}
use Rattle.redo_core.specs.declared.control.Control.{Control}
use Rattle.redo_core.specs.declared.entries.Entry.{Entry}
use Rattle.redo_core.specs.declared.target.Target.{Target}
use Rattle.redo_core.specs.Format.{is_open}
use Rattle.redo_core.specs.Reading.{journal_of, is_place, placed, among, control_after, fills_after, with_entries, fills_of, Reading, Reads}
use Rattle.redo_core.specs.Opening.{ReadsSame}
use Rattle.redo_core.specs.Statuses.{EntriesView, IsControlBlock}

-- each unit that the entries name takes writes
abbrev pub TakeWrites : Shape → List Entry → Type 0
TakeWrites shape entries = All (λ entry. IsTrue (shape.may_write entry.unit)) entries

-- the targets of entries
abbrev pub targets : List Entry → List Target
targets entries = map (λ entry. record { unit = entry.unit; block = entry.block }) entries

-- The image reads as before with all entries in place.
abbrev pub ReadsNew : Shape → State → List Entry → Image → Type 0
ReadsNew shape old entries image = (before : Reading) → Reads shape old.contents before
    → Reads shape image (with_entries shape before entries)

-- It reads as before, but for blocks of volumes that were not synced, or as before with all entries in place.
abbrev pub OldOrNew : Shape → State → List Entry → Image → Type 0
OldOrNew shape old entries image = ReadsSame shape old image ⊎ ReadsNew shape old entries image

-- After a commit all is synced, and reads with all entries in place, of which one may be the control block, byte for byte.
pub record IsCommitted (shape : Shape) (old : State) (entries : List Entry) (new : State) : Type 0 where
  pub all : IsSynced new
  pub reads : ReadsNew shape old entries new.contents
  pub control : new.contents (journal_of shape) 2 ≡ placed old.contents entries (journal_of shape) 2

-- whether a block is one of a body of so many images: the directory or an image
abbrev pub of_body : ℕ → ℕ → ℕ → ℕ → Bool
of_body journal count u b = (u == journal) && (nat_le 3 b && nat_le b (3 + count))

-- the blocks that a commit may write: the body of its entries, the gate, and the targets
abbrev pub of_commit : ℕ → List Entry → ℕ → ℕ → Bool
of_commit journal entries u b = (of_body journal (length entries) u b || is_at journal 1 u b) || among (targets entries) u b

-- an entry for a block of a volume that is there
pub record IsEntry (shape : Shape) (entry : Entry) : Type 0 where
  pub volume : entry.unit < journal_of shape
  pub there : entry.block < shape.blocks entry.unit
  pub slot : length entry.slot ≡ shape.block_size entry.unit

-- entries of which each is for a block of a volume that is there, and what is to go to the control block is a control block
pub record AreEntries (shape : Shape) (entries : EntriesView) : Type 0 where
  pub blocks : All (IsEntry shape) entries.blocks
  pub control : (slot : List ℕ) → entries.control ≡ Some slot → IsControlBlock shape slot

-- an entry that may go to its place: a block of a volume that is there, or the control block, where it is a control block
pub record MayGo (shape : Shape) (entry : Entry) : Type 0 where
  pub place : is_place (journal_of shape) entry.unit entry.block ≡ true
  pub control : is_at (journal_of shape) 2 entry.unit entry.block ≡ true → IsControlBlock shape entry.slot
  pub there : entry.block < shape.blocks entry.unit
  pub slot : length entry.slot ≡ shape.block_size entry.unit

-- Between two commits the gate is closed, the journal is synced, and the blocks read as this.
pub record IsAtRest (shape : Shape) (state : State) (room : ℕ) (control : Control) (fills : List Bool) : Type 0 where
  pub closed : is_open (state.contents (journal_of shape) 1) ≡ false
  pub synced : (b : ℕ) → state.synced (journal_of shape) b ≡ true
  pub names : List Serial
  pub reads : Reads shape state.contents (record { volumes = state.contents; names = names; room = room; control = control; fills = fills_of fills })

-- the control, and of each volume whether a fill is open, once these entries are in place
pub record IsStatusAfter (shape : Shape) (entries : List Entry) (control : Control) (fills : List Bool) (after : Control) (later : List Bool) : Type 0 where
  pub control_is : after ≡ control_after (journal_of shape) entries control
  pub fills_are : (u : ℕ) → u < journal_of shape → fills_of later u ≡ fills_after (journal_of shape) entries (fills_of fills) u
