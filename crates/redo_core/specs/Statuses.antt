-- What a control block says, and the entries of a commit, of which one may be for it.
use Rattle.std.specs.Prelude.{◌≡◌, ◌<◌, ◌≤◌, ℕ, ◌-◌, ◌^◌, List, [], ◌∷◌, ◌++◌, length, map, drop, replicate, slice_index, ◌==◌, Option, Some, None}
use Rattle.std.specs.Int.{bit_at}
use Rattle.std.specs.List.{range_with_len}
use Rattle.redo_core.specs.declared.control.Control.{Control}
use Rattle.redo_core.specs.declared.control.Control.TheVariants.{Idle, Slide}
use Rattle.redo_core.specs.declared.entries.Entry.{Entry}
use Rattle.dasd_pool.specs.Disk.{Shape}
use Rattle.redo_core.specs.Format.{wide, control_text, control_in, is_filling}
use Rattle.redo_core.specs.Reading.{journal_of, IsControl}

-- what is lawful of a control in any pool
abbrev pub IsDown : Control → Type 0
IsDown Idle = Unit {0}
IsDown (Slide unit from to len done) = (to < from) × (1 ≤ len) × (done ≤ len)

-- no bit from the number of volumes on is set
abbrev pub AreVolumes : ℕ → ℕ → Type 0
AreVolumes journal filling = (u : ℕ) → journal ≤ u → u < 64 → bit_at filling u ≡ 0

-- the numbers of a slide fit four bytes
abbrev pub HasFour : Control → Type 0
HasFour Idle = Unit {0}
HasFour (Slide unit from to len done) = (unit < 2 ^ 32) × (from < 2 ^ 32) × (to < 2 ^ 32) × (len < 2 ^ 32) × (done < 2 ^ 32)

-- the front of a control block: the control, and of each volume number its bit
abbrev pub status_text : Control → ℕ → List ℕ
status_text control filling = control_text control ++ (replicate 40 0 ++ map (bit_at filling) (range_with_len 0 64))

-- the control block that says this, with zeros where the format says nothing
abbrev pub block_saying : Control → ℕ → List ℕ
block_saying control filling = status_text control filling ++ replicate (wide - 128) 0

-- a block that may go to the control block's place: each byte is the format's for what it says, which is lawful here, and no bit is set for a
-- volume that isn't there
pub record IsControlBlock (shape : Shape) (block : List ℕ) : Type 0 where
  pub filling : ℕ
  pub text : block ≡ block_saying (control_in block) filling
  pub volumes : AreVolumes (journal_of shape) filling
  pub is : IsControl shape block

-- a control block reads as this
pub record SaysControl (block : List ℕ) (control : Control) (filling : ℕ) : Type 0 where
  pub size : length block ≡ wide
  pub known : slice_index block 0 ≤ 1
  pub control_is : control_in block ≡ control
  pub fills_are : (u : ℕ) → u < 64 → is_filling block u ≡ (bit_at filling u == 1)

-- the entries of a commit as they are gathered: for blocks of volumes, in their order, and perhaps what is to go to the control block
pub record EntriesView : Type 0 where
  pub blocks : List Entry
  pub control : Option (List ℕ)

abbrev pub control_entry : ℕ → List ℕ → Entry
control_entry journal slot = record { unit = journal; block = 2; slot = slot }

abbrev pub with_control : ℕ → Option (List ℕ) → List Entry → List Entry
with_control journal None blocks = blocks
with_control journal (Some slot) blocks = blocks ++ control_entry journal slot ∷ []

-- one entry for the control block, with zeros behind the front of its bytes
pub record IsSpare (journal : ℕ) (entries : List Entry) : Type 0 where
  pub slot : List ℕ
  pub entry : entries ≡ control_entry journal slot ∷ []
  pub size : length slot ≡ wide
  pub behind : drop 128 slot ≡ replicate (wide - 128) 0

-- the entries of a commit of the control block alone
abbrev pub control_alone : ℕ → Control → ℕ → List Entry
control_alone journal control filling = control_entry journal (block_saying control filling) ∷ []

-- the entries that a commit puts in place, that for the control block behind the others
abbrev pub entries_at : ℕ → EntriesView → List Entry
entries_at journal entries = with_control journal entries.control entries.blocks
