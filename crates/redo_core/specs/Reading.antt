-- What the blocks of a pool stand for: an open body counts in place of its targets.
use Rattle.std.specs.Prelude.{◌≡◌, ◌≢◌, ◌<◌, ◌≤◌, ℕ, ◌+◌, ◌-◌, List, [], ◌∷◌, length, map, take, drop, slice_index, slice_index_or, All, AllPairs, Bool, true, false, ◌||◌, nat_lt, if◌then◌else◌}
use Rattle.std.specs.List.{enumerate_from, list_any}
use Rattle.ckd_image.specs.Bytes.{Begins}
use Rattle.dasd_pool.specs.Disk.{Image, Shape, is_at}
use Rattle.vol_label.specs.declared.serial.Serial.{Serial}
use Rattle.vol_label.specs.Serial.{IsSerial}
use Rattle.redo_core.specs.declared.control.Control.{Control}
use Rattle.redo_core.specs.declared.control.Control.TheVariants.{Idle, Slide}
use Rattle.redo_core.specs.declared.entries.Entry.{Entry}
use Rattle.redo_core.specs.declared.target.Target.{Target}
use Rattle.redo_core.specs.Format.{head_text, wide, registration_magic, count_in, room_in, serials_in, is_open, control_in, is_filling, directory_in}

-- the journal is the last unit, and the units before it are the volumes
abbrev pub journal_of : Shape → ℕ
journal_of shape = shape.units - 1

-- an image with other bytes at one block
abbrev pub set_block : Image → ℕ → ℕ → List ℕ → Image
set_block image unit block bytes u b = if is_at unit block u b then bytes else image u b

-- the blocks with all entries in place, the first of them first
abbrev pub placed : Image → List Entry → Image
placed image [] = image
placed image (entry ∷ entries) = placed (set_block image entry.unit entry.block entry.slot) entries

-- what is to go to a target: the front of the journal's block with this number
abbrev pub entry_for : (ℕ → ℕ) → ℕ → Image → ℕ × Target → Entry
entry_for size journal image numbered = record { unit = numbered.1.unit; block = numbered.1.block; slot = take (size numbered.1.unit) (image journal numbered.0) }

-- a body: the images from block 4 on, for these targets in their order
abbrev pub body_for : (ℕ → ℕ) → ℕ → Image → List Target → List Entry
body_for size journal image targets = map (entry_for size journal image) (enumerate_from 4 targets)

-- the blocks, with an open body's images in place of their targets
abbrev pub overlay : (ℕ → ℕ) → ℕ → Image → Image
overlay size journal image u b =
    if is_open (image journal 1) then placed image (body_for size journal image (directory_in (image journal 3))) u b else image u b

-- a block that a body may replace: one of a volume, or the control
abbrev pub is_place : ℕ → ℕ → ℕ → Bool
is_place journal u b = nat_lt u journal || is_at journal 2 u b

-- whether one of the targets is this block
abbrev pub among : List Target → ℕ → ℕ → Bool
among targets u b = list_any (λ target. is_at target.unit target.block u b) targets

-- what a pool's blocks say: of each volume its blocks, the serials of the volumes, how many entries a commit may have, and what is under way
pub record Reading : Type 0 where
  pub volumes : Image
  pub names : List Serial
  pub room : ℕ
  pub control : Control
  pub fills : ℕ → Bool

-- what the control says once these entries are in place: what the last that goes there says, or what it said
abbrev pub control_after : ℕ → List Entry → Control → Control
control_after journal [] control = control
control_after journal (entry ∷ entries) control = control_after journal entries (if is_at journal 2 entry.unit entry.block then control_in entry.slot else control)

abbrev pub fills_after : ℕ → List Entry → (ℕ → Bool) → ℕ → Bool
fills_after journal [] fills = fills
fills_after journal (entry ∷ entries) fills = fills_after journal entries (if is_at journal 2 entry.unit entry.block then is_filling entry.slot else fills)

-- a reading with these entries in place
abbrev pub with_entries : Shape → Reading → List Entry → Reading
with_entries shape reading entries = record reading {
  volumes = placed reading.volumes entries;
  control = control_after (journal_of shape) entries reading.control;
  fills = fills_after (journal_of shape) entries reading.fills;
}

-- the fills that a list of tests says
abbrev pub fills_of : List Bool → ℕ → Bool
fills_of fills u = slice_index_or fills u false

-- the first rule: the head is that of a journal, and its blocks have that size
pub record HasHead (shape : Shape) : Type 0 where
  pub text : shape.head (journal_of shape) ≡ head_text
  pub size : shape.block_size (journal_of shape) ≡ wide

-- the second: a registration of so many volumes
pub record IsRegistration (volumes : ℕ) (block : List ℕ) (names : List Serial) (room : ℕ) : Type 0 where
  pub magic : Begins registration_magic block
  pub count : count_in block ≡ volumes
  pub some : 1 ≤ volumes
  pub few : volumes ≤ 64
  pub room_is : room_in block ≡ room
  pub least : 3 ≤ room
  pub most : room ≤ 8191
  pub names_are : names ≡ serials_in volumes (drop 16 block)
  pub serials : All (λ name. IsSerial name.text) names

-- a target that is there
pub record IsTarget (shape : Shape) (journal : ℕ) (target : Target) : Type 0 where
  pub place : is_place journal target.unit target.block ≡ true
  pub there : target.block < shape.blocks target.unit

-- the third: the targets of an open body are there, and none stands twice
pub record IsDirectory (shape : Shape) (journal room : ℕ) (targets : List Target) : Type 0 where
  pub some : 1 ≤ length targets
  pub few : length targets ≤ room
  pub there : All (IsTarget shape journal) targets
  pub apart : AllPairs (λ one other. one ≢ other) targets

abbrev pub HasBody : Shape → Image → ℕ → Type 0
HasBody shape image room =
    let journal = journal_of shape in is_open (image journal 1) ≡ true → IsDirectory shape journal room (directory_in (image journal 3))

-- a slide goes down, is of some tracks, of which some are done, and lies within its unit
abbrev pub IsLawful : Shape → Control → Type 0
IsLawful shape Idle = Unit {0}
IsLawful shape (Slide unit from to len done) =
    (unit < journal_of shape) × (to < from) × (1 ≤ len) × (done ≤ len) × (from + len ≤ shape.blocks unit)

-- the fourth: the control says nothing else
pub record IsControl (shape : Shape) (block : List ℕ) : Type 0 where
  pub known : slice_index block 0 ≤ 1
  pub lawful : IsLawful shape (control_in block)

-- the control block, with an open body in place
abbrev pub control_block : Shape → Image → List ℕ
control_block shape image = overlay shape.block_size (journal_of shape) image (journal_of shape) 2

-- An image obeys the four rules, and says this.
pub record Obeys (shape : Shape) (image : Image) (reading : Reading) : Type 0 where
  pub head : HasHead shape
  pub registration : IsRegistration (journal_of shape) (image (journal_of shape) 0) reading.names reading.room
  pub body : HasBody shape image reading.room
  pub control : IsControl shape (control_block shape image)
  pub control_is : reading.control ≡ control_in (control_block shape image)
  pub fills_are : (u : ℕ) → u < journal_of shape → reading.fills u ≡ is_filling (control_block shape image) u

-- An image reads as this: it obeys the rules, the journal has all its blocks, and the volumes are these.
pub record Reads (shape : Shape) (image : Image) (reading : Reading) : Type 0 where
  pub obeys : Obeys shape image reading
  pub long : 4 + reading.room ≤ shape.blocks (journal_of shape)
  pub volumes_are : (u b : ℕ) → u < journal_of shape → reading.volumes u b ≡ overlay shape.block_size (journal_of shape) image u b
