-- What an opening keeps, and what a format makes.
use Rattle.std.specs.Prelude.{◌≡◌, ◌≢◌, ◌<◌, ◌≤◌, ◌⊎◌, ℕ, ◌+◌, ◌-◌, ◌*◌, List, ◌++◌, length, replicate, All, AllPairs, Bool, true, false, ◌&&◌, ◌||◌}
use Rattle.dasd_pool.specs.Disk.{Image, Shape, State, IsSynced, Spares, is_at}
use Rattle.vol_label.specs.declared.serial.Serial.{Serial}
use Rattle.vol_label.specs.Serial.{IsSerial}
use Rattle.redo_core.specs.declared.control.Control.{Control}
use Rattle.redo_core.specs.declared.target.Target.{Target}
use Rattle.redo_core.specs.declared.control.Control.TheVariants.{Idle}
use Rattle.redo_core.specs.Format.{wide, is_open, directory_in, registration_text}
use Rattle.redo_core.specs.Reading.{journal_of, among, fills_of, control_block, Reading, Reads}

-- names for the volumes of a pool: from 1 to 64 serials, which differ
pub record AreNames (shape : Shape) (names : List Serial) : Type 0 where
  pub some : 1 ≤ length names
  pub few : length names ≤ 64
  pub serials : All (λ name. IsSerial name.text) names
  pub apart : AllPairs (λ one other. one ≢ other) names
  pub each : length names ≡ journal_of shape

-- all blocks of the journal are synced
abbrev pub IsJournalSynced : Shape → State → Type 0
IsJournalSynced shape state = (b : ℕ) → state.synced (journal_of shape) b ≡ true

-- the blocks that putting a body in place may write: its targets, and the gate
abbrev pub of_redo : ℕ → List Target → ℕ → ℕ → Bool
of_redo journal list u b = is_at journal 1 u b || among list u b

-- the blocks that an opening may write: behind an open gate those, and else none
abbrev pub of_opening : ℕ → Image → ℕ → ℕ → Bool
of_opening journal image u b = is_open (image journal 1) && of_redo journal (directory_in (image journal 3)) u b

-- a block that was synced, or that an open body replaces
abbrev pub IsSure : Shape → State → ℕ → ℕ → Type 0
IsSure shape old u b =
    let journal = journal_of shape in
    (old.synced u b ≡ true) ⊎ ((is_open (old.contents journal 1) ≡ true) × (among (directory_in (old.contents journal 3)) u b ≡ true))

-- The image reads as before, but for blocks of volumes that were not synced and that no open body replaces.
abbrev pub ReadsSame : Shape → State → Image → Type 0
ReadsSame shape old image = (before : Reading) → Reads shape old.contents before
    → (volumes : Image) × Reads shape image (record before { volumes = volumes })
    × ((u b : ℕ) → u < journal_of shape → IsSure shape old u b → volumes u b ≡ before.volumes u b)

-- An opening ended well: the blocks read as they did, under these names, and all is synced. The control block is what an open body made of it, byte for byte.
pub record IsOpened (shape : Shape) (old : State) (names : List Serial) (room : ℕ) (control : Control) (fills : List Bool) (new : State) : Type 0 where
  pub all : IsSynced new
  pub block : new.contents (journal_of shape) 2 ≡ control_block shape old.contents
  pub volumes : Image
  pub before : Reads shape old.contents (record { volumes = volumes; names = names; room = room; control = control; fills = fills_of fills })
  pub after : Reads shape new.contents (record { volumes = volumes; names = names; room = room; control = control; fills = fills_of fills })

-- the blocks of volumes that were synced are as they were
abbrev pub SparesVolumes : Shape → State → Image → Type 0
SparesVolumes shape old image = (u b : ℕ) → u < journal_of shape → old.synced u b ≡ true → image u b ≡ old.contents u b

-- What a stop leaves while a journal is made: what was synced is as it was, apart from the registration, or no registration stands, or gate and
-- control say that nothing is open.
abbrev pub MakingLeaves : Shape → State → Image → Type 0
MakingLeaves shape old image =
    let journal = journal_of shape in
    Spares (is_at journal 0) old image
    ⊎ ((image journal 0 ≡ replicate wide 0) ⊎ ((image journal 1 ≡ replicate wide 0) × (image journal 2 ≡ replicate wide 0)))

-- A format ended well: the volumes are as they were, under these names, no body is open, nothing is under way, and all is synced. Gate and
-- control are zeros, and so is what stands behind the registration in its block.
pub record IsFormatted (shape : Shape) (old : State) (names : List Serial) (room : ℕ) (new : State) : Type 0 where
  pub all : IsSynced new
  pub registration : new.contents (journal_of shape) 0 ≡ registration_text names room ++ replicate (wide - (16 + 6 * length names)) 0
  pub gate : new.contents (journal_of shape) 1 ≡ replicate wide 0
  pub control : new.contents (journal_of shape) 2 ≡ replicate wide 0
  pub closed : is_open (new.contents (journal_of shape) 1) ≡ false
  pub reads : Reads shape new.contents (record { volumes = old.contents; names = names; room = room; control = Idle; fills = λ u. false })
