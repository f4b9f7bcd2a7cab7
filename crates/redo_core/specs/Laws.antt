-- What decides whether a journal is opened or made, and what may go to the control block's place.
use Rattle.std.specs.Prelude.{◌≡◌, ◌⊎◌, ℕ, List}
use Rattle.dasd_pool.specs.Disk.{Image, Shape}
use Rattle.vol_label.specs.declared.serial.Serial.{Serial}
use Rattle.redo_core.specs.declared.control.Control.{Control}
use Rattle.redo_core.specs.declared.fault.JournalFault.{JournalFault}
use Rattle.redo_core.specs.declared.fault.JournalFault.TheVariants.{Pool, NoMemory}
use Rattle.redo_core.specs.Faults.{IsFormatFault, IsOpenFault, MayFormat, MayOpen}
use Rattle.redo_core.specs.Reading.{journal_of, IsLawful}
use Rattle.redo_core.specs.Statuses.{AreVolumes, HasFour, IsControlBlock, block_saying}

-- where nothing stands against an opening, it is refused only because the pool failed or memory ran out
abbrev pub OnlyFaultsRefuse : Type 0
OnlyFaultsRefuse =
    (shape : Shape) (image : Image) (names : List Serial) (fault : JournalFault) → MayOpen shape image names → IsOpenFault shape image names fault
    → (fault ≡ Pool) ⊎ (fault ≡ NoMemory)

-- where nothing stands against making a journal, that is refused only because the pool failed or memory ran out
abbrev pub OnlyFaultsRefuseMaking : Type 0
OnlyFaultsRefuseMaking =
    (shape : Shape) (image : Image) (names : List Serial) (room : ℕ) (fault : JournalFault) → MayFormat shape image names room
    → IsFormatFault shape image names room fault → (fault ≡ Pool) ⊎ (fault ≡ NoMemory)

-- A block that says a lawful control, and no fill of a volume that isn't there, may go to the control block's place.
abbrev pub LawfulIsControlBlock : Type 0
LawfulIsControlBlock =
    (shape : Shape) (control : Control) (filling : ℕ) → HasFour control → IsLawful shape control → AreVolumes (journal_of shape) filling
    → IsControlBlock shape (block_saying control filling)
