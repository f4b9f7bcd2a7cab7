-- What leads into a run and out of it: a journal that was made, a stop, and the next opening.
use Rattle.std.specs.Prelude.{◌≡◌, ℕ, ◌<◌, List, false}
use Rattle.dasd_pool.specs.Disk.{Image, State, IsSynced}
use Rattle.vol_label.specs.declared.serial.Serial.{Serial}
use Rattle.redo_core.specs.declared.control.Control.TheVariants.{Idle}
use Rattle.redo_core.specs.Reading.{Reading}
use Rattle.redo_core.specs.Faults.{HasNoSlide, MayFormat, MayOpen}
use Rattle.redo_core.specs.Opening.{IsFormatted}
use Rattle.volume_model.specs.Unit.{UnitModel}
use Rattle.move_core.specs.Facts.{Facts}
use Rattle.move_core.specs.Stands.{Means, Stands, IsSettled}

-- what volumes say behind a new journal: nothing is under way
abbrev pub new_reading : Image → List Serial → ℕ → Reading
new_reading volumes names room = record { volumes = volumes; names = names; room = room; control = Idle; fills = λ u. false }

-- A pool whose journal was made stands for what its volumes mean, and is settled.
abbrev pub FormattedIsSettled : Type 0
FormattedIsSettled =
    (facts : Facts) (old new : State) (units : List UnitModel) → MayFormat facts.shape old.contents facts.names facts.room → IsFormatted facts.shape old facts.names facts.room new
    → Means facts.shape (new_reading old.contents facts.names facts.room) units → IsSettled facts new units

-- What a stop left is settled when it is handed in again: all of it is synced then.
abbrev pub SyncedIsSettled : Type 0
SyncedIsSettled =
    (facts : Facts) (state : State) (units : List UnitModel) → IsSynced state → Stands facts state.contents units → IsSettled facts state units

-- An image that has the same blocks, as far as the shape goes, stands for the same units, and no slide or fill is open in it where none was.
abbrev pub SameBlocksStand : Type 0
SameBlocksStand =
    (facts : Facts) (one other : Image) (units : List UnitModel) → ((u b : ℕ) → u < facts.shape.units → b < facts.shape.blocks u → other u b ≡ one u b)
    → Stands facts one units → Stands facts other units × (HasNoSlide facts.shape one → HasNoSlide facts.shape other)

-- No slide and no fill is open where a journal was made, and none where nothing stood against an opening.
abbrev pub NoneIsOpen : Type 0
NoneIsOpen =
    ((facts : Facts) (old new : State) → IsFormatted facts.shape old facts.names facts.room new → HasNoSlide facts.shape new.contents)
    × ((facts : Facts) (image : Image) (names : List Serial) → MayOpen facts.shape image names → HasNoSlide facts.shape image)

-- Where an image stands for units, and no slide is open, nothing stands against its opening under these names.
abbrev pub StandingMayOpen : Type 0
StandingMayOpen =
    (facts : Facts) (image : Image) (units : List UnitModel) → Stands facts image units → HasNoSlide facts.shape image
    → MayOpen facts.shape image facts.names
