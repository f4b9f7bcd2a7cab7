-- What a stop, an opening and a commit leave of the units that a pool stands for.
use Rattle.std.specs.Prelude.{◌≡◌, ◌⊎◌, ℕ, ◌<◌, List, Bool}
use Rattle.dasd_pool.specs.Disk.{Image, Shape, State, MayLeave}
use Rattle.vol_label.specs.declared.serial.Serial.{Serial}
use Rattle.redo_core.specs.declared.control.Control.{Control}
use Rattle.redo_core.specs.declared.control.Control.TheVariants.{Idle}
use Rattle.redo_core.specs.declared.entries.Entry.{Entry}
use Rattle.redo_core.specs.Reading.{journal_of, placed, with_entries, Reading}
use Rattle.redo_core.specs.Faults.{IsBusy, LabelsAre}
use Rattle.redo_core.specs.Phases.{OldOrNew, IsCommitted}
use Rattle.redo_core.specs.Opening.{ReadsSame, IsOpened}
use Rattle.volume_model.specs.Unit.{UnitModel}
use Rattle.move_core.specs.Facts.{Facts}
use Rattle.move_core.specs.Stands.{Means, RestsOn, Stands, IsSettled}

-- Blocks on which the meaning of a reading doesn't rest may be others.
abbrev pub KeepsMeaning : Type 0
KeepsMeaning =
    (shape : Shape) (reading : Reading) (volumes : Image) (units : List UnitModel) → (means : Means shape reading units)
    → ((u b : ℕ) → u < journal_of shape → RestsOn shape reading means.found u b → volumes u b ≡ reading.volumes u b)
    → Means shape (record reading { volumes = volumes }) units

-- What a stop now leaves of a settled pool stands for the same units.
abbrev pub EachImageStands : Type 0
EachImageStands =
    (facts : Facts) (state : State) (units : List UnitModel) (image : Image) → IsSettled facts state units → MayLeave state image → Stands facts image units

-- So does what a stop leaves within an opening.
abbrev pub OpeningStands : Type 0
OpeningStands =
    (facts : Facts) (state : State) (units : List UnitModel) (image : Image)
    → IsSettled facts state units → ReadsSame facts.shape state image → Stands facts image units

-- A pool that was opened, whatever names were asked for, stands for what it stood for, and is settled.
abbrev pub OpenedIsSettled : Type 0
OpenedIsSettled =
    (facts : Facts) (old new : State) (units : List UnitModel) (asked : List Serial) (room : ℕ) (control : Control) (fills : List Bool)
    → Stands facts old.contents units → IsOpened facts.shape old asked room control fills new → IsSettled facts new units

-- with all entries in place a reading means these units, and each label that reads has its name
pub record WillStand (facts : Facts) (reading : Reading) (entries : List Entry) (units : List UnitModel) : Type 0 where
  pub labels : LabelsAre facts.shape (placed reading.volumes entries) facts.names (journal_of facts.shape)
  pub means : Means facts.shape (with_entries facts.shape reading entries) units

-- with all entries in place no slide is open where none was
abbrev pub OpensNoSlide : Shape → Reading → List Entry → Type 0
OpensNoSlide shape reading entries = ¬ IsBusy reading → ¬ IsBusy (with_entries shape reading entries)

-- What a stop leaves within a commit stands for the units before it, or for those that the commit makes.
abbrev pub CommitStands : Type 0
CommitStands =
    (facts : Facts) (state : State) (before after : List UnitModel) (entries : List Entry) (image : Image)
    → (settled : IsSettled facts state before) → WillStand facts settled.stands.reading entries after → OldOrNew facts.shape state entries image → Stands facts image before ⊎ Stands facts image after

-- After a commit a pool stands for those, and is settled.
abbrev pub CommittedIsSettled : Type 0
CommittedIsSettled =
    (facts : Facts) (old new : State) (before after : List UnitModel) (entries : List Entry)
    → (settled : IsSettled facts old before) → WillStand facts settled.stands.reading entries after
    → IsCommitted facts.shape old entries new → IsSettled facts new after

-- However long its blocks are, an image says at most one list of units, with the texts of an open slide at their places.
-- So it stands for at most one where no slide is open.
abbrev pub OneMeaning : Type 0
OneMeaning =
    (facts : Facts) (image : Image) (a b : List UnitModel) → (one : Stands facts image a) → (other : Stands facts image b)
    → (one.means.found ≡ other.means.found) × (one.reading.control ≡ Idle → a ≡ b)
