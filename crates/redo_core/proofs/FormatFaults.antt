-- The refusals of a format, in their order.
use Rattle.std.proofs.Common.{◌≡◌, ◌≤◌, ℕ, ◌+◌, List, sym, subst, arith}
use Rattle.dasd_pool.specs.Disk.{Image, Shape, State}
use Rattle.vol_label.specs.declared.serial.Serial.{Serial}
use Rattle.redo_core.specs.declared.fault.JournalFault.{JournalFault}
use Rattle.redo_core.specs.declared.fault.JournalFault.TheVariants.{Pool, BadJournal, WrongUnit, JournalSmall, NoMemory}
use Rattle.redo_core.specs.Reading.{journal_of, HasHead}
use Rattle.redo_core.specs.Faults.{zeroed, LabelsAre, IsLabelsFault, IsInUse, IsShort, IsFormatFault}

-- what comes before the labels: the head, and no use
pub record IsFree (shape : Shape) (image : Image) : Type 0 where
  pub head : HasHead shape
  pub free : ¬ IsInUse shape (zeroed shape image)

-- another label
pub labels_format : (shape : Shape) (image : Image) (names : List Serial) (room : ℕ) → IsFree shape image → (f : JournalFault) → IsLabelsFault shape image names f → IsFormatFault shape image names room f
labels_format shape image names room is (WrongUnit unit kept found) h = (is.head, is.free, h)
labels_format shape image names room is Pool h = tt
labels_format shape image names room is NoMemory h = tt
labels_format shape image names room is (BadJournal why) h = absurd h
labels_format shape image names room is (JournalSmall need have) h = absurd h

-- too few blocks
pub short_format : (shape : Shape) (image : Image) (names : List Serial) (room : ℕ) → IsFree shape image → LabelsAre shape image names (journal_of shape) → (f : JournalFault) → IsShort (4 + room) (shape.blocks (journal_of shape)) f
    → IsFormatFault shape image names room f
short_format shape image names room is labels (JournalSmall need have) h = (is.head, is.free, labels, h.0, h.1, omega (arith, h.0, h.1, h.2))
short_format shape image names room is labels Pool h = tt
short_format shape image names room is labels NoMemory h = tt
short_format shape image names room is labels (BadJournal why) h = absurd h
short_format shape image names room is labels (WrongUnit unit kept found) h = absurd h

-- the same, of the same pool
pub labels_fault_at : (shape other : Shape) (state was : State) (names : List Serial) (f : JournalFault) → other ≡ shape → was ≡ state → IsLabelsFault other was.contents names f → IsLabelsFault shape state.contents names f
labels_fault_at shape other state was names f one_shape one_state h =
    subst (λ (x : State). IsLabelsFault shape x.contents names f) one_state (subst (λ (x : Shape). IsLabelsFault x was.contents names f) one_shape h)

pub labels_are_at : (shape other : Shape) (state was : State) (names : List Serial) (journal : ℕ) → other ≡ shape → was ≡ state → journal_of shape ≡ journal → LabelsAre other was.contents names journal
    → LabelsAre shape state.contents names (journal_of shape)
labels_are_at shape other state was names journal one_shape one_state unit h =
    subst (λ (j : ℕ). LabelsAre shape state.contents names j) (sym unit)
    (subst (λ (x : State). LabelsAre shape x.contents names journal) one_state (subst (λ (x : Shape). LabelsAre x was.contents names journal) one_shape h))

pub short_at : (shape other : Shape) (need journal : ℕ) (f : JournalFault) → other ≡ shape → journal_of shape ≡ journal → IsShort need (other.blocks journal) f → IsShort need (shape.blocks (journal_of shape)) f
short_at shape other need journal f one_shape unit h =
    subst (λ (j : ℕ). IsShort need (shape.blocks j) f) (sym unit) (subst (λ (x : Shape). IsShort need (x.blocks journal) f) one_shape h)

pub long_at : (shape other : Shape) (need journal : ℕ) → other ≡ shape → journal_of shape ≡ journal → need ≤ other.blocks journal → need ≤ shape.blocks (journal_of shape)
long_at shape other need journal one_shape unit h =
    subst (λ (j : ℕ). need ≤ shape.blocks j) (sym unit) (subst (λ (x : Shape). need ≤ x.blocks journal) one_shape h)
