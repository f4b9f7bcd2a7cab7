-- Why a journal is refused, in the order of the causes.
use Rattle.std.specs.Prelude.{◌≡◌, ◌≢◌, ◌⊎◌, ◌<◌, ◌≤◌, ℕ, ◌+◌, List, take, replicate, slice_get, Some, true, ◌==◌, ◌&&◌, nat_le, if◌then◌else◌}
use Rattle.ckd_image.specs.Bytes.{Begins}
use Rattle.ckd_image.specs.Head.{IsHead}
use Rattle.ckd_image.specs.Track.{IsTrackText}
use Rattle.ckd_image.specs.declared.device.Device.{Device}
use Rattle.ckd_image.specs.declared.head.Head.{Head}
use Rattle.ckd_image.specs.declared.track.Track.{Track}
use Rattle.dasd_pool.specs.Disk.{Image, Shape}
use Rattle.vol_label.specs.declared.label.Label.{Label}
use Rattle.vol_label.specs.declared.serial.Serial.{Serial}
use Rattle.vol_label.specs.Label.{IsLabel}
use Rattle.redo_core.specs.declared.control.Control.TheVariants.{Idle}
use Rattle.redo_core.specs.declared.fault.JournalFault.{JournalFault}
use Rattle.redo_core.specs.declared.fault.JournalFault.TheVariants.{Pool, BadJournal, WrongUnit, JournalSmall, NoMemory}
use Rattle.redo_core.specs.declared.fault.JournalRule.{JournalRule}
use Rattle.redo_core.specs.declared.fault.JournalRule.TheVariants as rules
use Rattle.redo_core.specs.Format.{registration_magic, is_open, is_filling}
use Rattle.redo_core.specs.Reading.{journal_of, overlay, control_block, Reading, HasHead, IsRegistration, HasBody, IsControl, Obeys, Reads}

-- the number of a rule in a refusal
abbrev pub number_of : JournalRule → ℕ
number_of rules.Head = 1
number_of rules.Registration = 2
number_of rules.Body = 3
number_of rules.Control = 4
number_of rules.Slide = 5
number_of rules.InUse = 6
number_of rules.Busy = 7

-- memory ran out, or this is the fault of a broken rule
abbrev pub Breaks : JournalRule → Type 0 → JournalFault → Type 0
Breaks rule broken (BadJournal why) = (why ≡ number_of rule) × broken
Breaks rule broken NoMemory = Unit {0}
Breaks rule broken fault = ⊥

-- the same, or the pool failed
abbrev pub Fails : JournalRule → Type 0 → JournalFault → Type 0
Fails rule broken Pool = Unit {0}
Fails rule broken fault = Breaks rule broken fault

-- a block past the end of the journal counts as zeros
abbrev pub zeroed : Shape → Image → Image
zeroed shape image u b = if (u == journal_of shape) && nat_le (shape.blocks u) b then replicate (shape.block_size u) 0 else image u b

-- the first two rules hold, and the registration says this room
pub record IsRegistered (shape : Shape) (image : Image) (room : ℕ) : Type 0 where
  pub head : HasHead shape
  pub names : List Serial
  pub registration : IsRegistration (journal_of shape) (image (journal_of shape) 0) names room

-- a slide is open: none but it may go on
abbrev pub IsBusy : Reading → Type 0
IsBusy reading = reading.control ≢ Idle

-- in whatever an image reads as, no slide is open
abbrev pub HasNoSlide : Shape → Image → Type 0
HasNoSlide shape image = (reading : Reading) → Reads shape image reading → ¬ IsBusy reading

-- the rules before this one hold, and this one doesn't
abbrev pub IsFirstBroken : Shape → Image → JournalRule → Type 0
IsFirstBroken shape image rules.Head = ¬ HasHead shape
IsFirstBroken shape image rules.Registration =
    HasHead shape × ((names : List Serial) (room : ℕ) → ¬ IsRegistration (journal_of shape) (image (journal_of shape) 0) names room)
IsFirstBroken shape image rules.Body = (room : ℕ) × IsRegistered shape image room × ¬ HasBody shape image room
IsFirstBroken shape image rules.Control =
    (room : ℕ) × IsRegistered shape image room × HasBody shape image room × ¬ IsControl shape (control_block shape image)
IsFirstBroken shape image rules.Busy = (reading : Reading) × Obeys shape image reading × IsBusy reading
IsFirstBroken shape image rule = ⊥

-- the fault is of the pool, of memory, or of the first broken rule
abbrev pub IsRuleFault : Shape → Image → JournalFault → Type 0
IsRuleFault shape image (BadJournal why) = (rule : JournalRule) × (why ≡ number_of rule) × IsFirstBroken shape image rule
IsRuleFault shape image Pool = Unit {0}
IsRuleFault shape image NoMemory = Unit {0}
IsRuleFault shape image fault = ⊥

-- the label on track 0 of an image with this head reads, and has this serial
pub record HasSerial (head : Head) (slot : List ℕ) (serial : Serial) : Type 0 where
  pub track : Track
  pub text : IsTrackText (record { cylinder = 0; head = 0 }) slot track
  pub label : Label
  pub stands : IsLabel head track.recs label
  pub serial_is : label.serial ≡ serial

-- the label of a unit does
pub record HasLabel (shape : Shape) (image : Image) (unit : ℕ) (serial : Serial) : Type 0 where
  pub device : Device
  pub head : IsHead (shape.head unit) (shape.blocks unit) device
  pub label : HasSerial (record { device = device; tracks = shape.blocks unit }) (image unit 0) serial

-- each label that reads below this unit has its unit's name
abbrev pub LabelsAre : Shape → Image → List Serial → ℕ → Type 0
LabelsAre shape image names units =
    (unit : ℕ) (serial : Serial) → unit < units → HasLabel shape image unit serial → slice_get names unit ≡ Some serial

-- the first unit whose label reads and has another serial
pub record IsFirstLabel (shape : Shape) (image : Image) (names : List Serial) (unit : ℕ) (kept found : Serial) : Type 0 where
  pub within : unit < journal_of shape
  pub before : LabelsAre shape image names unit
  pub kept_is : slice_get names unit ≡ Some kept
  pub found_is : HasLabel shape image unit found
  pub other : found ≢ kept

abbrev pub IsLabelsFault : Shape → Image → List Serial → JournalFault → Type 0
IsLabelsFault shape image names (WrongUnit unit kept found) = IsFirstLabel shape image names unit kept found
IsLabelsFault shape image names Pool = Unit {0}
IsLabelsFault shape image names NoMemory = Unit {0}
IsLabelsFault shape image names fault = ⊥

-- the first name that isn't the registered one
pub record IsFirstName (registered names : List Serial) (unit : ℕ) (kept found : Serial) : Type 0 where
  pub before : take unit names ≡ take unit registered
  pub kept_is : slice_get registered unit ≡ Some kept
  pub found_is : slice_get names unit ≡ Some found
  pub other : found ≢ kept

abbrev pub IsNameFault : List Serial → List Serial → JournalFault → Type 0
IsNameFault registered names (WrongUnit unit kept found) = IsFirstName registered names unit kept found
IsNameFault registered names fault = ⊥

-- a name that isn't the registered one, or then a label that isn't
abbrev pub IsWhoFault : Shape → Image → List Serial → List Serial → JournalFault → Type 0
IsWhoFault shape image registered names (WrongUnit unit kept found) =
    IsFirstName registered names unit kept found ⊎ ((registered ≡ names) × IsFirstLabel shape image names unit kept found)
IsWhoFault shape image registered names Pool = Unit {0}
IsWhoFault shape image registered names NoMemory = Unit {0}
IsWhoFault shape image registered names fault = ⊥

-- the four rules hold, and no slide is open
pub record IsIdle (shape : Shape) (image : Image) (reading : Reading) : Type 0 where
  pub obeys : Obeys shape (zeroed shape image) reading
  pub idle : ¬ IsBusy reading

-- Nothing stands against an opening: the rules hold, no slide is open, the journal has all its blocks, the names are the registered
-- ones, and each label that reads has its name, with an open body in place.
pub record MayOpen (shape : Shape) (image : Image) (names : List Serial) : Type 0 where
  pub reading : Reading
  pub idle : IsIdle shape image reading
  pub long : 4 + reading.room ≤ shape.blocks (journal_of shape)
  pub names_are : reading.names ≡ names
  pub labels : LabelsAre shape (overlay shape.block_size (journal_of shape) image) names (journal_of shape)

-- Why an opening refuses: the rules, the length, the names, and then the labels, with an open body in place.
abbrev pub IsOpenFault : Shape → Image → List Serial → JournalFault → Type 0
IsOpenFault shape image names (BadJournal why) = IsRuleFault shape (zeroed shape image) (BadJournal why)
IsOpenFault shape image names (JournalSmall need have) =
    (reading : Reading) × IsIdle shape image reading × (need ≡ 4 + reading.room) × (have ≡ shape.blocks (journal_of shape)) × (have < need)
IsOpenFault shape image names (WrongUnit unit kept found) =
    (reading : Reading) × IsIdle shape image reading × (4 + reading.room ≤ shape.blocks (journal_of shape))
    × IsWhoFault shape (overlay shape.block_size (journal_of shape) image) reading.names names (WrongUnit unit kept found)
IsOpenFault shape image names fault = Unit {0}

-- a registration stands, and a body, a slide or a fill is open
pub record IsInUse (shape : Shape) (image : Image) : Type 0 where
  pub registered : Begins registration_magic (image (journal_of shape) 0)
  pub «open» : (is_open (image (journal_of shape) 1) ≡ true) ⊎ ((is_open (image (journal_of shape) 2) ≡ true)
      ⊎ ((u : ℕ) × (u < 64) × (is_filling (image (journal_of shape) 2) u ≡ true)))

-- Nothing stands against making a journal of this room: the head is that of a journal, none is in use, each label that reads has its name, and
-- the blocks suffice.
pub record MayFormat (shape : Shape) (image : Image) (names : List Serial) (room : ℕ) : Type 0 where
  pub head : HasHead shape
  pub unused : ¬ IsInUse shape (zeroed shape image)
  pub labels : LabelsAre shape image names (journal_of shape)
  pub long : 4 + room ≤ shape.blocks (journal_of shape)

-- Why a format refuses: the head, a journal in use, the labels, and then the length.
abbrev pub IsFormatFault : Shape → Image → List Serial → ℕ → JournalFault → Type 0
IsFormatFault shape image names room (BadJournal why) =
    ((why ≡ number_of rules.Head) × ¬ HasHead shape) ⊎ ((why ≡ number_of rules.InUse) × HasHead shape × IsInUse shape (zeroed shape image))
IsFormatFault shape image names room (WrongUnit unit kept found) =
    HasHead shape × (¬ IsInUse shape (zeroed shape image)) × IsFirstLabel shape image names unit kept found
IsFormatFault shape image names room (JournalSmall need have) =
    HasHead shape × (¬ IsInUse shape (zeroed shape image)) × LabelsAre shape image names (journal_of shape)
    × (need ≡ 4 + room) × (have ≡ shape.blocks (journal_of shape)) × (have < need)
IsFormatFault shape image names room fault = Unit {0}

-- fewer blocks than are needed
abbrev pub IsShort : ℕ → ℕ → JournalFault → Type 0
IsShort need have (JournalSmall wanted found) = (wanted ≡ need) × (found ≡ have) × (have < need)
IsShort need have fault = ⊥
