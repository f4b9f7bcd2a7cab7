-- A slot as it stands behind its mark in a full dump, and what isn't one: the first field with which none goes on, or one that is cut.
use Rattle.std.specs.Prelude.{◌≡◌, ℕ, ◌<◌, ◌≤◌, List, [], ◌∷◌, ◌++◌, length, take}
use Rattle.byteorder.specs.Endian.{big_bytes}
use Rattle.ckd_image.specs.declared.device.Device.{Device}
use Rattle.ckd_image.specs.Bytes.{Begins}
use Rattle.ckd_image.specs.Device.{slot_of}
use Rattle.dump_fmt.specs.Front.{IsCutSlot}
use Rattle.dump_read.specs.declared.slot.SlotField.{SlotField}
use Rattle.dump_read.specs.declared.slot.SlotField.TheVariants as fields
use Rattle.dump_read.specs.declared.slot.SlotStop.{SlotStop}
use Rattle.dump_read.specs.declared.slot.SlotStop.TheVariants.{Wrong, Cut, NoMemory}
use Rattle.dump_read.specs.Fields.{IsFirstWrong, IsFieldFront}

-- the number of the track, how many bytes there are of its slot, and these
abbrev pub slot_text : ℕ → List ℕ → List ℕ
slot_text number bytes = big_bytes 4 number ++ (big_bytes 4 (length bytes) ++ bytes)

-- this text is the slot of a track, without the zeros at its end
pub record IsSlotText (device : Device) (number : ℕ) (text : List ℕ) : Type 0 where
  pub bytes : List ℕ
  pub cut : IsCutSlot device bytes
  pub spelled : text ≡ slot_text number bytes

-- where a field is
abbrev pub place_of : SlotField → ℕ
place_of fields.Track = 0
place_of fields.Length = 4
place_of fields.Bytes = 8

-- it has so many bytes; those of the slot are as many as the field before them says
abbrev pub HasLength : SlotField → ℕ → List ℕ → ℕ → Type 0
HasLength fields.Track number text count = count ≡ 4
HasLength fields.Length number text count = count ≡ 4
HasLength fields.Bytes number text count = (count ≤ 65535) × Begins (big_bytes 4 number ++ big_bytes 4 count) text

-- the number of a refusal: 8 the order of tracks, 7 the rest of the slot
abbrev pub why_of : SlotField → ℕ
why_of fields.Track = 8
why_of fields.Length = 7
why_of fields.Bytes = 7

-- why no slot of this number is read: a first field is wrong, or the text ends before a slot does that begins with it
abbrev pub IsSlotStop : Device → ℕ → List ℕ → SlotStop → Type 0
IsSlotStop device number text (Wrong field) = (count : ℕ) × HasLength field number text count × IsFirstWrong (IsSlotText device number) text (place_of field) count
IsSlotStop device number text Cut = (whole : List ℕ) × IsSlotText device number whole × Begins text whole × (length text < length whole)
IsSlotStop device number text NoMemory = Unit {0}

-- the text begins with the slot of this number, which has these bytes
pub record IsSlotRead (device : Device) (number : ℕ) (text bytes : List ℕ) : Type 0 where
  pub cut : IsCutSlot device bytes
  pub begins : Begins (slot_text number bytes) text

-- ---- the fields, each by itself

-- why a number isn't read: it is wrong as far as it is there, or cut and not wrong
abbrev pub Stops : SlotField → (List ℕ → Type 0) → List ℕ → SlotStop → Type 0
Stops field Goes text (Wrong found) = (found ≡ field) × ¬ Goes (take 4 text)
Stops field Goes text Cut = (length text < 4) × Goes text
Stops field Goes text NoMemory = ⊥

abbrev pub BeginsLength : Device → List ℕ → Type 0
BeginsLength device = IsFieldFront (λ count. count ≤ slot_of device) (big_bytes 4)

abbrev pub EndsInZero : List ℕ → Type 0
EndsInZero bytes = (more : List ℕ) × (bytes ≡ more ++ (0 ∷ []))

-- why so many bytes of a slot aren't read: the last of them is zero, or they are cut
abbrev pub StopsBytes : ℕ → List ℕ → SlotStop → Type 0
StopsBytes count text (Wrong found) = (found ≡ fields.Bytes) × (count ≤ length text) × EndsInZero (take count text)
StopsBytes count text Cut = length text < count
StopsBytes count text NoMemory = ⊥
