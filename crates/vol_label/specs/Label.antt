-- The volume label: the record with number 3 of track 0.
use Rattle.std.specs.Prelude.{◌≡◌, ℕ, ◌+◌, ◌*◌, ◌<◌, ◌==◌, List, [], ◌∷◌, ◌++◌, length, find, Some, replicate}
use Rattle.std.specs.List.{position_or_len}
use Rattle.ckd_image.specs.declared.track.Rec.{Rec}
use Rattle.ckd_image.specs.declared.track.Track.{Track}
use Rattle.ckd_image.specs.declared.track.Cchhr.{Cchhr}
use Rattle.ckd_image.specs.declared.head.Head.{Head}
use Rattle.ckd_image.specs.Device.{heads_of}
use Rattle.ckd_image.specs.Address.{cchhr_text, IsCchhr}
use Rattle.ckd_image.specs.Body.{IsBodyPut}
use Rattle.vol_label.specs.declared.label.Label.{Label}
use Rattle.vol_label.specs.declared.serial.Serial.{Serial}
use Rattle.vol_label.specs.declared.fault.LabelFault.{LabelFault}
use Rattle.vol_label.specs.declared.fault.LabelFault.TheVariants.{BadLabel}
use Rattle.vol_label.specs.declared.fault.LabelRule.{LabelRule}
use Rattle.vol_label.specs.declared.fault.LabelRule.TheVariants as rules
use Rattle.vol_label.specs.Serial.{IsSerial}

-- VOL1 in the code page
abbrev pub label_key : List ℕ
label_key = 0xE5 ∷ 0xD6 ∷ 0xD3 ∷ 0xF1 ∷ []

-- the first record with this number
abbrev pub IsFirstNumbered : ℕ → List Rec → Rec → Type 0
IsFirstNumbered r recs rec = find (λ x. x.r == r) recs ≡ Some rec

-- the track of a pointer is one of the image
abbrev pub IsInside : Head → Cchhr → Type 0
IsInside head place =
    (place.at.head < heads_of head.device) × (place.at.cylinder * heads_of head.device + place.at.head < head.tracks)

-- The 80 bytes: VOL1, serial, a byte, the address of the format-4 DSCB, and any rest.
pub record IsLabelText (head : Head) (body : List ℕ) (label : Label) : Type 0 where
  pub security : ℕ
  pub rest : List ℕ
  pub spelled : body ≡ label_key ++ (label.serial.text ++ (security ∷ (cchhr_text label.vtoc ++ rest)))
  pub serial : IsSerial label.serial.text
  pub numbers : IsCchhr label.vtoc
  pub inside : IsInside head label.vtoc

-- the records of track 0 hold the label of an image with this head
pub record IsLabel (head : Head) (recs : List Rec) (label : Label) : Type 0 where
  pub rec : Rec
  pub numbered : IsFirstNumbered 3 recs rec
  pub key : rec.key ≡ label_key
  pub long : length rec.body ≡ 80
  pub text : IsLabelText head rec.body label

-- the number of a rule in a refusal
abbrev pub number_of : LabelRule → ℕ
number_of rules.NoRecord = 1
number_of rules.Key = 2
number_of rules.Length = 3
number_of rules.Serial = 4

-- the first rule that doesn't hold
abbrev pub IsFirstBroken : Head → List Rec → LabelRule → Type 0
IsFirstBroken head recs rules.NoRecord = (rec : Rec) → ¬ IsFirstNumbered 3 recs rec
IsFirstBroken head recs rules.Key = (rec : Rec) × IsFirstNumbered 3 recs rec × ¬ (rec.key ≡ label_key)
IsFirstBroken head recs rules.Length = (rec : Rec) × IsFirstNumbered 3 recs rec × (rec.key ≡ label_key) × ¬ (length rec.body ≡ 80)
IsFirstBroken head recs rules.Serial = (rec : Rec) × IsFirstNumbered 3 recs rec × (rec.key ≡ label_key) × (length rec.body ≡ 80) × ((label : Label) → ¬ IsLabelText head rec.body label)

-- what a refusal says
abbrev pub IsLabelFault : Head → List Rec → LabelFault → Type 0
IsLabelFault head recs (BadLabel why) = (rule : LabelRule) × (why ≡ number_of rule) × IsFirstBroken head recs rule

-- the 80 bytes that a new label has, blanks where the format says nothing
abbrev pub new_label : Serial → Cchhr → List ℕ
new_label serial vtoc = label_key ++ serial.text ++ (0x40 ∷ []) ++ cchhr_text vtoc ++ replicate 64 0x40

-- the first record with number 3 has another serial in its bytes 4 to 9, and nothing else changes
abbrev pub IsSerialPut : Serial → Track → Track → Type 0
IsSerialPut serial old new = IsBodyPut (position_or_len (λ rec. rec.r == 3) old.recs) 4 serial.text old new

-- some label stands there
abbrev pub HasLabel : Track → Type 0
HasLabel track = (head : Head) × (label : Label) × IsLabel head track.recs label

-- each label that stood there stands there with another serial
abbrev pub KeepsLabel : Serial → Track → Track → Type 0
KeepsLabel serial old new =
    (head : Head) (label : Label) → IsLabel head old.recs label → IsSerial serial.text → IsLabel head new.recs (record { serial = serial; vtoc = label.vtoc })
