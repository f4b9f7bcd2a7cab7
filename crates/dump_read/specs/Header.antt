-- What isn't the header of a dump: the first field with which no header goes on, or a header that is cut.
use Rattle.std.specs.Prelude.{◌≡◌, ℕ, ◌<◌, Bool, List, [], ◌∷◌, ◌++◌, length, take}
use Rattle.byteorder.specs.Endian.{big_bytes}
use Rattle.ckd_image.specs.declared.device.Device.{Device}
use Rattle.ckd_image.specs.Head.{device_byte, IsCylinders}
use Rattle.vol_label.specs.Serial.{IsSerial}
use Rattle.dump_fmt.specs.declared.piece.DumpHead.{DumpHead}
use Rattle.dump_fmt.specs.Head.{IsDumpHead, header_text, kind_byte, IsVtocTrack, FitsDay}
use Rattle.dump_read.specs.declared.header.HeaderField.{HeaderField}
use Rattle.dump_read.specs.declared.header.HeaderField.TheVariants as fields
use Rattle.dump_read.specs.declared.header.HeaderStop.{HeaderStop}
use Rattle.dump_read.specs.declared.header.HeaderStop.TheVariants.{Wrong, Cut}
use Rattle.dump_read.specs.Fields.{GoesOn, IsFirstWrong, IsFieldFront}

-- where a field is
abbrev pub offset_of : HeaderField → ℕ
offset_of fields.Magic = 0
offset_of fields.Kind = 8
offset_of fields.Device = 9
offset_of fields.Serial = 10
offset_of fields.Tracks = 16
offset_of fields.Vtoc = 24
offset_of fields.Zeros = 28

-- how many bytes it has
abbrev pub length_of : HeaderField → ℕ
length_of fields.Magic = 8
length_of fields.Kind = 1
length_of fields.Device = 1
length_of fields.Serial = 6
length_of fields.Tracks = 4
length_of fields.Vtoc = 4
length_of fields.Zeros = 4

-- the number of a refusal
abbrev pub why_of : HeaderField → ℕ
why_of fields.Magic = 1
why_of fields.Kind = 2
why_of fields.Device = 3
why_of fields.Serial = 4
why_of fields.Tracks = 4
why_of fields.Vtoc = 4
why_of fields.Zeros = 4

-- these bytes are a header
abbrev pub IsHeader : List ℕ → Type 0
IsHeader text = (head : DumpHead) × IsDumpHead head × (text ≡ header_text head)

-- why no header is read: a first field is wrong, or the bytes end, and a header may begin with them
abbrev pub IsHeaderStop : List ℕ → HeaderStop → Type 0
IsHeaderStop bytes (Wrong field) = IsFirstWrong IsHeader bytes (offset_of field) (length_of field)
IsHeaderStop bytes Cut = (length bytes < 32) × GoesOn IsHeader bytes

-- ---- the fields, each by itself

-- the front of a field that can be spelled in one way
abbrev pub BeginsFixed : List ℕ → List ℕ → Type 0
BeginsFixed right = IsFieldFront {X = Unit {0}} (λ value. Unit {0}) (λ value. right)

abbrev pub kind_text : Bool → List ℕ
kind_text full = kind_byte full ∷ []

abbrev pub BeginsKind : List ℕ → Type 0
BeginsKind = IsFieldFront (λ full. Unit {0}) kind_text

abbrev pub device_text : Device → List ℕ
device_text device = device_byte device ∷ []

abbrev pub BeginsDevice : List ℕ → Type 0
BeginsDevice = IsFieldFront (λ device. Unit {0}) device_text

abbrev pub BeginsSerial : List ℕ → Type 0
BeginsSerial = IsFieldFront IsSerial (λ serial. serial)

abbrev pub BeginsTracks : Device → List ℕ → Type 0
BeginsTracks device = IsFieldFront (IsCylinders device) (big_bytes 4)

abbrev pub pair_text : ℕ × ℕ → List ℕ
pair_text pair = big_bytes 2 pair.0 ++ big_bytes 2 pair.1

-- year and day
abbrev pub IsDayPair : ℕ × ℕ → Type 0
IsDayPair pair = FitsDay pair.0 pair.1

abbrev pub BeginsDay : List ℕ → Type 0
BeginsDay = IsFieldFront IsDayPair pair_text

abbrev pub BeginsVtoc : Bool → ℕ → List ℕ → Type 0
BeginsVtoc full tracks = IsFieldFront (IsVtocTrack full tracks) (big_bytes 4)

-- why a field isn't read: it is wrong as far as it is there, or cut and not wrong
abbrev pub Stops : HeaderField → (List ℕ → Type 0) → List ℕ → HeaderStop → Type 0
Stops field Goes bytes (Wrong found) = (found ≡ field) × ¬ Goes (take (length_of field) bytes)
Stops field Goes bytes Cut = (length bytes < length_of field) × Goes bytes
