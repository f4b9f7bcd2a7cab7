-- The header of a dump: 32 bytes.
use Rattle.std.specs.Prelude.{◌≡◌, ℕ, ◌<◌, ◌≤◌, Bool, true, false, List, [], ◌∷◌, ◌++◌, replicate, codes}
use Rattle.byteorder.specs.Endian.{big_bytes}
use Rattle.ckd_image.specs.Head.{device_byte, IsCylinders}
use Rattle.vol_label.specs.Serial.{IsSerial}
use Rattle.dump_fmt.specs.declared.piece.DumpHead.{DumpHead}

-- the byte that tells a full dump from a logical one: F or L
abbrev pub kind_byte : Bool → ℕ
kind_byte true = 0x46
kind_byte false = 0x4C

-- the name of the format, kind and device, serial, number of tracks
abbrev pub volume_text : DumpHead → List ℕ
volume_text head = codes "ADRDUMP1" ++ ((kind_byte head.full ∷ device_byte head.device ∷ []) ++ (head.serial.text ++ big_bytes 4 head.tracks))

-- year and day, the track of the format 4, zeros
abbrev pub day_text : DumpHead → List ℕ
day_text head = big_bytes 2 head.day.year ++ (big_bytes 2 head.day.day ++ (big_bytes 4 head.vtoc ++ replicate 4 0))

abbrev pub header_text : DumpHead → List ℕ
header_text head = volume_text head ++ day_text head

-- a full dump names a track behind track 0, and a logical dump none
abbrev pub IsVtocTrack : Bool → ℕ → ℕ → Type 0
IsVtocTrack true tracks vtoc = (1 ≤ vtoc) × (vtoc < tracks)
IsVtocTrack false tracks vtoc = vtoc ≡ 0

-- year and day fit their two bytes each
abbrev pub FitsDay : ℕ → ℕ → Type 0
FitsDay year day = (year ≤ 65535) × (day ≤ 65535)

-- the rules of a header
pub record IsDumpHead (head : DumpHead) : Type 0 where
  pub serial : IsSerial head.serial.text
  pub tracks : IsCylinders head.device head.tracks
  pub day : FitsDay head.day.year head.day.day
  pub vtoc : IsVtocTrack head.full head.tracks head.vtoc
