-- A text is of one header.
use Rattle.std.proofs.Common.{◌≡◌, ℕ, ◌≤◌, Bool, List, [], ◌++◌, length, replicate, refl, sym, ap, ◌∙◌, arith, length-append}
use Rattle.byteorder.specs.Endian.{big_bytes, big_from}
use Rattle.byteorder.specs.Numbers.{big_number-reads_back}
use Rattle.ckd_image.specs.declared.device.Device.{Device}
use Rattle.ckd_image.proofs.OneText.{split_same}
use Rattle.dump_fmt.specs.declared.piece.DumpHead.{DumpHead}
use Rattle.dump_fmt.specs.Head.{IsDumpHead, header_text, volume_text, day_text}
use Rattle.dump_read.specs.DumpLaws.{OneHeader}
use Rattle.dump_read.proofs.Numbers.{one_number, few_vtoc}
use Rattle.dump_read.proofs.Shapes.{alike}

one_short : (v w : ℕ) → v ≤ 65535 → w ≤ 65535 → big_bytes 2 v ≡ big_bytes 2 w → v ≡ w
one_short v w small less e =
    let first : big_from 0 2 (big_bytes 2 v ++ []) ≡ v = big_number-reads_back 2 v [] (omega (arith, small)) in
    let second : big_from 0 2 (big_bytes 2 w ++ []) ≡ w = big_number-reads_back 2 w [] (omega (arith, less)) in
    sym first ∙ ap (λ (t : List ℕ). big_from 0 2 (t ++ [])) e ∙ second

-- the fields behind the name of the format, kind and device
pub record SharesFields (head other : DumpHead) : Type 0 where
  pub serial : head.serial.text ≡ other.serial.text
  pub year : head.day.year ≡ other.day.year
  pub day : head.day.day ≡ other.day.day
  pub vtoc : head.vtoc ≡ other.vtoc

long_volume : (head : DumpHead) → IsDumpHead head → length (volume_text head) ≡ 20
long_volume head is = omega (arith, is.serial.1.six, length-append head.serial.text (big_bytes 4 head.tracks))

pub shared : (head other : DumpHead) → IsDumpHead head → IsDumpHead other → header_text head ≡ header_text other → SharesFields head other
shared head other sound right e =
    let days = split_same (volume_text head) (volume_text other) (day_text head) (day_text other) (long_volume head sound ∙ sym (long_volume other right)) e in
    let behind : head.serial.text ++ big_bytes 4 head.tracks ≡ other.serial.text ++ big_bytes 4 other.tracks = let volumes = days.0 in cc in
    let serials = split_same head.serial.text other.serial.text (big_bytes 4 head.tracks) (big_bytes 4 other.tracks) (sound.serial.1.six ∙ sym right.serial.1.six) behind in
    let years = split_same (big_bytes 2 head.day.year) (big_bytes 2 other.day.year) (big_bytes 2 head.day.day ++ (big_bytes 4 head.vtoc ++ replicate 4 0))
    (big_bytes 2 other.day.day ++ (big_bytes 4 other.vtoc ++ replicate 4 0)) refl days.1 in
    let day = split_same (big_bytes 2 head.day.day) (big_bytes 2 other.day.day) (big_bytes 4 head.vtoc ++ replicate 4 0) (big_bytes 4 other.vtoc ++ replicate 4 0) refl years.1 in
    let vtocs = split_same (big_bytes 4 head.vtoc) (big_bytes 4 other.vtoc) (replicate 4 0) (replicate 4 0) refl day.1 in
    record {
      serial = serials.0;
      year = one_short head.day.year other.day.year sound.day.0 right.day.0 years.0;
      day = one_short head.day.day other.day.day sound.day.1 right.day.1 day.0;
      vtoc = one_number head.vtoc other.vtoc (few_vtoc head.full head.tracks head.vtoc sound.tracks.1 sound.vtoc) (few_vtoc other.full other.tracks other.vtoc right.tracks.1 right.vtoc) vtocs.0;
    }

same_head : (full whole : Bool) (device other : Device) (serial text : List ℕ) (tracks count year age day date vtoc at : ℕ)
    → full ≡ whole → device ≡ other → serial ≡ text → tracks ≡ count → year ≡ age → day ≡ date → vtoc ≡ at
    → Path DumpHead (record { full = full; device = device; serial = record { text = serial }; tracks = tracks; day = record { year = year; day = day }; vtoc = vtoc })
    (record { full = whole; device = other; serial = record { text = text }; tracks = count; day = record { year = age; day = date }; vtoc = at })
same_head full whole device other serial text tracks count year age day date vtoc at a b c d e f g =
    λ i. record { full = a i; device = b i; serial = record { text = c i }; tracks = d i; day = record { year = e i; day = f i }; vtoc = g i }

pub one_header : OneHeader
one_header head other sound right e =
    let same = alike head other sound right e in
    let more = shared head other sound right e in
    same_head head.full other.full head.device other.device head.serial.text other.serial.text head.tracks other.tracks head.day.year other.day.year head.day.day other.day.day head.vtoc other.vtoc
    same.full same.device more.serial same.tracks more.year more.day more.vtoc
