-- Where a dump that is read part by part stands.
use Rattle.std.specs.Prelude.{◌≡◌, ◌<◌, Bool, false, IsTrue, List, ◌++◌, length, Option, Some, None}
use Rattle.ckd_image.specs.declared.device.Device.{Device}
use Rattle.ckd_image.specs.declared.track.Track.{Track as Text}
use Rattle.dump_fmt.specs.Front.{Front, begun, empty_front, with_current, with_part, with_text}
use Rattle.dump_fmt.specs.Parts.{DumpPart, StandsOn, is_whole}
use Rattle.dump_read.specs.Reader.{IsReading, IsWhole, ReaderView}
use Rattle.dump_read.specs.Tape.{TapeSeen}
use Rattle.dump_parts.specs.declared.parts.NextTrack.{NextTrack}
use Rattle.dump_parts.specs.declared.parts.NextTrack.TheVariants as next
use Rattle.dump_parts.specs.declared.parts.PartHead.{PartHead}

-- ---- where it stands

-- between two parts of a logical dump: the part before has ended
pub record IsBetween (tape : TapeSeen) (reader : ReaderView) (front : Front) : Type 0 where
  pub reading : IsReading tape reader front
  pub logical : reader.head.full ≡ false
  pub ended : front.current ≡ None

-- within this part
pub record IsWithin (tape : TapeSeen) (reader : ReaderView) (front : Front) (part : DumpPart) : Type 0 where
  pub reading : IsReading tape reader front
  pub at : front.current ≡ Some part

abbrev pub HasRead : TapeSeen → ReaderView → Type 0
HasRead tape reader = (front : Front) × IsReading tape reader front

abbrev pub MayGoOn : TapeSeen → ReaderView → Type 0
MayGoOn tape reader = (front : Front) × IsBetween tape reader front

abbrev pub HasPart : TapeSeen → ReaderView → Type 0
HasPart tape reader = (front : Front) × (part : DumpPart) × IsWithin tape reader front part

-- before the first part
abbrev pub BeginsParts : TapeSeen → ReaderView → Type 0
BeginsParts tape reader = IsBetween tape reader empty_front

-- ---- what comes next

-- a part began, of which no track is read yet; or none, and the dump is whole
abbrev pub GivesPart : TapeSeen → ReaderView → Front → Option PartHead → Type 0
GivesPart tape reader front (Some head) =
    let part : DumpPart = begun head.f1 head.tracks head.kind in
    IsWithin tape reader (with_current front (Some part)) part
GivesPart tape reader front None = IsWhole tape reader front

-- the part has a track more, or ended
abbrev pub GivesTrack : TapeSeen → ReaderView → Front → DumpPart → NextTrack → Type 0
GivesTrack tape reader front part (next.Track text) = IsWithin tape reader (with_current front (Some (with_text part text))) (with_text part text)
GivesTrack tape reader front part next.Whole = IsTrue (is_whole part) × IsBetween tape reader (with_part front part)
GivesTrack tape reader front part next.Dropped = (length part.texts < part.tracks) × IsBetween tape reader (with_part front part)

-- a track that comes can stand on the device
abbrev pub IsSoundOn : Device → NextTrack → Type 0
IsSoundOn device (next.Track text) = StandsOn device text
IsSoundOn device _ = Unit {0}

-- a part with these tracks more
abbrev pub with_texts : DumpPart → List Text → DumpPart
with_texts part texts = record { f1 = part.f1; tracks = part.tracks; kind = part.kind; texts = part.texts ++ texts }

-- it ended with some tracks more, or none, and is whole or not
pub record EndsPart (tape : TapeSeen) (reader : ReaderView) (front : Front) (part : DumpPart) (whole : Bool) : Type 0 where
  pub texts : List Text
  pub whole_is : is_whole (with_texts part texts) ≡ whole
  pub between : IsBetween tape reader (with_part front (with_texts part texts))

-- the dump ended, and is whole
abbrev pub EndsDump : TapeSeen → ReaderView → Type 0
EndsDump tape reader = (front : Front) × IsWhole tape reader front
