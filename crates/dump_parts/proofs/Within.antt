-- A part that is read track by track.
use Rattle.std.proofs.Common.{◌≡◌, ℕ, ◌-◌, ◌<◌, Bool, true, false, [], ◌∷◌, ◌++◌, length, All, Option, Some, None, option_to_list, refl, sym, ap, subst, ◌∙◌, arith, length-append}
use Rattle.std.proofs.lemmas.Option.{none-some}
use Rattle.ckd_image.specs.declared.track.Track.{Track as Text}
use Rattle.dump_fmt.specs.declared.piece.DumpHead.{DumpHead}
use Rattle.dump_fmt.specs.declared.piece.Piece.TheVariants as pieces
use Rattle.dump_fmt.specs.Front.{Front, IsFront, IsLogical, IsOfKind, with_text}
use Rattle.dump_fmt.specs.Parts.{DumpPart, IsPart, StandsOn}
use Rattle.dump_read.specs.declared.standing.UnderWay.{UnderWay}
use Rattle.dump_read.specs.Reader.{Gives, ReaderView}
use Rattle.dump_read.specs.Standing.{IsUnderWay}
use Rattle.dump_read.specs.Tape.{TapeSeen}
use Rattle.dump_read.proofs.Going.{last_is}
use Rattle.dump_parts.specs.Reading.{IsWithin}

logical_by : (full : Bool) (head : DumpHead) (front : Front) (part : DumpPart) → front.current ≡ Some part → IsOfKind full head front → IsLogical head front
logical_by true head front part at is = absurd (none-some part (sym is.no_current ∙ at))
logical_by false head front part at is = is

pub not_full : (full : Bool) (head : DumpHead) (front : Front) (part : DumpPart) → front.current ≡ Some part → IsOfKind full head front → full ≡ false
not_full true head front part at is = absurd (none-some part (sym is.no_current ∙ at))
not_full false head front part at is = refl

-- the part under way is one
pub part_sound : (head : DumpHead) (front : Front) (part : DumpPart) → IsFront head front → front.current ≡ Some part → IsPart head.device part
part_sound head front part is at =
    last_is (IsPart head.device) front.parts part
    (subst (λ (o : Option DumpPart). All (IsPart head.device) (front.parts ++ option_to_list o)) at (logical_by head.full head front part at is.behind).parts)

-- a track that came can stand on the device
pub track_sound : (tape : TapeSeen) (reader : ReaderView) (head : DumpHead) (front : Front) (text : Text) → reader.head ≡ head → Gives tape reader front (pieces.Track text) → StandsOn head.device text
track_sound tape reader head front text same (next, (part, at, is), reading) =
    let here : next.current ≡ Some (with_text part text) = ap (λ (f : Front). f.current) is in
    let one : IsPart reader.head.device (with_text part text) = part_sound reader.head next (with_text part text) reading.is_front here in
    subst (λ (h : DumpHead). StandsOn h.device text) same (last_is (StandsOn reader.head.device) part.texts text one.texts)

-- ---- how many tracks it lacks

abbrev pub tracks_left : Option UnderWay → ℕ
tracks_left None = 0
tracks_left (Some under) = under.due - under.read

left_by : (current : Option DumpPart) (under : Option UnderWay) (part : DumpPart) → current ≡ Some part → IsUnderWay current under → tracks_left under ≡ part.tracks - length part.texts
left_by None under part at is = absurd (none-some part at)
left_by (Some other) under part at is = let same : other ≡ part = cc in ap tracks_left is ∙ ap (λ (p : DumpPart). p.tracks - length p.texts) same

pub left_is : (tape : TapeSeen) (reader : ReaderView) (front : Front) (part : DumpPart) → IsWithin tape reader front part → tracks_left reader.standing.under_way ≡ part.tracks - length part.texts
left_is tape reader front part is = left_by front.current reader.standing.under_way part is.at is.reading.stands.under_way

-- with each track it lacks one less
pub left_falls : (old new : TapeSeen) (before after : ReaderView) (front next : Front) (part : DumpPart) (text : Text) → IsWithin old before front part → IsWithin new after next (with_text part text)
    → tracks_left after.standing.under_way < tracks_left before.standing.under_way
left_falls old new before after front next part text is also =
    let one : IsPart after.head.device (with_text part text) = part_sound after.head next (with_text part text) also.reading.is_front also.at in
    omega (arith, one.within, length-append part.texts (text ∷ []), left_is old before front part is, left_is new after next (with_text part text) also)
