-- A dump that is read to its end: each piece leaves fewer, and what is refused is so in the whole.
use Rattle.std.proofs.Common.{◌≡◌, inr, ℕ, ◌+◌, ◌-◌, ◌*◌, ◌^◌, ◌<◌, true, false, List, [], ◌∷◌, length, Option, Some, None, is_some, refl, sym, ap, subst, arith, length-append}
use Rattle.ckd_image.specs.declared.track.Track.{Track as Text}
use Rattle.dump_fmt.specs.declared.fault.DumpFault.{DumpFault}
use Rattle.dump_fmt.specs.declared.piece.DumpHead.{DumpHead}
use Rattle.dump_fmt.specs.declared.piece.Piece.{Piece}
use Rattle.dump_fmt.specs.declared.piece.Piece.TheVariants.{Part, Track, PartEnd, Dropped, Slot}
use Rattle.dump_fmt.specs.Parts.{DumpPart, IsPart}
use Rattle.dump_fmt.specs.Front.{Front, Adds, all_parts, begun, with_text, with_current, with_part, with_slot}
use Rattle.dump_fmt.specs.Text.{IsDumpText}
use Rattle.dump_read.specs.declared.standing.Standing.{Standing}
use Rattle.dump_read.specs.declared.standing.UnderWay.{UnderWay}
use Rattle.dump_read.specs.Faults.{IsFaultBehind, IsDumpFault}
use Rattle.dump_read.specs.Reader.{ReaderView, IsReading, Gives, GivesNext, IsWhole}
use Rattle.dump_read.specs.Reading.{HeldSuch}
use Rattle.dump_read.specs.Shape.{AreSlots, IsGoing}
use Rattle.dump_read.specs.Standing.{StandsAt, IsUnderWay}
use Rattle.dump_read.specs.Tape.{TapeSeen}
use Rattle.dump_read.proofs.Ahead.{held_as_well}
use Rattle.dump_read.proofs.Counts.{all_none, all_some, all_ended}
use Rattle.dump_read.proofs.Going.{logical, slots_by, last_is}
use Rattle.dump_read.proofs.Languages.{slots_full}

-- ---- how much may still come

abbrev under_left : Option UnderWay → ℕ
under_left None = 0
under_left (Some under) = (under.due - under.read) + 1

-- A part that begins takes more than all of its tracks.
abbrev pub pieces_left : Standing → ℕ
pieces_left standing = (2 ^ 32 - standing.begun) * 70000 + (under_left standing.under_way + (65536 - standing.slots))

abbrev part_left : Option DumpPart → ℕ
part_left None = 0
part_left (Some part) = (part.tracks - length part.texts) + 1

abbrev front_left : Front → ℕ
front_left front = (2 ^ 32 - length (all_parts front)) * 70000 + (part_left front.current + (65536 - length front.slots))

same_left : (current : Option DumpPart) (under : Option UnderWay) → IsUnderWay current under → under_left under ≡ part_left current
same_left None under is = ap under_left is
same_left (Some part) under is = ap under_left is

left_at : (head : DumpHead) (front : Front) (standing : Standing) → StandsAt head front standing → pieces_left standing ≡ front_left front
left_at head front standing stands = omega (arith, stands.begun, stands.slots, same_left front.current standing.under_way stands.under_way)

part_falls : (head : DumpHead) (front : Front) (part : DumpPart) → front.current ≡ None → part.texts ≡ [] → IsGoing head (with_current front (Some part))
    → front_left (with_current front (Some part)) < front_left front
part_falls head front part none empty going =
    let here = logical head (with_current front (Some part)) part going.is_front refl in
    let one : IsPart head.device part = last_is (IsPart head.device) front.parts part here.parts in
    omega (arith, here.few, one.few, length-append front.parts (part ∷ []), ap length (all_none front none), ap part_left none, ap length empty)

track_falls : (head : DumpHead) (front : Front) (part : DumpPart) (text : Text) → front.current ≡ Some part → IsGoing head (with_current front (Some (with_text part text)))
    → front_left (with_current front (Some (with_text part text))) < front_left front
track_falls head front part text at going =
    let next : DumpPart = with_text part text in
    let here = logical head (with_current front (Some next)) next going.is_front refl in
    let one : IsPart head.device next = last_is (IsPart head.device) front.parts next here.parts in
    omega (arith, one.within, length-append part.texts (text ∷ []), ap part_left at, ap length (all_some front part at), length-append front.parts (part ∷ []), length-append front.parts (next ∷ []))

end_falls : (front : Front) (part : DumpPart) → front.current ≡ Some part → front_left (with_part front part) < front_left front
end_falls front part at = omega (arith, ap part_left at, ap length (all_ended front part at))

slot_falls : (head : DumpHead) (front : Front) (bytes : List ℕ) → IsGoing head (with_slot front bytes) → front_left (with_slot front bytes) < front_left front
slot_falls head front bytes going =
    let is = going.is_front in
    let full : head.full ≡ true = slots_full head.full head front bytes is.behind in
    let here : AreSlots head (with_slot front bytes) = slots_by head.full head (with_slot front bytes) full is.behind in
    omega (arith, here.few, is.header.tracks.1, length-append front.slots (bytes ∷ []))

front_falls : (head : DumpHead) (front next : Front) (piece : Piece) → Adds front piece next → IsGoing head next → front_left next < front_left front
front_falls head front next (Part f1 tracks kind) (none, is) going =
    subst (λ (f : Front). front_left f < front_left front) (sym is) (part_falls head front (begun f1 tracks kind) none refl (subst (IsGoing head) is going))
front_falls head front next (Track text) (part, at, is) going =
    subst (λ (f : Front). front_left f < front_left front) (sym is) (track_falls head front part text at (subst (IsGoing head) is going))
front_falls head front next PartEnd (part, at, whole, is) going = subst (λ (f : Front). front_left f < front_left front) (sym is) (end_falls front part at)
front_falls head front next Dropped (part, at, less, is) going = subst (λ (f : Front). front_left f < front_left front) (sym is) (end_falls front part at)
front_falls head front next (Slot number bytes) (at, is) going =
    subst (λ (f : Front). front_left f < front_left front) (sym is) (slot_falls head front bytes (subst (IsGoing head) is going))

-- ---- one piece more

left_falls : (head other : DumpHead) (front next : Front) (piece : Piece) (old new : Standing) → StandsAt head front old → StandsAt other next new → Adds front piece next → IsGoing other next
    → pieces_left new < pieces_left old
left_falls head other front next piece old new stands also adds going =
    omega (arith, front_falls other front next piece adds going, left_at head front old stands, left_at other next new also)

given : (tape : TapeSeen) (reader : ReaderView) (front : Front) (found : Option Piece) → is_some found ≡ true → GivesNext tape reader front found → (piece : Piece) × Gives tape reader front piece
given tape reader front None some gives = cc
given tape reader front (Some piece) some gives = (piece, gives)

whole_given : (tape : TapeSeen) (reader : ReaderView) (front : Front) (found : Option Piece) → is_some found ≡ false → GivesNext tape reader front found → IsWhole tape reader front
whole_given tape reader front None none gives = gives
whole_given tape reader front (Some piece) none gives = cc

-- some front was read
abbrev pub HasFront : TapeSeen → ReaderView → Type 0
HasFront tape reader = (front : Front) × IsReading tape reader front

-- a call gives what comes next, whatever front was read
abbrev pub GivesAny : TapeSeen → ReaderView → TapeSeen → ReaderView → Option Piece → Type 0
GivesAny old before new after found = (front : Front) → IsReading old before front → GivesNext new after front found

pub front_stays : (old new : TapeSeen) (before after : ReaderView) (found : Option Piece) → is_some found ≡ true → GivesAny old before new after found → HasFront old before → HasFront new after
front_stays old new before after found some gives (front, reading) =
    let (piece, (next, adds, read)) = given new after front found some (gives front reading) in
    (next, read)

-- with each piece fewer are left
pub left_less : (old new : TapeSeen) (before after : ReaderView) (found : Option Piece) → is_some found ≡ true → GivesAny old before new after found → HasFront old before
    → pieces_left after.standing < pieces_left before.standing
left_less old new before after found some gives (front, reading) =
    let (piece, (next, adds, read)) = given new after front found some (gives front reading) in
    left_falls before.head after.head front next piece before.standing after.standing reading.stands read.stands adds read.going

-- ---- the end

-- where none comes, the dump is whole
pub some_dump : (old new : TapeSeen) (before after : ReaderView) (found : Option Piece) → is_some found ≡ false → GivesAny old before new after found → HasFront old before
    → HeldSuch new.held (λ whole. (front : Front) × IsDumpText whole after.head front)
some_dump old new before after found none gives (front, reading) =
    held_as_well new.held (λ whole. IsDumpText whole after.head front) (λ whole. (some : Front) × IsDumpText whole after.head some) (λ whole is. (front, is))
    (whole_given new after front found none (gives front reading))

pub some_fault : (tape : TapeSeen) (reader : ReaderView) (held : Option (List ℕ)) (fault : DumpFault) → ((front : Front) → IsReading tape reader front → IsFaultBehind reader.head front held fault)
    → HasFront tape reader → IsDumpFault held fault
some_fault tape reader held fault refused (front, reading) = inr (reader.head, front, reading.is_front, refused front reading)
