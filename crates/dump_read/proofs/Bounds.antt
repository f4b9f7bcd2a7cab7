-- The pieces of a dump fit their fields.
use Rattle.std.proofs.Common.{ℕ, ◌+◌, ◌≤◌, Bool, true, false, if◌then◌else◌, List, [], ◌∷◌, ◌++◌, length, map, All, Option, Some, None, option_to_list, sym, subst, arith, length-append}
use Rattle.std.specs.List.{flat_map, enumerate_from, AllByRecursion}
use Rattle.std.proofs.lemmas.List.Elements.{recursion_from_All, All-nil, All-cons, All-append, All-map, All-weaker, All-push}
use Rattle.ckd_image.specs.declared.device.Device.{Device}
use Rattle.ckd_image.specs.declared.track.TrackAt.{TrackAt}
use Rattle.ckd_image.specs.declared.track.Track.{Track as Text}
use Rattle.ckd_image.specs.Device.{slot_of}
use Rattle.ckd_image.specs.Track.{records_text, home_text, zero_text, end_mark}
use Rattle.dump_fmt.specs.declared.piece.DumpHead.{DumpHead}
use Rattle.dump_fmt.specs.declared.piece.Piece.TheVariants.{Part, Track, PartEnd, Dropped, Slot}
use Rattle.dump_fmt.specs.Parts.{DumpPart, StandsOn, IsPart, is_whole, begun_pieces, part_pieces}
use Rattle.dump_fmt.specs.Front.{Front, IsFront, IsOfKind, IsCutSlot, all_parts, front_pieces, current_pieces, slot_pieces}
use Rattle.dump_read.proofs.Delimited.{IsBounded}
use Rattle.ckd_image.proofs.Devices.{shorter_slot}
use Rattle.dump_fmt.proofs.Sizes.{recs_short}

bounded_track : (device : Device) (track : Text) → StandsOn device track → IsBounded (Track track)
bounded_track device track stands =
    let at : TrackAt = record { cylinder = 0; head = 0 } in
    let home = home_text at track.flag in
    let zeros = zero_text at track.r0 in
    let records = records_text at track.recs in
    let short : length (((home ++ zeros) ++ records) ++ end_mark) ≤ slot_of device = stands.short at in
    let slot = shorter_slot device in
    let some = recs_short at track.recs in
    (stands.sound, omega (arith, some, short, slot, length-append ((home ++ zeros) ++ records) end_mark, length-append (home ++ zeros) records, length-append home zeros))

bounded_begun : (device : Device) (part : DumpPart) → IsPart device part → All IsBounded (begun_pieces part)
bounded_begun device part is =
    All-cons IsBounded (Part part.f1 part.tracks part.kind) (map Track part.texts) (is.placeless.long, (let h = is.few in omega arith))
    (All-map IsBounded Track part.texts (All-weaker (StandsOn device) (λ t. IsBounded (Track t)) (λ t stands. bounded_track device t stands) part.texts is.texts))

bounded_last : (b : Bool) → IsBounded (if b then PartEnd else Dropped)
bounded_last true = tt
bounded_last false = tt

bounded_part : (device : Device) (part : DumpPart) → IsPart device part → All IsBounded (part_pieces part)
bounded_part device part is = All-push IsBounded (begun_pieces part) (if is_whole part then PartEnd else Dropped) (bounded_begun device part is) (bounded_last (is_whole part))

bounded_parts : (device : Device) (parts : List DumpPart) → AllByRecursion (IsPart device) parts → All IsBounded (flat_map part_pieces parts)
bounded_parts device [] is = All-nil IsBounded
bounded_parts device (part ∷ parts) is = All-append IsBounded (part_pieces part) (flat_map part_pieces parts) (bounded_part device part is.0) (bounded_parts device parts is.1)

parts_of : (device : Device) (a b : List DumpPart) → AllByRecursion (IsPart device) (a ++ b) → AllByRecursion (IsPart device) a × AllByRecursion (IsPart device) b
parts_of device [] b is = (tt, is)
parts_of device (x ∷ a) b is = let more = parts_of device a b is.1 in ((is.0, more.0), more.1)

bounded_current : (device : Device) (current : Option DumpPart) → AllByRecursion (IsPart device) (option_to_list current) → All IsBounded (current_pieces current)
bounded_current device None is = All-nil IsBounded
bounded_current device (Some part) is = bounded_begun device part is.0

pub bounded_slots : (device : Device) (n : ℕ) (slots : List (List ℕ)) → n + length slots ≤ 65535 → AllByRecursion (IsCutSlot device) slots
    → All IsBounded (map (λ slot. Slot slot.0 slot.1) (enumerate_from n slots))
bounded_slots device n [] few is = All-nil IsBounded
bounded_slots device n (slot ∷ slots) few is =
    All-cons IsBounded (Slot n slot) (map (λ slot. Slot slot.0 slot.1) (enumerate_from (n + 1) slots)) (omega arith, (let a = is.0.0 in let b = shorter_slot device in omega arith))
    (bounded_slots device (n + 1) slots (omega arith) is.1)

pub bounded_kind : (full : Bool) (head : DumpHead) (front : Front) → head.tracks ≤ 65535 → IsOfKind full head front → All IsBounded (front_pieces front)
bounded_kind true head front few is =
    let parts : All IsBounded (flat_map part_pieces front.parts) = subst (λ (p : List DumpPart). All IsBounded (flat_map part_pieces p)) (sym is.no_parts) (All-nil IsBounded) in
    let current : All IsBounded (current_pieces front.current) = subst (λ (c : Option DumpPart). All IsBounded (current_pieces c)) (sym is.no_current) (All-nil IsBounded) in
    let slots : All IsBounded (slot_pieces front.slots) =
    bounded_slots head.device 0 front.slots (let h = is.few in omega arith) (recursion_from_All (IsCutSlot head.device) front.slots is.slots) in
    All-append IsBounded (flat_map part_pieces front.parts) (current_pieces front.current ++ slot_pieces front.slots) parts
    (All-append IsBounded (current_pieces front.current) (slot_pieces front.slots) current slots)
bounded_kind false head front few is =
    let all = parts_of head.device front.parts (option_to_list front.current) (recursion_from_All (IsPart head.device) (all_parts front) is.parts) in
    let slots : All IsBounded (slot_pieces front.slots) = subst (λ (s : List (List ℕ)). All IsBounded (slot_pieces s)) (sym is.no_slots) (All-nil IsBounded) in
    All-append IsBounded (flat_map part_pieces front.parts) (current_pieces front.current ++ slot_pieces front.slots) (bounded_parts head.device front.parts all.0)
    (All-append IsBounded (current_pieces front.current) (slot_pieces front.slots) (bounded_current head.device front.current all.1) slots)

pub bounded : (head : DumpHead) (front : Front) → IsFront head front → All IsBounded (front_pieces front)
bounded head front is = bounded_kind head.full head front is.header.tracks.1 is.behind
