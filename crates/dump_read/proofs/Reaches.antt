-- No text that may stand behind a mark ends within one of its fields.
use Rattle.std.proofs.Common.{◌≡◌, ℕ, ◌+◌, ◌-◌, ◌*◌, ◌≤◌, ◌<◌, min, List, [], ◌∷◌, ◌++◌, length, take, sum_by, Option, refl, sym, ap, ◌∙◌, arith, length-append, append_assoc}
use Rattle.std.specs.List.{AllByRecursion}
use Rattle.std.proofs.lemmas.List.{length-take}
use Rattle.std.proofs.lemmas.List.Sums.{sum_by-cons}
use Rattle.std.proofs.lemmas.List.Elements.{recursion_from_All}
use Rattle.byteorder.specs.Endian.{big_bytes}
use Rattle.ckd_image.specs.declared.device.Device.{Device}
use Rattle.ckd_image.specs.declared.track.Rec.{Rec}
use Rattle.ckd_image.specs.declared.track.Track.{Track as Text}
use Rattle.ckd_image.specs.Bytes.{Begins}
use Rattle.ckd_image.specs.Device.{slot_of}
use Rattle.ckd_image.specs.Track.{IsRecord}
use Rattle.dump_fmt.specs.Parts.{StandsOn}
use Rattle.dump_fmt.specs.Pieces.{dumped_record, dumped_records}
use Rattle.dump_read.specs.declared.slot.SlotField.{SlotField}
use Rattle.dump_read.specs.declared.slot.SlotField.TheVariants as slot_fields
use Rattle.dump_read.specs.declared.track.TrackField.{TrackField}
use Rattle.dump_read.specs.declared.track.TrackField.TheVariants as fields
use Rattle.dump_read.specs.Ending.{IsEnd}
use Rattle.dump_read.specs.PartText.{IsPartText}
use Rattle.dump_read.specs.SlotText.{slot_text, IsSlotText, HasLength, place_of}
use Rattle.dump_read.specs.TrackFields.{size_of}
use Rattle.dump_read.specs.TrackText.{IsTrackBytes, EndsAtRecord, IsFieldBehind, length_of}
use Rattle.dump_read.proofs.Delimited.{two_bytes, record_apart}
use Rattle.dump_read.proofs.Languages.{part_long, slot_long, slots_long, end_long}
use Rattle.dump_read.proofs.Lifted.{Reaches}
use Rattle.dump_read.proofs.TrackTop.{slot_bounds, records_of}
use Rattle.ckd_image.proofs.OneText.{split_same}

-- ---- parts and ends have one length

pub part_reaches : (before : Option (List ℕ)) (bytes : List ℕ) (place len : ℕ) → min (place + len) (length bytes) ≤ 145 → Reaches (IsPartText before) bytes place len
part_reaches before bytes place len within = λ text is begins. omega (arith, within, part_long before text is)

pub end_reaches : (parts tracks : ℕ) (bytes : List ℕ) (place len : ℕ) → min (place + len) (length bytes) ≤ 40 → Reaches (IsEnd parts tracks) bytes place len
end_reaches parts tracks bytes place len within = λ text is begins. omega (arith, within, end_long parts tracks text is)

-- ---- a slot has as many bytes as its length says

slot_eight : (device : Device) (number : ℕ) (text : List ℕ) → IsSlotText device number text → 8 ≤ length text
slot_eight device number text is = omega (arith, ap length is.spelled, slot_long number is.bytes)

pub slot_reaches : (device : Device) (number : ℕ) (field : SlotField) (bytes : List ℕ) (count : ℕ) → HasLength field number bytes count → Reaches (IsSlotText device number) bytes (place_of field) count
slot_reaches device number slot_fields.Track bytes count has = λ text is begins. omega (arith, has, slot_eight device number text is)
slot_reaches device number slot_fields.Length bytes count has = λ text is begins. omega (arith, has, slot_eight device number text is)
slot_reaches device number slot_fields.Bytes bytes count (few, (rest, has)) = λ text is (more, e).
    let eight : take 8 bytes ≡ big_bytes 4 number ++ big_bytes 4 count = ap (take 8) has in
    let whole : slot_text number is.bytes ≡ big_bytes 4 number ++ (big_bytes 4 count ++ more) = sym is.spelled ∙ e ∙ ap (λ (t : List ℕ). t ++ more) eight in
    omega (arith, ap length is.spelled, slot_long number is.bytes, slots_long device number count is.bytes more is.cut.0 (omega (arith, few)) whole)

-- ---- behind fewer records than its number says a track has one more

pub records_long : (recs : List Rec) → length (dumped_records recs) ≡ 4 * length recs + sum_by size_of recs
records_long [] = refl
records_long (rec ∷ recs) =
    omega (arith, records_long recs, sum_by-cons size_of rec recs, length-append (dumped_record rec) (dumped_records recs), length-append rec.key rec.body)

-- a record that stands at the front of right ones is right
right_record : (rec a : Rec) (x y : List ℕ) → IsRecord a → length rec.body ≤ 65535 → dumped_record rec ++ x ≡ dumped_record a ++ y → IsRecord rec
right_record rec a x y is short e =
    let number : rec.r ≡ a.r = cc in
    let keys : length rec.key ≡ length a.key = cc in
    record { numbered = omega (arith, is.numbered, number); number_fits = omega (arith, is.number_fits, number); key_fits = omega (arith, is.key_fits, keys); body_fits = short }

one_record_more : (recs all : List Rec) (more : List ℕ) → AllByRecursion IsRecord all → length recs < length all → length (dumped_records all) ≤ 65535 → dumped_records all ≡ dumped_records recs ++ more
    → length (dumped_records recs) + 4 ≤ length (dumped_records all)
one_record_more [] [] more each less few e = absurd (omega (arith, less))
one_record_more [] (a ∷ all) more each less few e = omega (arith, records_long (a ∷ all))
one_record_more (rec ∷ recs) [] more each less few e = absurd (omega (arith, less))
one_record_more (rec ∷ recs) (a ∷ all) more each less few e =
    let split : dumped_record rec ++ (dumped_records recs ++ more) ≡ dumped_record a ++ dumped_records all = sym (append_assoc (dumped_record rec) (dumped_records recs) more) ∙ sym e in
    let size : length (dumped_record rec) ≡ 4 + size_of rec = omega (arith, length-append rec.key rec.body) in
    let short : length rec.body ≤ 65535 =
    omega (arith, few, ap length e, length-append (dumped_record rec ++ dumped_records recs) more, length-append (dumped_record rec) (dumped_records recs), size) in
    let both = record_apart rec a (dumped_records recs ++ more) (dumped_records all) (right_record rec a (dumped_records recs ++ more) (dumped_records all) each.0 short split) each.0 split in
    let first : length (dumped_record a) ≡ length (dumped_record rec) = ap (λ (r : Rec). length (dumped_record r)) (sym both.0) in
    let joined = length-append (dumped_record a) (dumped_records all) in
    let inner = one_record_more recs all more each.1 (omega (arith, less)) (omega (arith, few, joined)) (sym both.1) in
    omega (arith, inner, first, joined, length-append (dumped_record rec) (dumped_records recs))

short_records : (device : Device) (track : Text) → StandsOn device track → (length track.recs ≤ 65535) × (length (dumped_records track.recs) ≤ 65535)
short_records device track on =
    let bounds = slot_bounds device in
    let records = records_of device (slot_of device - 29) track (omega (arith, bounds.0)) on in
    (omega (arith, records.0, bounds.1), omega (arith, records.0, records.1.within, bounds.1, records_long track.recs))

-- so a record more, of four bytes at least, stands behind these bytes
record_more : (device : Device) (front text : List ℕ) (is : EndsAtRecord front) → IsTrackBytes device text → Begins front text → length front + 4 ≤ length text
record_more device front text is (track, on, spelled) (more, e) =
    let few = short_records device track on in
    let behind : List ℕ = big_bytes 2 is.count ++ dumped_records is.recs in
    let counted : List ℕ = big_bytes 2 (length track.recs) ++ dumped_records track.recs in
    let whole : track.flag ∷ (track.r0 ++ counted) ≡ is.flag ∷ ((is.r0 ++ behind) ++ more) = sym spelled ∙ e ∙ ap (λ (t : List ℕ). t ++ more) is.spelled in
    let tails : track.r0 ++ counted ≡ (is.r0 ++ behind) ++ more = cc in
    let zeros = split_same track.r0 is.r0 counted (behind ++ more) (on.sound.zero ∙ sym is.zero) (tails ∙ append_assoc is.r0 behind more) in
    let counts = split_same (big_bytes 2 (length track.recs)) (big_bytes 2 is.count) (dumped_records track.recs) (dumped_records is.recs ++ more) refl
    (zeros.1 ∙ append_assoc (big_bytes 2 is.count) (dumped_records is.recs) more) in
    let same : length track.recs ≡ is.count = two_bytes (length track.recs) is.count few.0 is.few counts.0 in
    let inner = one_record_more is.recs track.recs more (recursion_from_All IsRecord track.recs on.sound.records) (omega (arith, is.more, same)) few.1 counts.1 in
    omega (arith, inner, ap length spelled, ap length is.spelled, length-append track.r0 counted, length-append is.r0 behind, on.sound.zero, is.zero)

-- ---- tracks

eleven : (device : Device) (text : List ℕ) → IsTrackBytes device text → 11 ≤ length text
eleven device text (track, on, is) =
    omega (arith, ap length is, length-append track.r0 (big_bytes 2 (length track.recs) ++ dumped_records track.recs), on.sound.zero)

-- where a field of a track begins it ends within the track
field_ends : (device : Device) (field : TrackField) (front text : List ℕ) → IsFieldBehind field front → IsTrackBytes device text → Begins front text
    → length front + length_of field ≤ length text
field_ends device fields.Records front text is track begins = omega (arith, is, eleven device text track)
field_ends device fields.Number front text is track begins = omega (arith, record_more device front text is track begins)
field_ends device fields.Key front text (before, r, is, spelled) track (more, e) =
    let begins : Begins before text = (r ∷ more, e ∙ ap (λ (t : List ℕ). t ++ more) spelled ∙ append_assoc before (r ∷ []) more) in
    omega (arith, record_more device before text is track begins, ap length spelled, length-append before (r ∷ []))
field_ends device fields.Body front text (before, r, key, is, spelled) track (more, e) =
    let begins : Begins before text = (r ∷ key ∷ more, e ∙ ap (λ (t : List ℕ). t ++ more) spelled ∙ append_assoc before (r ∷ key ∷ []) more) in
    omega (arith, record_more device before text is track begins, ap length spelled, length-append before (r ∷ key ∷ []))

pub track_reaches : (device : Device) (field : TrackField) (bytes : List ℕ) (place : ℕ) → IsFieldBehind field (take place bytes)
    → Reaches (IsTrackBytes device) bytes place (length_of field)
track_reaches device field bytes place is = λ text track begins. omega (arith, field_ends device field (take place bytes) text is track begins, length-take place bytes)
