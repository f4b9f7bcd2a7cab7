-- Why a track isn't read, from its front on.
use Rattle.std.proofs.Common.{◌≡◌, ℕ, zero, suc, ◌+◌, ◌-◌, ◌*◌, ◌/◌, ◌≤◌, ◌<◌, List, [], ◌∷◌, ◌++◌, length, take, replicate, sum_by, refl, sym, ap, subst, ◌∙◌, arith, length-append, append_assoc}
use Rattle.std.proofs.lemmas.List.{append-nil, length-replicate}
use Rattle.std.proofs.lemmas.List.Sums.{sum_by-cons}
use Rattle.byteorder.specs.Endian.{big_bytes}
use Rattle.ckd_image.specs.declared.device.Device.{Device}
use Rattle.ckd_image.specs.declared.device.Device.TheVariants.{D3390, D3380, D3350}
use Rattle.ckd_image.specs.declared.track.TrackAt.{TrackAt}
use Rattle.ckd_image.specs.declared.track.Rec.{Rec}
use Rattle.ckd_image.specs.declared.track.Track.{Track as Text}
use Rattle.ckd_image.specs.Device.{slot_of}
use Rattle.ckd_image.specs.Track.{record_text, records_text, home_text, zero_text, end_mark, track_text}
use Rattle.dump_fmt.specs.Parts.{StandsOn}
use Rattle.dump_fmt.specs.Pieces.{dumped_records, dumped_track}
use Rattle.dump_read.specs.declared.track.TrackField.{TrackField}
use Rattle.dump_read.specs.declared.track.TrackField.TheVariants as fields
use Rattle.dump_read.specs.declared.track.TrackStop.{TrackStop}
use Rattle.dump_read.specs.declared.track.TrackStop.TheVariants.{Wrong, Cut, NoMemory}
use Rattle.dump_read.specs.Fields.{IsFirstWrong}
use Rattle.dump_read.specs.TrackText.{length_of, IsTrackBytes, EndsAtRecord, IsFieldBehind, IsTrackStop, IsTrackRead}
use Rattle.dump_read.specs.TrackFields.{IsNumberStop, size_of, IsInRecord, AreRecords, AreRecordsText, AreRecordsStop}
use Rattle.dump_read.proofs.Chains.{Then, wrong_here}
use Rattle.dump_read.proofs.PartChain.{take_length}
use Rattle.dump_read.proofs.Delimited.{two_bytes}
use Rattle.dump_read.proofs.Leaves.{Leaves, leaves_both, leaves_field, wrong_lifted, cut_lifted, cut_here}
use Rattle.dump_read.proofs.TrackRecords.{records_there}
use Rattle.ckd_image.proofs.OneText.{split_same}

-- ---- what a track takes of a slot

pub slot_bounds : (device : Device) → (29 ≤ slot_of device) × (slot_of device ≤ 65535)
slot_bounds D3390 = (omega arith, omega arith)
slot_bounds D3380 = (omega arith, omega arith)
slot_bounds D3350 = (omega arith, omega arith)

record_long : (at : TrackAt) (rec : Rec) → length (record_text at rec) ≡ 8 + size_of rec
record_long at rec = omega (arith, length-append rec.key rec.body)

records_long : (at : TrackAt) (recs : List Rec) → length (records_text at recs) ≡ 8 * length recs + sum_by size_of recs
records_long at [] = refl
records_long at (rec ∷ recs) =
    omega (arith, records_long at recs, record_long at rec, sum_by-cons size_of rec recs, length-append (record_text at rec) (records_text at recs))

track_long : (at : TrackAt) (track : Text) → length track.r0 ≡ 8 → length (track_text at track) ≡ 29 + (8 * length track.recs + sum_by size_of track.recs)
track_long at track eight =
    let home = home_text at track.flag in
    let zeros = zero_text at track.r0 in
    let records = records_text at track.recs in
    let whole : length (((home ++ zeros) ++ records) ++ end_mark) ≡ 29 + (8 * length track.recs + sum_by size_of track.recs) =
    omega (arith, eight, records_long at track.recs, length-append ((home ++ zeros) ++ records) end_mark, length-append (home ++ zeros) records, length-append home zeros) in
    whole

-- the room is for this many bytes beside those of a track without records
abbrev pub IsRoom : Device → ℕ → Type 0
IsRoom device room = room + 29 ≡ slot_of device

stands_on : (device : Device) (room : ℕ) (track : Text) → IsRoom device room → length track.r0 ≡ 8 → 8 * length track.recs ≤ room → AreRecords (room - 8 * length track.recs) (length track.recs) track.recs → StandsOn device track
stands_on device room track is eight few are = record {
  sound = record { zero = eight; records = are.each };
  short = λ at. omega (arith, track_long at track eight, is, few, are.within);
}

-- ---- what may stand behind flag and record 0

abbrev pub FromCount : ℕ → List ℕ → Type 0
FromCount room = Then (λ count. count ≤ room / 8) (big_bytes 2) (λ count. AreRecordsText (room - 8 * count) count)

front_on : (device : Device) (room flag : ℕ) (r0 : List ℕ) → IsRoom device room → length r0 ≡ 8 → (t : List ℕ) → FromCount room t → IsTrackBytes device (flag ∷ (r0 ++ t))
front_on device room flag r0 is eight t counted =
    let recs = counted.behind.0 in
    let are = counted.behind.1 in
    let same : length recs ≡ counted.value = are.number in
    let few = counted.may in
    let here : AreRecords (room - 8 * length recs) (length recs) recs = subst (λ (n : ℕ). AreRecords (room - 8 * n) n recs) (sym same) are in
    let spelled : t ≡ big_bytes 2 (length recs) ++ dumped_records recs = counted.spelled ∙ ap (λ (s : List ℕ). big_bytes 2 counted.value ++ s) counted.behind.2 ∙ ap (λ (n : ℕ). big_bytes 2 n ++ dumped_records recs) (sym same) in (
      record { flag = flag; r0 = r0; recs = recs },
      stands_on device room (record { flag = flag; r0 = r0; recs = recs }) is eight (omega (arith, few, same)) here,
      ap (λ (s : List ℕ). flag ∷ (r0 ++ s)) spelled,
    )

some_address : TrackAt
some_address = record { cylinder = 0; head = 0 }

pub records_of : (device : Device) (room : ℕ) (track : Text) → IsRoom device room → StandsOn device track → (length track.recs ≤ room / 8) × AreRecords (room - 8 * length track.recs) (length track.recs) track.recs
records_of device room track is stands =
    let long = track_long some_address track stands.sound.zero in
    let short = stands.short some_address in
    (omega (arith, long, short, is), record { each = stands.sound.records; number = refl; within = omega (arith, long, short, is) })

front_only : (device : Device) (room flag : ℕ) (r0 : List ℕ) → IsRoom device room → length r0 ≡ 8 → (t : List ℕ) → IsTrackBytes device (flag ∷ (r0 ++ t)) → FromCount room t
front_only device room flag r0 is eight t (track, stands, e) =
    let tails : r0 ++ t ≡ track.r0 ++ (big_bytes 2 (length track.recs) ++ dumped_records track.recs) = cc in
    let both = split_same r0 track.r0 t (big_bytes 2 (length track.recs) ++ dumped_records track.recs) (eight ∙ sym stands.sound.zero) tails in
    let records = records_of device room track is stands in
    record { value = length track.recs; may = records.0; rest = dumped_records track.recs; behind = (track.recs, records.1, refl); spelled = both.1 }

front_leaves : (device : Device) (room flag : ℕ) (r0 : List ℕ) → IsRoom device room → length r0 ≡ 8 → Leaves (IsTrackBytes device) (flag ∷ r0) (FromCount room)
front_leaves device room flag r0 is eight = record { on = front_on device room flag r0 is eight; only = front_only device room flag r0 is eight }

count_leaves : (device : Device) (room count : ℕ) → IsRoom device room → count ≤ room / 8 → Leaves (FromCount room) (big_bytes 2 count) (AreRecordsText (room - 8 * count) count)
count_leaves device room count is few =
    let small = (slot_bounds device).1 in
    leaves_field (λ count. count ≤ room / 8) (big_bytes 2) (λ count. AreRecordsText (room - 8 * count) count) 2 (λ x may. refl) count few
    (λ other t may same behind.
    let one : count ≡ other = two_bytes count other (omega (arith, small, is, few)) (omega (arith, small, is, may)) same in
    subst (λ (n : ℕ). AreRecordsText (room - 8 * n) n t) (sym one) behind)

-- ---- the front is cut

some_room : (device : Device) → (room : ℕ) × IsRoom device room
some_room device = let bounds = slot_bounds device in (slot_of device - 29, omega (arith, bounds.0))

-- a track without records
none_counted : (room : ℕ) → (t : List ℕ) × FromCount room t
none_counted room =
    let some = records_there (room - 8 * 0) 0 in
    (big_bytes 2 0 ++ some.0, record { value = 0; may = omega arith; rest = some.0; behind = some.1; spelled = refl })

pub flag_cut : (device : Device) (bytes : List ℕ) → length bytes ≡ 0 → IsTrackStop device bytes Cut
flag_cut device [] none =
    let room = some_room device in
    let counted = none_counted room.0 in
    let text : List ℕ = 0 ∷ (replicate 8 0 ++ counted.0) in
    (text, front_on device room.0 0 (replicate 8 0) room.1 refl counted.0 counted.1, (text, refl), omega arith)
flag_cut device (x ∷ bytes) none = absurd (omega arith)

pub zero_cut : (device : Device) (flag : ℕ) (bytes rest : List ℕ) → bytes ≡ flag ∷ rest → length rest < 8 → IsTrackStop device bytes Cut
zero_cut device flag bytes rest there short =
    let room = some_room device in
    let fill : List ℕ = replicate (8 - length rest) 0 in
    let r0 : List ℕ = rest ++ fill in
    let long : length r0 ≡ 8 = omega (arith, length-append rest fill, length-replicate {A = ℕ} (8 - length rest) 0, short) in
    let counted = none_counted room.0 in
    let text : List ℕ = flag ∷ (r0 ++ counted.0) in
    let more : List ℕ = fill ++ counted.0 in
    let begins : text ≡ bytes ++ more = ap (λ (t : List ℕ). flag ∷ t) (append_assoc rest fill counted.0) ∙ ap (λ (t : List ℕ). t ++ more) (sym there) in (
      text,
      front_on device room.0 flag r0 room.1 long counted.0 counted.1,
      (more, begins),
      omega (arith, ap length there, length-append r0 counted.0, long, short),
    )

-- ---- the number of records

pub count_stop : (device : Device) (room flag : ℕ) (bytes zeroed r0 rest : List ℕ) (stop : TrackStop) → IsRoom device room → bytes ≡ flag ∷ zeroed → zeroed ≡ r0 ++ rest → length r0 ≡ 8
    → IsNumberStop fields.Records 9 (room / 8) rest stop → IsTrackStop device bytes stop
count_stop device room flag bytes zeroed r0 rest (Wrong found at) is first second long (same, there, none) =
    let all : bytes ≡ (flag ∷ r0) ++ rest = first ∙ ap (λ (t : List ℕ). flag ∷ t) second in
    let some = records_there (room - 8 * 0) 0 in
    let inner = wrong_here (λ count. count ≤ room / 8) (big_bytes 2) (λ count. AreRecordsText (room - 8 * count) count) 2 (λ x may. refl) rest some.0 0 (omega arith) some.1 none in
    let lifted = wrong_lifted (IsTrackBytes device) (flag ∷ r0) (FromCount room) (front_leaves device room flag r0 is long) bytes rest 0 2 all inner in
    let place : length (flag ∷ r0) + 0 ≡ at = omega (arith, long, there) in
    let nine : length (take at bytes) ≡ 9 =
    ap (λ (n : ℕ). length (take n bytes)) there ∙ ap (λ (t : List ℕ). length (take 9 t)) all ∙ ap length (take_length (flag ∷ r0) rest 9 (omega (arith, long))) ∙ omega (arith, long) in (
      subst (λ (f : TrackField). IsFieldBehind f (take at bytes)) (sym same) nine,
      subst (λ (f : TrackField). IsFirstWrong (IsTrackBytes device) bytes at (length_of f)) (sym same) (subst (λ (p : ℕ). IsFirstWrong (IsTrackBytes device) bytes p 2) place lifted),
    )
count_stop device room flag bytes zeroed r0 rest Cut is first second long (short, (count, may, begins)) =
    let all : bytes ≡ (flag ∷ r0) ++ rest = first ∙ ap (λ (t : List ℕ). flag ∷ t) second in
    let some = records_there (room - 8 * count) count in
    cut_lifted (IsTrackBytes device) (flag ∷ r0) (FromCount room) (front_leaves device room flag r0 is long) bytes rest all
    (cut_here (λ count. count ≤ room / 8) (big_bytes 2) (λ count. AreRecordsText (room - 8 * count) count) 2 (λ x may. refl) count some.0 rest may some.1 begins short)
count_stop device room flag bytes zeroed r0 rest NoMemory is first second long stop = absurd stop

-- ---- the records

-- a field of a record begins behind these records and so many of its bytes
field_behind : (field : TrackField) (within flag count : ℕ) (r0 rest : List ℕ) (recs : List Rec) (front : List ℕ) → IsInRecord field within → length r0 ≡ 8 → count ≤ 65535 → length recs < count → within ≤ length rest
    → front ≡ (flag ∷ []) ++ (r0 ++ (big_bytes 2 count ++ dumped_records recs)) → IsFieldBehind field (front ++ take within rest)
field_behind fields.Records within flag count r0 rest recs front is_in long few more within_rest is = absurd is_in
field_behind fields.Number within flag count r0 rest recs front is_in long few more within_rest is =
    let ends : EndsAtRecord front = record { flag = flag; r0 = r0; count = count; recs = recs; zero = long; few = few; more = more; spelled = is } in
    let none : front ≡ front ++ take within rest = sym (append-nil front) ∙ ap (λ (n : ℕ). front ++ take n rest) (sym is_in) in
    subst EndsAtRecord none ends
field_behind fields.Key within flag count r0 [] recs front is_in long few more within_rest is = absurd (omega (arith, is_in, within_rest))
field_behind fields.Key within flag count r0 (x ∷ rest) recs front is_in long few more within_rest is =
    (front, x, record { flag = flag; r0 = r0; count = count; recs = recs; zero = long; few = few; more = more; spelled = is }, ap (λ (n : ℕ). front ++ take n (x ∷ rest)) is_in)
field_behind fields.Body within flag count r0 [] recs front is_in long few more within_rest is = absurd (omega (arith, is_in, within_rest))
field_behind fields.Body within flag count r0 (x ∷ []) recs front is_in long few more within_rest is = absurd (omega (arith, is_in, within_rest))
field_behind fields.Body within flag count r0 (x ∷ y ∷ rest) recs front is_in long few more within_rest is =
    (front, x, y, record { flag = flag; r0 = r0; count = count; recs = recs; zero = long; few = few; more = more; spelled = is }, ap (λ (n : ℕ). front ++ take n (x ∷ y ∷ rest)) is_in)

take_behind : (front rest : List ℕ) (n k : ℕ) → n ≡ length front + k → take n (front ++ rest) ≡ front ++ take k rest
take_behind [] rest n k is = ap (λ (m : ℕ). take m rest) (let e : n ≡ k = omega (arith, is) in e)
take_behind (x ∷ front) rest zero k is = absurd (omega (arith, is))
take_behind (x ∷ front) rest (suc n) k is = ap (λ (t : List ℕ). x ∷ t) (take_behind front rest n k (omega (arith, is)))

pub records_stop : (device : Device) (room flag count : ℕ) (bytes zeroed r0 counted rest : List ℕ) (stop : TrackStop) → IsRoom device room → bytes ≡ flag ∷ zeroed → zeroed ≡ r0 ++ counted → length r0 ≡ 8
    → count ≤ room / 8 → counted ≡ big_bytes 2 count ++ rest → AreRecordsStop (room - 8 * count) count 11 rest stop → IsTrackStop device bytes stop
records_stop device room flag count bytes zeroed r0 counted rest (Wrong field at) is first second long few third bad =
    let front : List ℕ = (flag ∷ r0) ++ big_bytes 2 count in
    let all : bytes ≡ front ++ rest = first ∙ ap (λ (t : List ℕ). flag ∷ t) (second ∙ ap (λ (t : List ℕ). r0 ++ t) third) ∙ sym (append_assoc (flag ∷ r0) (big_bytes 2 count) rest) in
    let leaves = leaves_both (IsTrackBytes device) (FromCount room) (AreRecordsText (room - 8 * count) count) (flag ∷ r0) (big_bytes 2 count) (front_leaves device room flag r0 is long) (count_leaves device room count is few) in
    let within : ℕ = length (dumped_records bad.recs) + bad.within in
    let eleven : length front ≡ 11 = omega (arith, long, length-append (flag ∷ r0) (big_bytes 2 count)) in
    let place : length front + within ≡ at = omega (arith, eleven, bad.place_is) in
    let slot = (slot_bounds device).1 in
    let fits : count ≤ 65535 = omega (arith, few, is, slot) in
    let before : List ℕ = front ++ dumped_records bad.recs in
    let inside : bad.within ≤ length bad.rest =
    omega (arith, ap length bad.spelled, length-append (dumped_records bad.recs) bad.rest, ap length bad.wrong.spelled, length-append bad.wrong.front bad.wrong.rest, bad.wrong.place_is) in
    let whole : bytes ≡ before ++ bad.rest = all ∙ ap (λ (t : List ℕ). front ++ t) bad.spelled ∙ sym (append_assoc front (dumped_records bad.recs) bad.rest) in
    let spelled : before ≡ (flag ∷ []) ++ (r0 ++ (big_bytes 2 count ++ dumped_records bad.recs)) = append_assoc (flag ∷ r0) (big_bytes 2 count) (dumped_records bad.recs) in
    let there : take at bytes ≡ before ++ take bad.within bad.rest =
    ap (take at) whole ∙ take_behind before bad.rest at bad.within (omega (arith, place, length-append front (dumped_records bad.recs))) in (
      subst (IsFieldBehind field) (sym there) (field_behind field bad.within flag count r0 bad.rest bad.recs before bad.is_in long fits bad.more inside spelled),
      subst (λ (p : ℕ). IsFirstWrong (IsTrackBytes device) bytes p (length_of field)) place
          (wrong_lifted (IsTrackBytes device) front (AreRecordsText (room - 8 * count) count) leaves bytes rest within (length_of field) all bad.wrong),
    )
records_stop device room flag count bytes zeroed r0 counted rest Cut is first second long few third cut =
    let front : List ℕ = (flag ∷ r0) ++ big_bytes 2 count in
    let all : bytes ≡ front ++ rest = first ∙ ap (λ (t : List ℕ). flag ∷ t) (second ∙ ap (λ (t : List ℕ). r0 ++ t) third) ∙ sym (append_assoc (flag ∷ r0) (big_bytes 2 count) rest) in
    let leaves = leaves_both (IsTrackBytes device) (FromCount room) (AreRecordsText (room - 8 * count) count) (flag ∷ r0) (big_bytes 2 count) (front_leaves device room flag r0 is long) (count_leaves device room count is few) in
    cut_lifted (IsTrackBytes device) front (AreRecordsText (room - 8 * count) count) leaves bytes rest all cut
records_stop device room flag count bytes zeroed r0 counted rest NoMemory is first second long few third stop = tt

-- ---- all of it is read

track_spelled : (track : Text) (count : ℕ) (bytes zeroed counted behind rest : List ℕ) → bytes ≡ track.flag ∷ zeroed → zeroed ≡ track.r0 ++ counted → counted ≡ big_bytes 2 count ++ behind
    → behind ≡ dumped_records track.recs ++ rest → length track.recs ≡ count → bytes ≡ dumped_track track ++ rest
track_spelled track count bytes zeroed counted behind rest first second third fourth number =
    let tail : counted ≡ (big_bytes 2 (length track.recs) ++ dumped_records track.recs) ++ rest =
    third ∙ ap (λ (t : List ℕ). big_bytes 2 count ++ t) fourth ∙ ap (λ (n : ℕ). big_bytes 2 n ++ (dumped_records track.recs ++ rest)) (sym number) in
    first ∙ ap (λ (t : List ℕ). track.flag ∷ t) (second ∙ ap (λ (t : List ℕ). track.r0 ++ t) tail ∙ sym (append_assoc track.r0 (big_bytes 2 (length track.recs) ++ dumped_records track.recs) rest))

pub track_read : (device : Device) (room count size : ℕ) (track : Text) (bytes zeroed counted behind rest : List ℕ) → IsRoom device room → bytes ≡ track.flag ∷ zeroed → zeroed ≡ track.r0 ++ counted
    → length track.r0 ≡ 8 → count ≤ room / 8 → counted ≡ big_bytes 2 count ++ behind → AreRecords (room - 8 * count) count track.recs → behind ≡ dumped_records track.recs ++ rest
    → size ≡ length bytes - length rest → IsTrackRead device bytes track size
track_read device room count size track bytes zeroed counted behind rest is first second long few third are fourth size_is =
    let all = track_spelled track count bytes zeroed counted behind rest first second third fourth are.number in
    record {
      stands = stands_on device room track is long (omega (arith, few, are.number)) (subst (λ (n : ℕ). AreRecords (room - 8 * n) n track.recs) (sym are.number) are);
      begins = (rest, all);
      all = omega (arith, size_is, ap length all, length-append (dumped_track track) rest);
    }
