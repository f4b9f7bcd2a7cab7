-- Records of a dumped track one after the other, and why they aren't read.
use Rattle.std.proofs.Common.{◌≡◌, ℕ, zero, suc, ◌+◌, ◌-◌, ◌≤◌, ◌<◌, List, [], ◌∷◌, ◌++◌, length, take, sum_by, All, refl, sym, ap, subst, arith, length-append}
use Rattle.std.specs.List.{AllByRecursion}
use Rattle.std.proofs.lemmas.List.{length-take}
use Rattle.std.proofs.lemmas.List.Sums.{sum_by-cons, sum_by_push}
use Rattle.std.proofs.lemmas.List.Elements.{recursion_from_All, All-nil, All-cons, All-tail, All-push}
use Rattle.ckd_image.specs.declared.track.Rec.{Rec}
use Rattle.ckd_image.specs.Bytes.{Begins}
use Rattle.ckd_image.specs.Track.{IsRecord}
use Rattle.ckd_image.proofs.Texts.{texts_push}
use Rattle.dump_fmt.specs.Pieces.{dumped_record, dumped_records}
use Rattle.dump_read.specs.declared.track.TrackField.{TrackField}
use Rattle.dump_read.specs.declared.track.TrackField.TheVariants as fields
use Rattle.dump_read.specs.declared.track.TrackStop.{TrackStop}
use Rattle.dump_read.specs.declared.track.TrackStop.TheVariants.{Wrong, Cut, NoMemory}
use Rattle.dump_read.specs.Fields.{GoesOn}
use Rattle.dump_read.specs.TrackText.{length_of}
use Rattle.dump_read.specs.TrackFields.{size_of, IsRecordText, IsRecordRead, IsInRecord, IsRecordStop, AreRecords, AreRecordsText, AreRecordsStop}
use Rattle.dump_read.proofs.Chains.{within_first, front_of_more}
use Rattle.dump_read.proofs.Delimited.{record_apart}
use Rattle.dump_read.proofs.Leaves.{Leaves, leaves_both, wrong_lifted, cut_lifted}

-- ---- records of no bytes

abbrev empty : Rec
empty = record { r = 1; key = []; body = [] }

empties : (room n : ℕ) → (recs : List Rec) × AreRecords room n recs
empties room zero = ([], record { each = All-nil IsRecord; number = refl; within = omega arith })
empties room (suc n) =
    let more = empties room n in
    let sound : IsRecord empty = record { numbered = omega arith; number_fits = omega arith; key_fits = omega arith; body_fits = omega arith } in (
      empty ∷ more.0,
      record { each = All-cons IsRecord empty more.0 sound more.1.each; number = ap suc more.1.number; within = omega (arith, sum_by-cons size_of empty more.0, more.1.within) },
    )

pub records_there : (room n : ℕ) → (text : List ℕ) × AreRecordsText room n text
records_there room n = let some = empties room n in (dumped_records some.0, (some.0, some.1, refl))

-- ---- a record and more of them

joined : (room n : ℕ) (rec : Rec) (recs : List Rec) → IsRecord rec → size_of rec ≤ room → AreRecords (room - size_of rec) n recs → AreRecords room (suc n) (rec ∷ recs)
joined room n rec recs sound within are = record {
  each = All-cons IsRecord rec recs sound are.each;
  number = ap suc are.number;
  within = omega (arith, sum_by-cons size_of rec recs, are.within, within);
}

pub parted : (room n : ℕ) (rec : Rec) (recs : List Rec) → AreRecords room (suc n) (rec ∷ recs) → IsRecord rec × (size_of rec ≤ room) × AreRecords (room - size_of rec) n recs
parted room n rec recs are =
    let both = recursion_from_All IsRecord (rec ∷ recs) are.each in
    let sum = sum_by-cons size_of rec recs in
    let within = are.within in
    let number = are.number in
    (both.0, omega (arith, sum, within), record { each = All-tail IsRecord rec recs are.each; number = omega (arith, number); within = omega (arith, sum, within) })

behind_first : (room n : ℕ) (rec : Rec) → IsRecord rec → (t : List ℕ) (recs : List Rec) → AreRecords room (suc n) recs → dumped_record rec ++ t ≡ dumped_records recs → AreRecordsText (room - size_of rec) n t
behind_first room n rec sound t [] are e = absurd (let number = are.number in omega arith)
behind_first room n rec sound t (other ∷ recs) are e =
    let parts = parted room n other recs are in
    let both = record_apart rec other t (dumped_records recs) sound parts.0 e in
    (recs, subst (λ (r : Rec). AreRecords (room - size_of r) n recs) (sym both.0) parts.2, both.1)

first_leaves : (room n : ℕ) (rec : Rec) → IsRecord rec → size_of rec ≤ room → Leaves (AreRecordsText room (suc n)) (dumped_record rec) (AreRecordsText (room - size_of rec) n)
first_leaves room n rec sound within = record {
  on = λ t (recs, are, e). (rec ∷ recs, joined room n rec recs sound within are, ap (λ (s : List ℕ). dumped_record rec ++ s) e);
  only = λ t (recs, are, e). behind_first room n rec sound t recs are e;
}

-- so do several of them
pub records_leave : (recs : List Rec) (whole room count left : ℕ) → AllByRecursion IsRecord recs → sum_by size_of recs + room ≡ whole → length recs + left ≡ count
    → Leaves (AreRecordsText whole count) (dumped_records recs) (AreRecordsText room left)
records_leave [] whole room count left each sizes number =
    let rooms : whole ≡ room = omega (arith, sizes) in
    let counts : count ≡ left = omega (arith, number) in
    record {
      on = λ t is. subst (λ (w : ℕ). AreRecordsText w count t) (sym rooms) (subst (λ (c : ℕ). AreRecordsText room c t) (sym counts) is);
      only = λ t is. subst (λ (c : ℕ). AreRecordsText room c t) counts (subst (λ (w : ℕ). AreRecordsText w count t) rooms is);
    }
records_leave (rec ∷ recs) whole room zero left each sizes number = absurd (omega arith)
records_leave (rec ∷ recs) whole room (suc count) left each sizes number =
    let sum = sum_by-cons size_of rec recs in
    let within : size_of rec ≤ whole = omega (arith, sum, sizes) in
    let inner = records_leave recs (whole - size_of rec) room count left each.1 (omega (arith, sum, sizes)) (omega (arith, number)) in
    leaves_both (AreRecordsText whole (suc count)) (AreRecordsText (whole - size_of rec) count) (AreRecordsText room left) (dumped_record rec) (dumped_records recs) (first_leaves whole count rec each.0 within) inner

-- ---- why the first of them isn't read

more_goes : (room n : ℕ) (x : List ℕ) → GoesOn (IsRecordText room) x → GoesOn (AreRecordsText room (suc n)) x
more_goes room n x (text, (rec, sound, within, is), begins) =
    let some = empties (room - size_of rec) n in
    (dumped_records (rec ∷ some.0), (rec ∷ some.0, joined room n rec some.0 sound within some.1, refl), front_of_more x (dumped_record rec) (dumped_records some.0) (subst (Begins x) is begins))

pub first_goes : (room n : ℕ) (x : List ℕ) (recs : List Rec) → length x ≤ 4 → AreRecords room (suc n) recs → Begins x (dumped_records recs) → GoesOn (IsRecordText room) x
first_goes room n x [] short are begins = absurd (let number = are.number in omega arith)
first_goes room n x (rec ∷ recs) short are begins =
    let parts = parted room n rec recs are in
    (dumped_record rec, (rec, parts.0, parts.1, refl), within_first x (dumped_record rec) (dumped_records recs) (omega (arith, short)) begins)

fewer_goes : (room n : ℕ) (x : List ℕ) → length x ≤ 4 → GoesOn (AreRecordsText room (suc n)) x → GoesOn (IsRecordText room) x
fewer_goes room n x short (text, (recs, are, is), begins) = first_goes room n x recs short are (subst (Begins x) is begins)

-- a field of a record ends behind no more than four bytes
in_four : (field : TrackField) (within : ℕ) → IsInRecord field within → within + length_of field ≤ 4
in_four fields.Records within is = absurd is
in_four fields.Number within is = omega (arith, is)
in_four fields.Key within is = omega (arith, is)
in_four fields.Body within is = omega (arith, is)

pub first_stop : (room n start : ℕ) (bytes : List ℕ) (stop : TrackStop) → IsRecordStop (IsRecordText room) start bytes stop → IsRecordStop (AreRecordsText room (suc n)) start bytes stop
first_stop room n start bytes (Wrong field place) (within, is_in, at, wrong) = (
  within,
  is_in,
  at,
  record {
    front = wrong.front;
    rest = wrong.rest;
    spelled = wrong.spelled;
    place_is = wrong.place_is;
    begun = more_goes room n wrong.front wrong.begun;
    wrong = λ goes.
        let four = in_four field within is_in in
        let short : length (wrong.front ++ take (length_of field) wrong.rest) ≤ 4 = omega (arith, four, length-append wrong.front (take (length_of field) wrong.rest), length-take (length_of field) wrong.rest, wrong.place_is) in
        wrong.wrong (fewer_goes room n (wrong.front ++ take (length_of field) wrong.rest) short goes);
  },
)
first_stop room n start bytes Cut (text, (rec, sound, within, is), begins, short) =
    let some = empties (room - size_of rec) n in (
      dumped_records (rec ∷ some.0),
      (rec ∷ some.0, joined room n rec some.0 sound within some.1, refl),
      front_of_more bytes (dumped_record rec) (dumped_records some.0) (subst (Begins bytes) is begins),
      omega (arith, short, ap length is, length-append (dumped_record rec) (dumped_records some.0)),
    )
first_stop room n start bytes NoMemory stop = tt

-- ---- a loop over them

-- these records were read of so many that there is room for, and room for so much is left
pub record HaveRead (whole count : ℕ) (bytes : List ℕ) (recs : List Rec) (left : ℕ) (rest : List ℕ) : Type 0 where
  pub each : All IsRecord recs
  pub number : length recs ≤ count
  pub sizes : sum_by size_of recs + left ≡ whole
  pub spelled : bytes ≡ dumped_records recs ++ rest

pub none_read : (whole count : ℕ) (bytes : List ℕ) → HaveRead whole count bytes [] whole bytes
none_read whole count bytes = record { each = All-nil IsRecord; number = omega arith; sizes = omega arith; spelled = refl }

pub one_more : (whole count : ℕ) (bytes : List ℕ) (recs : List Rec) (left : ℕ) (rest : List ℕ) (rec : Rec) (now : ℕ) (behind : List ℕ)
    → HaveRead whole count bytes recs left rest → length recs < count → IsRecordRead left rest rec behind → now ≡ left - size_of rec
    → HaveRead whole count bytes (recs ++ rec ∷ []) now behind
one_more whole count bytes recs left rest rec now behind have more read is = record {
  each = All-push IsRecord recs rec have.each read.sound;
  number = omega (arith, length-append recs (rec ∷ []), more);
  sizes = omega (arith, sum_by_push size_of recs rec, have.sizes, read.within, is);
  spelled = texts_push dumped_record recs rec bytes rest behind have.spelled read.spelled;
}

pub all_read : (whole count : ℕ) (bytes : List ℕ) (recs : List Rec) (left : ℕ) (rest : List ℕ) → HaveRead whole count bytes recs left rest → count ≤ length recs → AreRecords whole count recs
all_read whole count bytes recs left rest have all =
    record { each = have.each; number = (let number = have.number in omega arith); within = omega (arith, have.sizes) }

pub later_stop : (whole count start place : ℕ) (bytes : List ℕ) (recs : List Rec) (left : ℕ) (rest : List ℕ) (stop : TrackStop)
    → HaveRead whole count bytes recs left rest → length recs < count → place ≡ start + (length bytes - length rest) → IsRecordStop (IsRecordText left) place rest stop
    → AreRecordsStop whole count start bytes stop
later_stop whole count start place bytes recs left rest (Wrong field at) have more place_is stop =
    let n : ℕ = count - length recs - 1 in
    let leaves = records_leave recs whole left count (suc n) (recursion_from_All IsRecord recs have.each) have.sizes (omega (arith, more)) in
    let first = first_stop left n place rest (Wrong field at) stop in
    record {
      recs = recs;
      rest = rest;
      within = first.0;
      more = more;
      spelled = have.spelled;
      is_in = first.1;
      place_is = omega (arith, first.2, place_is, ap length have.spelled, length-append (dumped_records recs) rest);
      wrong = wrong_lifted (AreRecordsText whole count) (dumped_records recs) (AreRecordsText left (suc n)) leaves bytes rest first.0 (length_of field) have.spelled first.3;
    }
later_stop whole count start place bytes recs left rest Cut have more place_is stop =
    let n : ℕ = count - length recs - 1 in
    let leaves = records_leave recs whole left count (suc n) (recursion_from_All IsRecord recs have.each) have.sizes (omega (arith, more)) in
    cut_lifted (AreRecordsText whole count) (dumped_records recs) (AreRecordsText left (suc n)) leaves bytes rest have.spelled (first_stop left n place rest Cut stop)
later_stop whole count start place bytes recs left rest NoMemory have more place_is stop = tt
