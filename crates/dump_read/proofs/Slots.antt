-- A slot as a chain of fields, and why it isn't read, from each field on.
use Rattle.std.proofs.Common.{◌≡◌, ◌≢◌, ℕ, zero, suc, ◌+◌, ◌-◌, ◌^◌, ◌≤◌, ◌<◌, List, [], ◌∷◌, ◌++◌, length, take, replicate, refl, sym, ap, subst, ◌∙◌, arith, length-append, append_assoc}
use Rattle.std.proofs.lemmas.List.{length-take, length-replicate}
use Rattle.byteorder.specs.Endian.{big_bytes}
use Rattle.ckd_image.specs.declared.device.Device.{Device}
use Rattle.ckd_image.specs.declared.device.Device.TheVariants.{D3390, D3380, D3350}
use Rattle.ckd_image.specs.Bytes.{Begins}
use Rattle.ckd_image.specs.Device.{slot_of}
use Rattle.dump_read.specs.declared.slot.SlotField.{SlotField}
use Rattle.dump_read.specs.declared.slot.SlotField.TheVariants as fields
use Rattle.dump_read.specs.declared.slot.SlotStop.{SlotStop}
use Rattle.dump_read.specs.declared.slot.SlotStop.TheVariants.{Wrong, Cut, NoMemory}
use Rattle.dump_read.specs.Fields.{IsFirstWrong}
use Rattle.dump_read.specs.Header.{BeginsFixed}
use Rattle.dump_read.specs.SlotText.{slot_text, IsSlotText, HasLength, IsSlotStop, IsSlotRead, place_of, Stops, BeginsLength, EndsInZero, StopsBytes}
use Rattle.dump_read.proofs.Chains.{Then, wrong_here, wrong_behind, wrong_as, front_of_more, behind_front}
use Rattle.dump_read.proofs.Numbers.{one_number}
use Rattle.dump_read.proofs.Words.{whole_front, fixed_wrong}

-- what may stand from each field on
abbrev pub IsSlotBytes : ℕ → List ℕ → Type 0
IsSlotBytes count bytes = (length bytes ≡ count) × ((more : List ℕ) → bytes ≢ more ++ (0 ∷ []))

abbrev pub FromLength : Device → List ℕ → Type 0
FromLength device = Then (λ count. count ≤ slot_of device) (big_bytes 4) IsSlotBytes

abbrev pub FromTrack : Device → ℕ → List ℕ → Type 0
FromTrack device number = Then {X = Unit {0}} (λ x. Unit {0}) (λ x. big_bytes 4 number) (λ x. FromLength device)

slot_of_chain : (device : Device) (number : ℕ) (text : List ℕ) → FromTrack device number text → IsSlotText device number text
slot_of_chain device number text is =
    let counted = is.behind in
    let bytes = counted.behind in
    let within = counted.may in
    let long = bytes.0 in
    record {
      bytes = counted.rest;
      cut = (omega (arith, within, long), bytes.1);
      spelled = is.spelled ∙ ap (λ (t : List ℕ). big_bytes 4 number ++ t) (counted.spelled ∙ ap (λ (n : ℕ). big_bytes 4 n ++ counted.rest) (sym long));
    }

chain_of_slot : (device : Device) (number : ℕ) (text : List ℕ) → IsSlotText device number text → FromTrack device number text
chain_of_slot device number text is = record {
  value = tt;
  may = tt;
  rest = big_bytes 4 (length is.bytes) ++ is.bytes;
  behind = record { value = length is.bytes; may = is.cut.0; rest = is.bytes; behind = (refl, is.cut.1); spelled = refl };
  spelled = is.spelled;
}

-- ---- bytes that end in ones

abbrev all_ones : ℕ → List ℕ
all_ones n = replicate n 1

ones_end : (n : ℕ) (more : List ℕ) → all_ones n ≢ more ++ (0 ∷ [])
ones_end zero [] e = absurd (omega (arith, ap length e))
ones_end zero (x ∷ more) e = absurd (omega (arith, ap length e))
ones_end (suc n) [] e = let first : ◌≡◌ {A = ℕ} 1 0 = cc in absurd (omega (arith, first))
ones_end (suc n) (x ∷ more) e = let tail : all_ones n ≡ more ++ (0 ∷ []) = cc in ones_end n more tail

one_ends : (bytes : List ℕ) (n : ℕ) (more : List ℕ) → bytes ++ all_ones (suc n) ≢ more ++ (0 ∷ [])
one_ends [] n more e = ones_end (suc n) more e
one_ends (x ∷ bytes) n [] e = absurd (omega (arith, ap length e, length-append bytes (all_ones (suc n))))
one_ends (x ∷ bytes) n (y ∷ more) e = let tail : bytes ++ all_ones (suc n) ≡ more ++ (0 ∷ []) = cc in one_ends bytes n more tail

-- bytes that go on in ones
filled : (bytes : List ℕ) (n : ℕ) → IsSlotBytes (length bytes + suc n) (bytes ++ all_ones (suc n))
filled bytes n = (
  length-append bytes (all_ones (suc n)) ∙ ap (λ (k : ℕ). length bytes + k) (length-replicate {A = ℕ} (suc n) 1),
  one_ends bytes n,
)

ones : (n : ℕ) → IsSlotBytes n (all_ones n)
ones n = (length-replicate {A = ℕ} n 1, ones_end n)

-- ---- the length

short_slot : (device : Device) → slot_of device ≤ 56832
short_slot D3390 = omega arith
short_slot D3380 = omega arith
short_slot D3350 = omega arith

fits_number : (device : Device) (n : ℕ) → n ≤ slot_of device → n < 2 ^ 32
fits_number device n within = omega (arith, within, short_slot device)

-- ---- the number of the track

pub number_wrong : (number : ℕ) (text right : List ℕ) → right ≡ big_bytes 4 number → ¬ Begins right text → ¬ Begins text right → ¬ BeginsFixed (big_bytes 4 number) (take 4 text)
number_wrong number text right is none not_front =
    fixed_wrong (big_bytes 4 number) text 4 refl (subst (λ (r : List ℕ). ¬ Begins r text) is none) (subst (λ (r : List ℕ). ¬ Begins text r) is not_front)

-- ---- why no slot is read

track_long : (number : ℕ) (x : Unit {0}) → Unit {0} → length (big_bytes 4 number) ≡ 4
track_long number x may = refl

no_bytes : (device : Device) → FromLength device (big_bytes 4 0 ++ [])
no_bytes device = record { value = 0; may = omega arith; rest = []; behind = ones 0; spelled = refl }

track_wrong : (device : Device) (number : ℕ) (text : List ℕ) → ¬ BeginsFixed (big_bytes 4 number) (take 4 text) → IsFirstWrong (IsSlotText device number) text 0 4
track_wrong device number text none =
    wrong_as (FromTrack device number) (IsSlotText device number) (slot_of_chain device number) (chain_of_slot device number) text 0 4
    (wrong_here {X = Unit {0}} (λ x. Unit {0}) (λ x. big_bytes 4 number) (λ x. FromLength device) 4 (track_long number) text (big_bytes 4 0 ++ []) tt tt (no_bytes device) none)

behind_track : (device : Device) (number : ℕ) (text rest : List ℕ) (place len : ℕ) → text ≡ big_bytes 4 number ++ rest → IsFirstWrong (FromLength device) rest place len
    → IsFirstWrong (IsSlotText device number) text (4 + place) len
behind_track device number text rest place len is wrong =
    wrong_as (FromTrack device number) (IsSlotText device number) (slot_of_chain device number) (chain_of_slot device number) text (4 + place) len
    (wrong_behind {X = Unit {0}} (λ x. Unit {0}) (λ x. big_bytes 4 number) (λ x. FromLength device) 4 (track_long number) text rest tt place len tt is (λ y r may same behind. behind) wrong)

count_wrong : (device : Device) (rest : List ℕ) → ¬ BeginsLength device (take 4 rest) → IsFirstWrong (FromLength device) rest 0 4
count_wrong device rest none =
    wrong_here (λ count. count ≤ slot_of device) (big_bytes 4) IsSlotBytes 4 (λ x may. refl) rest [] 0 (omega arith) (ones 0) none

zero_wrong : (count : ℕ) (rest : List ℕ) → count ≤ length rest → EndsInZero (take count rest) → IsFirstWrong (IsSlotBytes count) rest 0 count
zero_wrong count rest long (more, ends) = record {
  front = [];
  rest = rest;
  spelled = refl;
  place_is = refl;
  begun = (all_ones count, ones count, (all_ones count, refl));
  wrong = λ (whole, is, (behind, all)).
      let len = length-take count rest in
      let size = is.0 in
      let same : whole ≡ take count rest = whole_front (take count rest) whole behind all (omega (arith, len, size, long)) in
      is.1 more (same ∙ ends);
}

bytes_wrong : (device : Device) (rest behind : List ℕ) (count : ℕ) → count ≤ slot_of device → rest ≡ big_bytes 4 count ++ behind → count ≤ length behind → EndsInZero (take count behind)
    → IsFirstWrong (FromLength device) rest 4 count
bytes_wrong device rest behind count within is long ends =
    wrong_behind (λ n. n ≤ slot_of device) (big_bytes 4) IsSlotBytes 4 (λ x may. refl) rest behind count 0 count within is
    (λ n r may same bytes. subst (λ (k : ℕ). IsSlotBytes k r) (sym (one_number count n (fits_number device count within) (fits_number device n may) same)) bytes)
    (zero_wrong count behind long ends)

-- the slot of a number with some bytes
slot_with : (device : Device) (number count : ℕ) (bytes : List ℕ) → count ≤ slot_of device → IsSlotBytes count bytes → IsSlotText device number (slot_text number bytes)
slot_with device number count bytes within is = record { bytes = bytes; cut = (omega (arith, within, is.0), is.1); spelled = refl }

abbrev IsCut : Device → ℕ → List ℕ → Type 0
IsCut device number text = (whole : List ℕ) × IsSlotText device number whole × Begins text whole × (length text < length whole)

abbrev IsWrongAt : Device → ℕ → List ℕ → SlotField → Type 0
IsWrongAt device number text field = (count : ℕ) × HasLength field number text count × IsFirstWrong (IsSlotText device number) text (place_of field) count

cut_track : (device : Device) (number : ℕ) (text : List ℕ) → length text < 4 → Begins text (big_bytes 4 number) → IsCut device number text
cut_track device number text short front =
    (slot_text number [], slot_with device number 0 [] (omega arith) (ones 0), front_of_more text (big_bytes 4 number) (big_bytes 4 0 ++ []) front, omega (arith, short))

cut_length : (device : Device) (number count : ℕ) (text rest : List ℕ) → count ≤ slot_of device → text ≡ big_bytes 4 number ++ rest → length rest < 4 → Begins rest (big_bytes 4 count)
    → IsCut device number text
cut_length device number count text rest within is short front =
    let bytes : List ℕ = all_ones count in
    let len : length bytes ≡ count = length-replicate {A = ℕ} count 1 in
    let counted : Begins rest (big_bytes 4 (length bytes)) = subst (λ (n : ℕ). Begins rest (big_bytes 4 n)) (sym len) front in
    let inner : Begins rest (big_bytes 4 (length bytes) ++ bytes) = front_of_more rest (big_bytes 4 (length bytes)) bytes counted in (
      slot_text number bytes,
      slot_with device number count bytes within (ones count),
      subst (λ (t : List ℕ). Begins t (slot_text number bytes)) (sym is) (behind_front (big_bytes 4 number) rest (big_bytes 4 (length bytes) ++ bytes) inner),
      omega (arith, short, ap length is, length-append (big_bytes 4 number) rest),
    )

cut_bytes : (device : Device) (number count n : ℕ) (text rest behind : List ℕ) → count ≤ slot_of device → text ≡ big_bytes 4 number ++ rest → rest ≡ big_bytes 4 count ++ behind
    → length behind + suc n ≡ count → IsCut device number text
cut_bytes device number count n text rest behind within is counted short =
    let bytes : List ℕ = behind ++ all_ones (suc n) in
    let right : IsSlotBytes count bytes = subst (λ (k : ℕ). IsSlotBytes k bytes) short (filled behind n) in
    let same : rest ≡ big_bytes 4 (length bytes) ++ behind = counted ∙ ap (λ (k : ℕ). big_bytes 4 k ++ behind) (sym right.0) in
    let inner : Begins rest (big_bytes 4 (length bytes) ++ bytes) =
    subst (λ (t : List ℕ). Begins t (big_bytes 4 (length bytes) ++ bytes)) (sym same)
    (behind_front (big_bytes 4 (length bytes)) behind bytes (all_ones (suc n), refl)) in (
      slot_text number bytes,
      slot_with device number count bytes within right,
      subst (λ (t : List ℕ). Begins t (slot_text number bytes)) (sym is) (behind_front (big_bytes 4 number) rest (big_bytes 4 (length bytes) ++ bytes) inner),
      omega (arith, short, right.0, ap length is, ap length counted),
    )

pub first_stop : (device : Device) (number : ℕ) (text : List ℕ) (stop : SlotStop) → Stops fields.Track (BeginsFixed (big_bytes 4 number)) text stop → IsSlotStop device number text stop
first_stop device number text (Wrong field) (same, none) = subst (IsWrongAt device number text) (sym same) (4, refl, track_wrong device number text none)
first_stop device number text Cut (short, (x, may, front)) = cut_track device number text short front
first_stop device number text NoMemory stops = tt

pub second_stop : (device : Device) (number : ℕ) (text rest : List ℕ) (stop : SlotStop) → text ≡ big_bytes 4 number ++ rest → Stops fields.Length (BeginsLength device) rest stop
    → IsSlotStop device number text stop
second_stop device number text rest (Wrong field) is (same, none) =
    subst (IsWrongAt device number text) (sym same) (4, refl, behind_track device number text rest 0 4 is (count_wrong device rest none))
second_stop device number text rest Cut is (short, (count, within, front)) = cut_length device number count text rest within is short front
second_stop device number text rest NoMemory is stops = tt

pub third_stop : (device : Device) (number count : ℕ) (text rest behind : List ℕ) (stop : SlotStop) → count ≤ slot_of device → text ≡ big_bytes 4 number ++ rest
    → rest ≡ big_bytes 4 count ++ behind → StopsBytes count behind stop → IsSlotStop device number text stop
third_stop device number count text rest behind (Wrong field) within is counted (same, long, ends) =
    subst (IsWrongAt device number text) (sym same) (
      count,
      (omega (arith, within, short_slot device), (behind, is ∙ ap (λ (t : List ℕ). big_bytes 4 number ++ t) counted ∙ sym (append_assoc (big_bytes 4 number) (big_bytes 4 count) behind))),
      behind_track device number text rest 4 count is (bytes_wrong device rest behind count within counted long ends),
    )
third_stop device number count text rest behind Cut within is counted short =
    cut_bytes device number count (count - length behind - 1) text rest behind within is counted (omega (arith, short))
third_stop device number count text rest behind NoMemory within is counted stops = tt

pub slot_read : (device : Device) (number count : ℕ) (text rest behind bytes : List ℕ) → count ≤ slot_of device → text ≡ big_bytes 4 number ++ rest → rest ≡ big_bytes 4 count ++ behind
    → length bytes ≡ count → ¬ EndsInZero bytes → Begins bytes behind → IsSlotRead device number text bytes
slot_read device number count text rest behind bytes within is counted long ends (more, all) =
    let first : rest ≡ (big_bytes 4 (length bytes) ++ bytes) ++ more =
    counted ∙ ap (λ (k : ℕ). big_bytes 4 k ++ behind) (sym long) ∙ ap (λ (t : List ℕ). big_bytes 4 (length bytes) ++ t) all
    ∙ sym (append_assoc (big_bytes 4 (length bytes)) bytes more) in
    record {
      cut = (omega (arith, within, long), λ front e. ends (front, e));
      begins = (more, is ∙ ap (λ (t : List ℕ). big_bytes 4 number ++ t) first ∙ sym (append_assoc (big_bytes 4 number) (big_bytes 4 (length bytes) ++ bytes) more));
    }
