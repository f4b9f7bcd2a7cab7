-- Where the fields of a track begin: the same bytes have them at the same places, and a right track has them all.
use Rattle.std.proofs.Common.{◌≡◌, ◌⊎◌, inl, inr, ℕ, ◌+◌, ◌/◌, ◌%◌, ◌≤◌, ◌<◌, List, [], ◌∷◌, ◌++◌, length, take, drop, refl, sym, ap, subst, ◌∙◌, arith, length-append, append_assoc}
use Rattle.std.specs.List.{AllByRecursion}
use Rattle.std.proofs.lemmas.Bool.{cases_lt}
use Rattle.std.proofs.lemmas.List.{append-nil, take-append-drop, length-take}
use Rattle.std.proofs.lemmas.List.Elements.{recursion_from_All, All-weaker}
use Rattle.byteorder.specs.Endian.{big_bytes}
use Rattle.ckd_image.specs.declared.track.Rec.{Rec}
use Rattle.ckd_image.specs.declared.track.Track.{Track as Text}
use Rattle.ckd_image.specs.Track.{IsTrack, IsRecord}
use Rattle.dump_fmt.specs.Pieces.{dumped_record, dumped_records, dumped_track}
use Rattle.dump_read.specs.declared.track.TrackField.{TrackField}
use Rattle.dump_read.specs.declared.track.TrackField.TheVariants as fields
use Rattle.dump_read.specs.TrackText.{EndsAtRecord, IsFieldBehind, length_of}
use Rattle.dump_read.proofs.Delimited.{two_bytes}
use Rattle.ckd_image.proofs.OneText.{split_same}

-- ---- records

-- its length fits its two bytes
abbrev HasFit : Rec → Type 0
HasFit rec = length rec.body ≤ 65535

record_long : (rec : Rec) → length (dumped_record rec) ≡ 4 + (length rec.key + length rec.body)
record_long rec = omega (arith, length-append rec.key rec.body)

record_passed : (a b : Rec) (x y : List ℕ) → HasFit a → HasFit b → dumped_record a ++ x ≡ dumped_record b ++ y → (length (dumped_record a) ≡ length (dumped_record b)) × (x ≡ y)
record_passed a b x y fits less e =
    let keys : length a.key ≡ length b.key = cc in
    let high : length a.body / 256 % 256 ≡ length b.body / 256 % 256 = cc in
    let low : length a.body % 256 ≡ length b.body % 256 = cc in
    let bodies : length a.body ≡ length b.body = omega (arith, high, low, fits, less) in
    let long : length (dumped_record a) ≡ length (dumped_record b) = omega (arith, record_long a, record_long b, keys, bodies) in
    (long, (split_same (dumped_record a) (dumped_record b) x y long e).1)

records_fit : (recs : List Rec) → length (dumped_records recs) ≤ 65535 → AllByRecursion HasFit recs
records_fit [] few = tt
records_fit (rec ∷ recs) few =
    let joined = length-append (dumped_record rec) (dumped_records recs) in
    (omega (arith, few, joined, record_long rec), records_fit recs (omega (arith, few, joined)))

module _ (x y : List ℕ) where
  -- of fewer records one more stands behind them
  records_before : (recs all : List Rec) → AllByRecursion HasFit recs → AllByRecursion HasFit all → length recs < length all → dumped_records recs ++ x ≡ dumped_records all ++ y
      → length (dumped_records recs) + 4 ≤ length (dumped_records all)
  records_before [] [] fits less few e = absurd (omega (arith, few))
  records_before [] (a ∷ all) fits less few e = omega (arith, record_long a, length-append (dumped_record a) (dumped_records all))
  records_before (rec ∷ recs) [] fits less few e = absurd (omega (arith, few))
  records_before (rec ∷ recs) (a ∷ all) fits less few e =
      let first = record_passed rec a (dumped_records recs ++ x) (dumped_records all ++ y) fits.0 less.0
      (sym (append_assoc (dumped_record rec) (dumped_records recs) x) ∙ e ∙ append_assoc (dumped_record a) (dumped_records all) y) in
      let inner = records_before recs all fits.1 less.1 (omega (arith, few)) first.1 in
      omega (arith, inner, first.0, length-append (dumped_record rec) (dumped_records recs), length-append (dumped_record a) (dumped_records all))

  -- as many have one length
  records_same : (recs all : List Rec) → AllByRecursion HasFit recs → AllByRecursion HasFit all → length recs ≡ length all → dumped_records recs ++ x ≡ dumped_records all ++ y
      → length (dumped_records recs) ≡ length (dumped_records all)
  records_same [] [] fits less few e = refl
  records_same [] (a ∷ all) fits less few e = absurd (omega (arith, few))
  records_same (rec ∷ recs) [] fits less few e = absurd (omega (arith, few))
  records_same (rec ∷ recs) (a ∷ all) fits less few e =
      let first = record_passed rec a (dumped_records recs ++ x) (dumped_records all ++ y) fits.0 less.0
      (sym (append_assoc (dumped_record rec) (dumped_records recs) x) ∙ e ∙ append_assoc (dumped_record a) (dumped_records all) y) in
      let inner = records_same recs all fits.1 less.1 (omega (arith, few)) first.1 in
      omega (arith, inner, first.0, length-append (dumped_record rec) (dumped_records recs), length-append (dumped_record a) (dumped_records all))

-- ---- records behind their number

abbrev counted : ℕ → List ℕ → ℕ → List Rec → List ℕ
counted flag r0 count recs = (flag ∷ []) ++ (r0 ++ (big_bytes 2 count ++ dumped_records recs))

counted_long : (flag : ℕ) (r0 : List ℕ) (count : ℕ) (recs : List Rec) → length r0 ≡ 8 → length (counted flag r0 count recs) ≡ 11 + length (dumped_records recs)
counted_long flag r0 count recs zero = omega (arith, zero, length-append r0 (big_bytes 2 count ++ dumped_records recs))

counted_apart : (flag other : ℕ) (r0 zero : List ℕ) (count number : ℕ) (recs all : List Rec) (x y : List ℕ) → length r0 ≡ 8 → length zero ≡ 8 → count ≤ 65535 → number ≤ 65535
    → counted flag r0 count recs ++ x ≡ counted other zero number all ++ y → (count ≡ number) × (dumped_records recs ++ x ≡ dumped_records all ++ y)
counted_apart flag other r0 zero count number recs all x y eight long few less e =
    let tails : (r0 ++ (big_bytes 2 count ++ dumped_records recs)) ++ x ≡ (zero ++ (big_bytes 2 number ++ dumped_records all)) ++ y = cc in
    let zeros = split_same r0 zero ((big_bytes 2 count ++ dumped_records recs) ++ x) ((big_bytes 2 number ++ dumped_records all) ++ y) (eight ∙ sym long)
    (sym (append_assoc r0 (big_bytes 2 count ++ dumped_records recs) x) ∙ tails ∙ append_assoc zero (big_bytes 2 number ++ dumped_records all) y) in
    let counts = split_same (big_bytes 2 count) (big_bytes 2 number) (dumped_records recs ++ x) (dumped_records all ++ y) refl zeros.1 in
    (two_bytes count number few less counts.0, counts.1)

ends_long : (front : List ℕ) (is : EndsAtRecord front) → length front ≡ 11 + length (dumped_records is.recs)
ends_long front is = ap length is.spelled ∙ counted_long is.flag is.r0 is.count is.recs is.zero

ends_fit : (front : List ℕ) (is : EndsAtRecord front) → length front ≤ 65535 → AllByRecursion HasFit is.recs
ends_fit front is few = records_fit is.recs (omega (arith, few, ends_long front is))

-- two places where records begin are one, or the record at the first has four bytes at least
two_ends : (a b x y : List ℕ) → EndsAtRecord a → EndsAtRecord b → length a ≤ 65535 → length b ≤ 65535 → a ++ x ≡ b ++ y
    → (length a ≡ length b) ⊎ ((length a + 4 ≤ length b) ⊎ (length b + 4 ≤ length a))
two_ends a b x y is also few less e =
    let both = counted_apart is.flag also.flag is.r0 also.r0 is.count also.count is.recs also.recs x y is.zero also.zero is.few also.few
    (ap (λ (t : List ℕ). t ++ x) (sym is.spelled) ∙ e ∙ ap (λ (t : List ℕ). t ++ y) also.spelled) in
    let fits = ends_fit a is few in
    let fit = ends_fit b also less in
    let long = ends_long a is in
    let other = ends_long b also in
    elim (cases_lt (length is.recs) (length also.recs)) [
      | inl before ↦ inr (inl (omega (arith, records_before x y is.recs also.recs fits fit before both.1, long, other)))
      | inr later ↦ elim (cases_lt (length also.recs) (length is.recs)) [
        | inl before ↦ inr (inr (omega (arith, records_before y x also.recs is.recs fit fits before (sym both.1), long, other)))
        | inr former ↦ inl (omega (arith, records_same x y is.recs also.recs fits fit (omega (arith, later, former)) both.1, long, other))
      ]
    ]

track_fits : (track : Text) → IsTrack track → AllByRecursion HasFit track.recs
track_fits track sound = recursion_from_All HasFit track.recs (All-weaker IsRecord HasFit (λ rec is. is.body_fits) track.recs sound.records)

track_long : (track : Text) → IsTrack track → length (dumped_track track) ≡ 11 + length (dumped_records track.recs)
track_long track sound = counted_long track.flag track.r0 (length track.recs) track.recs sound.zero

-- a record that begins where fewer records end is one of the track
ends_in_track : (a x y : List ℕ) (track : Text) → EndsAtRecord a → length a ≤ 65535 → IsTrack track → length track.recs ≤ 65535 → a ++ x ≡ dumped_track track ++ y
    → length a + 4 ≤ length (dumped_track track)
ends_in_track a x y track is few sound less e =
    let both = counted_apart is.flag track.flag is.r0 track.r0 is.count (length track.recs) is.recs track.recs x y is.zero sound.zero is.few less
    (ap (λ (t : List ℕ). t ++ x) (sym is.spelled) ∙ e) in
    omega (arith, records_before x y is.recs track.recs (ends_fit a is few) (track_fits track sound) (omega (arith, is.more, both.0)) both.1, ends_long a is, track_long track sound)

-- ---- fields

-- a record begins at this place
pub record IsRecordPlace (bytes : List ℕ) (start : ℕ) : Type 0 where
  pub before : List ℕ
  pub left : List ℕ
  pub ends : EndsAtRecord before
  pub spelled : bytes ≡ before ++ left
  pub long : length before ≡ start
  pub few : start ≤ 65535

-- the fields before its key
abbrev pub IsOfRecord : ℕ → ℕ → ℕ → Type 0
IsOfRecord start place len = ((place ≡ start) × (len ≡ 1)) ⊎ (((place ≡ start + 1) × (len ≡ 1)) ⊎ ((place ≡ start + 2) × (len ≡ 2)))

abbrev pub IsFieldPlace : List ℕ → ℕ → ℕ → Type 0
IsFieldPlace bytes place len = ((place ≡ 9) × (len ≡ 2)) ⊎ ((start : ℕ) × IsRecordPlace bytes start × IsOfRecord start place len)

place_by : (bytes before : List ℕ) (more : List ℕ) (place : ℕ) → place ≤ 65535 → place ≤ length bytes → EndsAtRecord before → take place bytes ≡ before ++ more
    → IsRecordPlace bytes (length before) × (place ≡ length before + length more)
place_by bytes before more place few within ends is =
    let long : place ≡ length before + length more = omega (arith, ap length is, length-append before more, length-take place bytes, within) in (
      record {
        before = before;
        left = more ++ drop place bytes;
        ends = ends;
        spelled = sym (take-append-drop place bytes) ∙ ap (λ (t : List ℕ). t ++ drop place bytes) is ∙ append_assoc before more (drop place bytes);
        long = refl;
        few = omega (arith, few, long);
      },
      long,
    )

pub field_place : (field : TrackField) (bytes : List ℕ) (place : ℕ) → place ≤ 65535 → place ≤ length bytes → IsFieldBehind field (take place bytes) → IsFieldPlace bytes place (length_of field)
field_place fields.Records bytes place few within is = inl (omega (arith, is, length-take place bytes, within), refl)
field_place fields.Number bytes place few within is =
    let at = place_by bytes (take place bytes) [] place few within is (sym (append-nil (take place bytes))) in
    inr (length (take place bytes), at.0, inl (omega (arith, at.1), refl))
field_place fields.Key bytes place few within (before, r, is, spelled) =
    let at = place_by bytes before (r ∷ []) place few within is spelled in
    inr (length before, at.0, inr (inl (omega (arith, at.1), refl)))
field_place fields.Body bytes place few within (before, r, key, is, spelled) =
    let at = place_by bytes before (r ∷ key ∷ []) place few within is spelled in
    inr (length before, at.0, inr (inr (omega (arith, at.1), refl)))

place_long : (bytes : List ℕ) (start : ℕ) → IsRecordPlace bytes start → 11 ≤ start
place_long bytes start is = omega (arith, is.long, ends_long is.before is.ends)

of_record : (start place len : ℕ) → IsOfRecord start place len → (start ≤ place) × (place + len ≤ start + 4)
of_record start place len (inl (at, is)) = (omega (arith, at), omega (arith, at, is))
of_record start place len (inr (inl (at, is))) = (omega (arith, at), omega (arith, at, is))
of_record start place len (inr (inr (at, is))) = (omega (arith, at), omega (arith, at, is))

one_in_record : (start place len other count : ℕ) → IsOfRecord start place len → IsOfRecord start other count → other < place + len → place < other + count → place ≡ other
one_in_record start place len other count (inl (a, b)) (inl (c, d)) less before = omega (arith, a, b, c, d, less, before)
one_in_record start place len other count (inl (a, b)) (inr (inl (c, d))) less before = omega (arith, a, b, c, d, less, before)
one_in_record start place len other count (inl (a, b)) (inr (inr (c, d))) less before = omega (arith, a, b, c, d, less, before)
one_in_record start place len other count (inr (inl (a, b))) (inl (c, d)) less before = omega (arith, a, b, c, d, less, before)
one_in_record start place len other count (inr (inl (a, b))) (inr (inl (c, d))) less before = omega (arith, a, b, c, d, less, before)
one_in_record start place len other count (inr (inl (a, b))) (inr (inr (c, d))) less before = omega (arith, a, b, c, d, less, before)
one_in_record start place len other count (inr (inr (a, b))) (inl (c, d)) less before = omega (arith, a, b, c, d, less, before)
one_in_record start place len other count (inr (inr (a, b))) (inr (inl (c, d))) less before = omega (arith, a, b, c, d, less, before)
one_in_record start place len other count (inr (inr (a, b))) (inr (inr (c, d))) less before = omega (arith, a, b, c, d, less, before)

-- fields that have a byte in common are one
pub one_field_place : (bytes : List ℕ) (place len other count : ℕ) → IsFieldPlace bytes place len → IsFieldPlace bytes other count → other < place + len → place < other + count → place ≡ other
one_field_place bytes place len other count (inl (a, b)) (inl (c, d)) less before = omega (arith, a, c)
one_field_place bytes place len other count (inl (a, b)) (inr (start, at, is)) less before =
    absurd (omega (arith, a, b, less, place_long bytes start at, (of_record start other count is).0))
one_field_place bytes place len other count (inr (start, at, is)) (inl (c, d)) less before =
    absurd (omega (arith, c, d, before, place_long bytes start at, (of_record start place len is).0))
one_field_place bytes place len other count (inr (start, at, is)) (inr (begin, there, of)) less before =
    let first = of_record start place len is in
    let second = of_record begin other count of in
    elim (two_ends at.before there.before at.left there.left at.ends there.ends (omega (arith, at.long, at.few)) (omega (arith, there.long, there.few)) (sym at.spelled ∙ there.spelled)) [
      | inl same ↦
          let equal : begin ≡ start = omega (arith, same, at.long, there.long) in
          one_in_record start place len other count is (subst (λ (n : ℕ). IsOfRecord n other count) equal of) less before
      | inr (inl former) ↦ absurd (omega (arith, former, at.long, there.long, first.1, second.0, less))
      | inr (inr later) ↦ absurd (omega (arith, later, at.long, there.long, first.0, second.1, before))
    ]

-- and a right track that stands there has the whole field
pub place_in_track : (bytes more : List ℕ) (place len : ℕ) (track : Text) → IsFieldPlace bytes place len → IsTrack track → length track.recs ≤ 65535 → bytes ≡ dumped_track track ++ more
    → place + len ≤ length (dumped_track track)
place_in_track bytes more place len track (inl (a, b)) sound few e = omega (arith, a, b, track_long track sound)
place_in_track bytes more place len track (inr (start, at, is)) sound few e =
    let inner = ends_in_track at.before at.left more track at.ends (omega (arith, at.long, at.few)) sound few (sym at.spelled ∙ e) in
    omega (arith, inner, at.long, (of_record start place len is).1)
