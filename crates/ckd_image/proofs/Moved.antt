-- Changing addresses one after the other.
use Rattle.std.proofs.Common.{◌≡◌, ℕ, ◌+◌, ◌≤◌, List, [], ◌∷◌, ◌++◌, length, take, drop, All, refl, sym, ap, subst, ◌∙◌, append_assoc, arith, length-append, length-drop, inl, inr, ◌⊎◌}
use Rattle.std.specs.List.{AllByRecursion}
use Rattle.std.proofs.lemmas.List.{take_at, drop_at, take-append-drop, length-take}
use Rattle.std.proofs.lemmas.List.Elements.{recursion_from_All, All-from_recursion, All-push, All-nil}
use Rattle.ckd_image.specs.declared.track.TrackAt.{TrackAt}
use Rattle.ckd_image.specs.declared.track.Rec.{Rec}
use Rattle.ckd_image.specs.declared.track.Track.{Track}
use Rattle.ckd_image.specs.Bytes.{Begins}
use Rattle.ckd_image.specs.Address.{address, IsAddress}
use Rattle.ckd_image.specs.TrackFault.{IsWrongZeroAt}
use Rattle.ckd_image.proofs.Texts.{texts_split}
use Rattle.ckd_image.proofs.Records.{goes_on}
use Rattle.ckd_image.proofs.OneText.{split_same, records_apart, record_text-injective, no_end_mark, IsStopped, is_stopped, not_stopped, behind_short, right_front, shift, parts_of}
use Rattle.ckd_image.specs.Track.{home_text, zero_text, IsTrackText, record_text, records_text, end_mark, IsRecord}
use Rattle.ckd_image.specs.Readdress.{IsRecordOf, HasNoRecord, HasRecords, RecordsMoved, IsReaddressed}
use Rattle.ckd_image.proofs.PartlyMoved.{IsPartlyMoved}

-- where neither a record nor the end mark stands behind records, no records with an end mark do
behind : (at : TrackAt) (recs front : List Rec) (x rest : List ℕ) → IsAddress at → length (records_text at recs ++ (end_mark ++ x)) ≤ 65536 → All IsRecord recs → All IsRecord front
    → records_text at recs ++ (end_mark ++ x) ≡ records_text at front ++ rest → ¬ Begins end_mark rest → HasNoRecord at rest → ⊥
behind at recs front x rest p short q r e no_end none =
    let stop : List ℕ → Type 0 = λ t. IsStopped t ⊎ HasNoRecord at t in
    let both = texts_split (record_text at) IsRecord stop (records_apart at p)
    (λ c z s h. elim h [
      | inl stopped ↦ not_stopped at c z s stopped
      | inr nothing ↦ nothing c z s refl
    ])
    recs front (end_mark ++ x) rest q r (inl (is_stopped x (behind_short at recs (end_mark ++ x) short))) (inr none) e in
    no_end (x, sym both.1)

-- so many bytes, and records up to a place
pub record IsPartlyRead (at : TrackAt) (bytes : List ℕ) (start place : ℕ) : Type 0 where
  pub front : List ℕ
  pub records : List Rec
  pub rest : List ℕ
  pub start_is : length front ≡ start
  pub place_is : place ≡ start + length (records_text at records)
  pub each : All IsRecord records
  pub spelled : bytes ≡ front ++ (records_text at records ++ rest)

pub read_none : (at : TrackAt) (bytes : List ℕ) (start : ℕ) → start ≤ length bytes → IsPartlyRead at bytes start start
read_none at bytes start le = record {
  front = take start bytes;
  records = [];
  rest = drop start bytes;
  start_is = omega (arith, length-take start bytes);
  place_is = omega arith;
  each = All-nil IsRecord;
  spelled = sym (take-append-drop start bytes);
}

-- what stands behind a front and a middle
drop_both : (bytes a b c : List ℕ) (n : ℕ) → bytes ≡ a ++ (b ++ c) → n ≡ length a + length b → drop n bytes ≡ c
drop_both bytes a b c n e len =
    ap (drop n) (e ∙ sym (append_assoc a b c)) ∙ drop_at (a ++ b) c n (omega (arith, length-append a b))

pub tail_is : (at : TrackAt) (bytes : List ℕ) (start place : ℕ) (h : IsPartlyRead at bytes start place) → drop place bytes ≡ h.rest
tail_is at bytes start place h = drop_both bytes h.front (records_text at h.records) h.rest place h.spelled (omega (arith, h.place_is, h.start_is))

pub read_more : (at : TrackAt) (bytes : List ℕ) (start place len : ℕ) → IsPartlyRead at bytes start place → IsRecordOf at (drop place bytes) len → IsPartlyRead at bytes start (place + len)
read_more at bytes start place len h r =
    let rest-is : h.rest ≡ record_text at r.rec ++ r.rest = sym (tail_is at bytes start place h) ∙ r.begins in
    let spelled : records_text at h.records ++ h.rest ≡ records_text at (h.records ++ r.rec ∷ []) ++ r.rest = goes_on at h.records r.rec (records_text at h.records ++ h.rest) h.rest r.rest refl rest-is in
    record {
      front = h.front;
      records = h.records ++ r.rec ∷ [];
      rest = r.rest;
      start_is = h.start_is;
      place_is = omega (arith, h.place_is, r.len_is, ap length spelled, ap length rest-is, length-append (records_text at h.records) h.rest, length-append (records_text at (h.records ++ r.rec ∷ [])) r.rest, length-append (record_text at r.rec) r.rest);
      each = All-push IsRecord h.records r.rec h.each r.sound;
      spelled = h.spelled ∙ ap (λ (t : List ℕ). h.front ++ t) spelled;
    }

pub read_all : (at : TrackAt) (bytes : List ℕ) (start place : ℕ) → IsPartlyRead at bytes start place → Begins end_mark (drop place bytes) → HasRecords at bytes start
read_all at bytes start place h b =
    let rest-is : h.rest ≡ end_mark ++ b.0 = sym (tail_is at bytes start place h) ∙ b.1 in
    record {
      front = h.front;
      records = h.records;
      rest = b.0;
      start_is = h.start_is;
      each = h.each;
      spelled = h.spelled ∙ ap (λ (t : List ℕ). h.front ++ (records_text at h.records ++ t)) rest-is;
    }

pub read_stuck : (at : TrackAt) (bytes : List ℕ) (start place : ℕ) → IsAddress at → length bytes ≤ 65536 → IsPartlyRead at bytes start place
    → ¬ Begins end_mark (drop place bytes) → HasNoRecord at (drop place bytes) → ¬ HasRecords at bytes start
read_stuck at bytes start place p short h no_end none r =
    let rest_short : length (records_text at r.records ++ (end_mark ++ r.rest)) ≤ 65536 = omega (arith, short, ap length r.spelled, length-append r.front (records_text at r.records ++ (end_mark ++ r.rest))) in
    let both = split_same r.front h.front _ _ (r.start_is ∙ sym h.start_is) (sym r.spelled ∙ h.spelled) in
    let P : List ℕ → Type 0 = λ t. ¬ Begins end_mark t in
    let Q : List ℕ → Type 0 = λ t. HasNoRecord at t in
    behind at r.records h.records r.rest h.rest p rest_short r.each h.each both.1
    (subst P (tail_is at bytes start place h) no_end) (subst Q (tail_is at bytes start place h) none)

-- ---- moving

pub moved_none : (from to : TrackAt) (bytes : List ℕ) (start : ℕ) → HasRecords from bytes start → IsPartlyMoved from to bytes bytes start start
moved_none from to bytes start h = record {
  front = h.front;
  moved = [];
  left = h.records;
  rest = h.rest;
  same_len = refl;
  start_is = h.start_is;
  place_is = omega arith;
  each_moved = All-nil IsRecord;
  each_left = h.each;
  before = h.spelled;
  after = h.spelled;
}

pub left_is : (from to : TrackAt) (old new : List ℕ) (start place : ℕ) (h : IsPartlyMoved from to old new start place) → drop place new ≡ records_text from h.left ++ (end_mark ++ h.rest)
left_is from to old new start place h =
    drop_both new h.front (records_text to h.moved) (records_text from h.left ++ (end_mark ++ h.rest)) place h.after (omega (arith, h.place_is, h.start_is))

-- a record is left where the end mark isn't next
pub record Next (from : TrackAt) (left : List Rec) : Type 0 where
  pub rec : Rec
  pub more : List Rec
  pub left_is : left ≡ rec ∷ more
  pub sound : IsRecord rec
  pub each : All IsRecord more

next_of : (from : TrackAt) (left : List Rec) (x bytes : List ℕ) → AllByRecursion IsRecord left → bytes ≡ records_text from left ++ (end_mark ++ x) → ¬ Begins end_mark bytes → Next from left
next_of from [] x bytes p e no_end = absurd (no_end (x, e))
next_of from (rec ∷ more) x bytes p e no_end = record { rec = rec; more = more; left_is = refl; sound = p.0; each = All-from_recursion IsRecord more p.1 }

pub next_is : (from to : TrackAt) (old new : List ℕ) (start place : ℕ) (h : IsPartlyMoved from to old new start place) → ¬ Begins end_mark (drop place new) → Next from h.left
next_is from to old new start place h no_end = next_of from h.left h.rest (drop place new) (recursion_from_All IsRecord h.left h.each_left) (left_is from to old new start place h) no_end

-- what stands at the place, as the next record and what is behind it
next_text : (from to : TrackAt) (old new : List ℕ) (start place : ℕ) (h : IsPartlyMoved from to old new start place) (n : Next from h.left)
    → drop place new ≡ record_text from n.rec ++ (records_text from n.more ++ (end_mark ++ h.rest))
next_text from to old new start place h n =
    let P : List Rec → Type 0 = λ left. drop place new ≡ records_text from left ++ (end_mark ++ h.rest) in
    subst P n.left_is (left_is from to old new start place h) ∙ shift from n.rec n.more (end_mark ++ h.rest)

pub not_stuck : (from to : TrackAt) (old new : List ℕ) (start place : ℕ) → IsPartlyMoved from to old new start place
    → ¬ Begins end_mark (drop place new) → ¬ HasNoRecord from (drop place new)
not_stuck from to old new start place h no_end none =
    let n = next_is from to old new start place h no_end in
    none n.rec (records_text from n.more ++ (end_mark ++ h.rest)) n.sound (next_text from to old new start place h n)

pub moved_all : (from to : TrackAt) (old new : List ℕ) (start place : ℕ) → length new ≤ 65536 → IsPartlyMoved from to old new start place → Begins end_mark (drop place new) → RecordsMoved from to old new start
moved_all from to old new start place short h b =
    let left_short : length (drop place new) ≤ 65536 = omega (arith, short, length-drop place new) in
    let none_left : h.left ≡ [] = none_at_end from h.left b.0 h.rest (omega (arith, left_short, ap length b.1)) (recursion_from_All IsRecord h.left h.each_left) (sym b.1 ∙ left_is from to old new start place h) in
    let P : List Rec → Type 0 = λ left. old ≡ h.front ++ (records_text from h.moved ++ (records_text from left ++ (end_mark ++ h.rest))) in
    let Q : List Rec → Type 0 = λ left. new ≡ h.front ++ (records_text to h.moved ++ (records_text from left ++ (end_mark ++ h.rest))) in
    record {
      front = h.front;
      records = h.moved;
      rest = h.rest;
      start_is = h.start_is;
      each = h.each_moved;
      before = subst P none_left h.before;
      after = subst Q none_left h.after;
    }
  where
    none_at_end : (from : TrackAt) (left : List Rec) (x y : List ℕ) → length (end_mark ++ x) ≤ 65536 → AllByRecursion IsRecord left → end_mark ++ x ≡ records_text from left ++ (end_mark ++ y) → left ≡ []
    none_at_end from [] x y short q e = refl
    none_at_end from (a ∷ as') x y short q e =
        let next : end_mark ++ x ≡ record_text from a ++ (records_text from as' ++ (end_mark ++ y)) = e ∙ shift from a as' (end_mark ++ y) in
        absurd (no_end_mark from a x (records_text from as' ++ (end_mark ++ y)) q.0 (omega (arith, short, ap length next)) next)

-- a list of two parts, of which the second is taken off
take_both : (bytes a b c : List ℕ) (n : ℕ) → bytes ≡ a ++ (b ++ c) → n ≡ length a + length b → take n bytes ≡ a ++ b
take_both bytes a b c n e len =
    ap (take n) (e ∙ sym (append_assoc a b c)) ∙ take_at (a ++ b) c n (omega (arith, length-append a b))

pub moved_more : (from to : TrackAt) (old mid new : List ℕ) (start place len : ℕ) → IsAddress from → IsPartlyMoved from to old mid start place
    → ¬ Begins end_mark (drop place mid) → IsRecordOf from (drop place mid) len
    → new ≡ take place mid ++ (address to ++ drop (place + 4) mid) → IsPartlyMoved from to old new start (place + len)
moved_more from to old mid new start place len p h no_end r e =
    let n = next_is from to old mid start place h no_end in
    let more : List ℕ = records_text from n.more ++ (end_mark ++ h.rest) in
    let same = record_text-injective from r.rec n.rec r.rest more p r.sound n.sound (sym r.begins ∙ next_text from to old mid start place h n) in
    let len_is : len ≡ length (record_text from n.rec) = r.len_is ∙ ap (λ (x : Rec). length (record_text from x)) same.0 in
    let M : List Rec → Type 0 = λ left. mid ≡ h.front ++ (records_text to h.moved ++ (records_text from left ++ (end_mark ++ h.rest))) in
    let O : List Rec → Type 0 = λ left. old ≡ h.front ++ (records_text from h.moved ++ (records_text from left ++ (end_mark ++ h.rest))) in
    let mid_is : mid ≡ h.front ++ (records_text to h.moved ++ (record_text from n.rec ++ more)) =
    subst M n.left_is h.after ∙ ap (λ (t : List ℕ). h.front ++ (records_text to h.moved ++ t)) (shift from n.rec n.more (end_mark ++ h.rest)) in
    let old_is : old ≡ h.front ++ (records_text from h.moved ++ (record_text from n.rec ++ more)) =
    subst O n.left_is h.before ∙ ap (λ (t : List ℕ). h.front ++ (records_text from h.moved ++ t)) (shift from n.rec n.more (end_mark ++ h.rest)) in
    let behind_address : List ℕ = drop 4 (record_text from n.rec ++ more) in
    let mid_parts : mid ≡ (h.front ++ records_text to h.moved) ++ (address from ++ behind_address) = mid_is ∙ sym (append_assoc h.front (records_text to h.moved) (address from ++ behind_address)) in
    let kept : take place mid ≡ h.front ++ records_text to h.moved =
    take_both mid h.front (records_text to h.moved) (record_text from n.rec ++ more) place mid_is (omega (arith, h.place_is, h.start_is)) in
    let dropped : drop (place + 4) mid ≡ behind_address =
    drop_both mid (h.front ++ records_text to h.moved) (address from) behind_address (place + 4) mid_parts
    (omega (arith, h.place_is, h.start_is, length-append h.front (records_text to h.moved))) in
    let new_parts : new ≡ (h.front ++ records_text to h.moved) ++ (record_text to n.rec ++ more) =
    e ∙ ap (λ (t : List ℕ). t ++ (address to ++ drop (place + 4) mid)) kept ∙ ap (λ (t : List ℕ). (h.front ++ records_text to h.moved) ++ (address to ++ t)) dropped in
    let new_is : new ≡ h.front ++ (records_text to h.moved ++ (record_text to n.rec ++ more)) = new_parts ∙ append_assoc h.front (records_text to h.moved) (record_text to n.rec ++ more) in
    let old_more = goes_on from h.moved n.rec (records_text from h.moved ++ (record_text from n.rec ++ more)) (record_text from n.rec ++ more) more refl refl in
    let new_more = goes_on to h.moved n.rec (records_text to h.moved ++ (record_text to n.rec ++ more)) (record_text to n.rec ++ more) more refl refl in
    record {
      front = h.front;
      moved = h.moved ++ n.rec ∷ [];
      left = n.more;
      rest = h.rest;
      same_len = omega (
        arith,
        h.same_len,
        ap length new_is,
        ap length mid_is,
        length-append h.front (records_text to h.moved ++ (record_text to n.rec ++ more)),
        length-append h.front (records_text to h.moved ++ (record_text from n.rec ++ more)),
        length-append (records_text to h.moved) (record_text to n.rec ++ more),
        length-append (records_text to h.moved) (record_text from n.rec ++ more),
      );
      start_is = h.start_is;
      place_is = omega (
        arith,
        h.place_is,
        len_is,
        ap length new_more,
        length-append (records_text to h.moved) (record_text to n.rec ++ more),
        length-append (n.rec.key ++ n.rec.body) more,
        length-append (records_text to (h.moved ++ n.rec ∷ [])) more,
      );
      each_moved = All-push IsRecord h.moved n.rec h.each_moved n.sound;
      each_left = n.each;
      before = old_is ∙ ap (λ (t : List ℕ). h.front ++ t) old_more;
      after = new_is ∙ ap (λ (t : List ℕ). h.front ++ t) new_more;
    }

-- ---- whole slots

pub written : (old new : List ℕ) (place : ℕ) (to : TrackAt) (bytes : List ℕ) → bytes ≡ address to
    → new ≡ take place old ++ (bytes ++ drop (place + length bytes) old) → new ≡ take place old ++ (address to ++ drop (place + 4) old)
written old new place to bytes is e =
    let P : List ℕ → Type 0 = λ b. new ≡ take place old ++ (b ++ drop (place + length b) old) in
    subst P is e

pub text_parts : (at : TrackAt) (slot : List ℕ) (track : Track) (q : IsTrackText at slot track)
    → slot ≡ home_text at track.flag ++ (zero_text at track.r0 ++ (records_text at track.recs ++ (end_mark ++ q.text.0)))
text_parts at slot track q = q.text.1 ∙ parts_of at track q.text.0

pub no_home : (at : TrackAt) (slot : List ℕ) → ((flag : ℕ) → ¬ Begins (home_text at flag) slot) → (track : Track) → ¬ IsTrackText at slot track
no_home at slot none track q = none track.flag (zero_text at track.r0 ++ (records_text at track.recs ++ (end_mark ++ q.text.0)), text_parts at slot track q)

pub no_zero_record : (at : TrackAt) (slot rest : List ℕ) (flag offset : ℕ) → IsAddress at → slot ≡ home_text at flag ++ rest → IsWrongZeroAt at rest offset → (track : Track) → ¬ IsTrackText at slot track
no_zero_record at slot rest flag offset p e wrong track q =
    right_front at slot track.r0 (records_text at track.recs ++ (end_mark ++ q.text.0)) track.flag offset p q.sound.zero (text_parts at slot track q)
    (record { flag = flag; rest = rest; begins = e; wrong = wrong })

front_len : (at : TrackAt) (flag : ℕ) (r0 : List ℕ) → length r0 ≡ 8 → length (home_text at flag ++ zero_text at r0) ≡ 21
front_len at flag r0 len = omega (arith, len)

pub no_records : (at : TrackAt) (slot : List ℕ) → ¬ HasRecords at slot 21 → (track : Track) → ¬ IsTrackText at slot track
no_records at slot none track q =
    none (record {
      front = home_text at track.flag ++ zero_text at track.r0;
      records = track.recs;
      rest = q.text.0;
      start_is = front_len at track.flag track.r0 q.sound.zero;
      each = q.sound.records;
      spelled = text_parts at slot track q ∙ sym (append_assoc (home_text at track.flag) (zero_text at track.r0) (records_text at track.recs ++ (end_mark ++ q.text.0)));
    })

-- the home address and that of record 0 are written over
pub front_moved : (from to : TrackAt) (old mid new : List ℕ) (flag : ℕ) (r0 more : List ℕ) → length r0 ≡ 8
    → old ≡ home_text from flag ++ (zero_text from r0 ++ more)
    → mid ≡ take 1 old ++ (address to ++ drop 5 old) → new ≡ take 5 mid ++ (address to ++ drop 9 mid)
    → new ≡ home_text to flag ++ (zero_text to r0 ++ more)
front_moved from to old mid new flag r0 more len e first second =
    let mid_is : mid ≡ home_text to flag ++ (zero_text from r0 ++ more) = first ∙ ap (λ (t : List ℕ). take 1 t ++ (address to ++ drop 5 t)) e in
    second ∙ ap (λ (t : List ℕ). take 5 t ++ (address to ++ drop 9 t)) mid_is

pub records_again : (from to : TrackAt) (old new : List ℕ) (flag : ℕ) (r0 more : List ℕ) → length r0 ≡ 8
    → old ≡ home_text from flag ++ (zero_text from r0 ++ more) → new ≡ home_text to flag ++ (zero_text to r0 ++ more)
    → HasRecords from old 21 → HasRecords from new 21
records_again from to old new flag r0 more len e f h =
    let both = split_same (home_text from flag ++ zero_text from r0) h.front more _ (front_len from flag r0 len ∙ sym h.start_is)
    (append_assoc (home_text from flag) (zero_text from r0) more ∙ sym e ∙ h.spelled) in
    record {
      front = home_text to flag ++ zero_text to r0;
      records = h.records;
      rest = h.rest;
      start_is = front_len to flag r0 len;
      each = h.each;
      spelled = f ∙ sym (append_assoc (home_text to flag) (zero_text to r0) more) ∙ ap (λ (t : List ℕ). (home_text to flag ++ zero_text to r0) ++ t) both.1;
    }

pub all_moved : (from to : TrackAt) (old mid new : List ℕ) (flag : ℕ) (r0 more : List ℕ) → length r0 ≡ 8
    → old ≡ home_text from flag ++ (zero_text from r0 ++ more) → mid ≡ home_text to flag ++ (zero_text to r0 ++ more)
    → RecordsMoved from to mid new 21 → IsReaddressed from to old new
all_moved from to old mid new flag r0 more len e f m =
    let both = split_same (home_text to flag ++ zero_text to r0) m.front more _ (front_len to flag r0 len ∙ sym m.start_is)
    (append_assoc (home_text to flag) (zero_text to r0) more ∙ sym f ∙ m.before) in
    let track : Track = record { flag = flag; r0 = r0; recs = m.records } in
    record {
      track = track;
      rest = m.rest;
      sound = record { zero = len; records = m.each };
      before = e ∙ ap (λ (t : List ℕ). home_text from flag ++ (zero_text from r0 ++ t)) both.1 ∙ sym (parts_of from track m.rest);
      after = m.after ∙ ap (λ (t : List ℕ). t ++ (records_text to m.records ++ (end_mark ++ m.rest))) (sym both.0)
          ∙ append_assoc (home_text to flag) (zero_text to r0) (records_text to m.records ++ (end_mark ++ m.rest)) ∙ sym (parts_of to track m.rest);
    }
