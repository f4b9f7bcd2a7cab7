-- A slot spells one track at most, and none where a field of it is wrong.
use Rattle.std.proofs.Common.{All, ◌⊎◌, inl, inr, ◌≡◌, ℕ, ◌≤◌, ◌/◌, ◌%◌, List, [], ◌∷◌, ◌++◌, length, Result, Ok, Err, refl, sym, ap, subst, ◌∙◌, append_assoc, arith, length-append}
use Rattle.std.specs.Prelude.{IfErr}
use Rattle.ckd_image.specs.declared.fault.CkdFault.{CkdFault}
use Rattle.ckd_image.specs.declared.fault.CkdFault.TheVariants.{BadHead, BadTrack, TrackFull, NoMemory}
use Rattle.ckd_image.specs.declared.track.TrackAt.{TrackAt}
use Rattle.ckd_image.specs.declared.track.Cchhr.{Cchhr}
use Rattle.ckd_image.specs.declared.track.Count.{Count}
use Rattle.ckd_image.specs.declared.track.Rec.{Rec}
use Rattle.ckd_image.specs.declared.track.Track.{Track}
use Rattle.ckd_image.specs.declared.track.TrackField.{TrackField}
use Rattle.ckd_image.specs.declared.track.TrackField.TheVariants as fields
use Rattle.ckd_image.specs.Bytes.{Begins}
use Rattle.ckd_image.specs.Track.{count_text, count_of, zero_count, record_text, records_text, end_mark, home_text, zero_text, track_text, IsRecord, IsTrackText}
use Rattle.ckd_image.specs.TrackFault.{IsCount, IsWrongNext, IsWrongBody, IsWrongZeroCount, IsWrongZero, IsFirstWrong, IsTrackFault}
use Rattle.ckd_image.specs.Address.{cchhr_text, IsAddress, IsCchhr}
use Rattle.ckd_image.proofs.Texts.{SelfDelimiting, texts_split}
use Rattle.ckd_image.proofs.Records.{same_address}

-- ---- fields

pub same_two : (m n : ℕ) → m ≤ 65535 → n ≤ 65535 → m / 256 % 256 ≡ n / 256 % 256 → m % 256 ≡ n % 256 → m ≡ n
same_two m n p q high low = omega arith

same_count : (a b : Count) → a.at ≡ b.at → a.r ≡ b.r → a.key ≡ b.key → a.body ≡ b.body → a ≡ b
same_count a b p q r s =
    let at-is : a ≡ record { at = b.at; r = a.r; key = a.key; body = a.body } = ap (λ (t : TrackAt). record { at = t; r = a.r; key = a.key; body = a.body }) p in
    let r-is : record { at = b.at; r = a.r; key = a.key; body = a.body } ≡ record { at = b.at; r = b.r; key = a.key; body = a.body } = ap (λ (t : ℕ). record { at = b.at; r = t; key = a.key; body = a.body }) q in
    let key-is : record { at = b.at; r = b.r; key = a.key; body = a.body } ≡ record { at = b.at; r = b.r; key = b.key; body = a.body } = ap (λ (t : ℕ). record { at = b.at; r = b.r; key = t; body = a.body }) r in
    at-is ∙ r-is ∙ key-is ∙ ap (λ (t : ℕ). record { at = b.at; r = b.r; key = b.key; body = t }) s

-- the bytes of a count field say what it is
pub count_text-injective : (a b : Count) (x y : List ℕ) → IsCount a → IsCount b → count_text a ++ x ≡ count_text b ++ y → (a ≡ b) × (x ≡ y)
count_text-injective a b x y p q e =
    let c1 : a.at.cylinder / 256 % 256 ≡ b.at.cylinder / 256 % 256 = cc in
    let c0 : a.at.cylinder % 256 ≡ b.at.cylinder % 256 = cc in
    let h1 : a.at.head / 256 % 256 ≡ b.at.head / 256 % 256 = cc in
    let h0 : a.at.head % 256 ≡ b.at.head % 256 = cc in
    let r : a.r ≡ b.r = cc in
    let key : a.key ≡ b.key = cc in
    let l1 : a.body / 256 % 256 ≡ b.body / 256 % 256 = cc in
    let l0 : a.body % 256 ≡ b.body % 256 = cc in
    let rest : x ≡ y = cc in (
      same_count a b
          (same_address a.at b.at (same_two _ _ p.cylinder q.cylinder c1 c0) (same_two _ _ p.head q.head h1 h0))
          r key (same_two _ _ p.body q.body l1 l0),
      rest,
    )

-- the bytes of a record's address say what it is
pub cchhr_text-injective : (a b : Cchhr) (x y : List ℕ) → IsCchhr a → IsCchhr b → cchhr_text a ++ x ≡ cchhr_text b ++ y → (a ≡ b) × (x ≡ y)
cchhr_text-injective a b x y p q e =
    let c1 : a.at.cylinder / 256 % 256 ≡ b.at.cylinder / 256 % 256 = cc in
    let c0 : a.at.cylinder % 256 ≡ b.at.cylinder % 256 = cc in
    let h1 : a.at.head / 256 % 256 ≡ b.at.head / 256 % 256 = cc in
    let h0 : a.at.head % 256 ≡ b.at.head % 256 = cc in
    let r : a.r ≡ b.r = cc in
    let rest : x ≡ y = cc in
    let at-is : a ≡ record { at = b.at; r = a.r } = ap (λ (t : TrackAt). record { at = t; r = a.r })
    (same_address a.at b.at (same_two _ _ p.0.0 q.0.0 c1 c0) (same_two _ _ p.0.1 q.0.1 h1 h0)) in
    (at-is ∙ ap (λ (t : ℕ). record { at = b.at; r = t }) r, rest)

pub split_same : (k l x y : List ℕ) → length k ≡ length l → k ++ x ≡ l ++ y → (k ≡ l) × (x ≡ y)
split_same [] [] x y len e = (refl, e)
split_same [] (b ∷ l) x y len e = absurd (omega arith)
split_same (a ∷ k) [] x y len e = absurd (omega arith)
split_same (a ∷ k) (b ∷ l) x y len e =
    let head : a ≡ b = cc in
    let tail : k ++ x ≡ l ++ y = cc in
    let both = split_same k l x y (omega arith) tail in
    let k-is : k ≡ l = both.0 in
    (cc, both.1)

-- ---- records

pub same_record : (a b : Rec) → a.r ≡ b.r → a.key ≡ b.key → a.body ≡ b.body → a ≡ b
same_record a b p q r =
    let r-is : a ≡ record { r = b.r; key = a.key; body = a.body } = ap (λ (t : ℕ). record { r = t; key = a.key; body = a.body }) p in
    let key-is : record { r = b.r; key = a.key; body = a.body } ≡ record { r = b.r; key = b.key; body = a.body } = ap (λ (t : List ℕ). record { r = b.r; key = t; body = a.body }) q in
    r-is ∙ key-is ∙ ap (λ (t : List ℕ). record { r = b.r; key = b.key; body = t }) r

pub IsCount-record : (at : TrackAt) (rec : Rec) → IsAddress at → IsRecord rec → IsCount (count_of at rec)
IsCount-record at rec p q = record { cylinder = p.0; head = p.1; r = q.number_fits; key = q.key_fits; body = q.body_fits }

pub record_text-injective : (at : TrackAt) (a b : Rec) (x y : List ℕ) → IsAddress at → IsRecord a → IsRecord b → record_text at a ++ x ≡ record_text at b ++ y → (a ≡ b) × (x ≡ y)
record_text-injective at a b x y p q r e =
    let counts = count_text-injective (count_of at a) (count_of at b) ((a.key ++ a.body) ++ x) ((b.key ++ b.body) ++ y) (IsCount-record at a p q) (IsCount-record at b p r) e in
    let keys : length a.key ≡ length b.key = ap (λ (c : Count). c.key) counts.0 in
    let bodies : length a.body ≡ length b.body = ap (λ (c : Count). c.body) counts.0 in
    let k = split_same a.key b.key (a.body ++ x) (b.body ++ y) keys (sym (append_assoc a.key a.body x) ∙ counts.1 ∙ append_assoc b.key b.body y) in
    let b-is = split_same a.body b.body x y bodies k.1 in
    (same_record a b (ap (λ (c : Count). c.r) counts.0) k.0 b-is.0, b-is.1)

-- no record in so few bytes begins as the end mark does
pub no_end_mark : (at : TrackAt) (rec : Rec) (x y : List ℕ) → IsRecord rec → length (record_text at rec ++ y) ≤ 65536 → end_mark ++ x ≡ record_text at rec ++ y → ⊥
no_end_mark at rec x y p short e =
    let key : 255 ≡ length rec.key = cc in
    let high : 255 ≡ length rec.body / 256 % 256 = cc in
    let low : 255 ≡ length rec.body % 256 = cc in
    omega (arith, p.body_fits, length-append (rec.key ++ rec.body) y, length-append rec.key rec.body)

-- what stops records: the end mark, in so few bytes
pub IsStopped : List ℕ → Type 0
IsStopped t = Begins end_mark t × (length t ≤ 65536)

pub is_stopped : (x : List ℕ) → length (end_mark ++ x) ≤ 65536 → IsStopped (end_mark ++ x)
unfolding IsStopped
is_stopped x short = ((x, refl), short)

pub not_stopped : (at : TrackAt) (rec : Rec) (x : List ℕ) → IsRecord rec → ¬ IsStopped (record_text at rec ++ x)
unfolding IsStopped
not_stopped at rec x p h = no_end_mark at rec h.0.0 x p h.1 (sym h.0.1)

-- what is behind records is no longer than all
pub behind_short : (at : TrackAt) (recs : List Rec) (x : List ℕ) → length (records_text at recs ++ x) ≤ 65536 → length x ≤ 65536
behind_short at recs x short = omega (arith, short, length-append (records_text at recs) x)

pub shift : (at : TrackAt) (rec : Rec) (recs : List Rec) (x : List ℕ) → records_text at (rec ∷ recs) ++ x ≡ record_text at rec ++ (records_text at recs ++ x)
shift at rec recs x = append_assoc (record_text at rec) (records_text at recs) x

pub records_apart : (at : TrackAt) → IsAddress at → SelfDelimiting (record_text at) IsRecord
records_apart at p = record { apart = λ a b x y q r e. record_text-injective at a b x y p q r e }

one_list : (at : TrackAt) (a b : List Rec) (x y : List ℕ) → IsAddress at → length (records_text at a ++ (end_mark ++ x)) ≤ 65536 → All IsRecord a → All IsRecord b
    → records_text at a ++ (end_mark ++ x) ≡ records_text at b ++ (end_mark ++ y) → a ≡ b
one_list at a b x y p short q r e =
    let long : length (records_text at b ++ (end_mark ++ y)) ≤ 65536 = omega (arith, short, ap length e) in
    (texts_split (record_text at) IsRecord IsStopped (records_apart at p)
    (λ c z s. not_stopped at c z s)
    a b (end_mark ++ x) (end_mark ++ y) q r (is_stopped x (behind_short at a (end_mark ++ x) short)) (is_stopped y (behind_short at b (end_mark ++ y) long)) e).0

-- where a record or the end mark stands, nothing is wrong
pub right_record : (at : TrackAt) (rec : Rec) (x : List ℕ) (place : ℕ) (field : TrackField) → IsAddress at → IsRecord rec → ¬ IsWrongNext at (record_text at rec ++ x) place field
right_record at rec x place fields.End p q w = omega (arith, w.1, length-append rec.key rec.body)
right_record at rec x place fields.Home p q w = w.0.wrong
right_record at rec x place fields.Zero p q w = w.0.wrong
right_record at rec x place fields.Address p q w =
    let same = count_text-injective (count_of at rec) w.0.count ((rec.key ++ rec.body) ++ x) w.0.rest (IsCount-record at rec p q) w.0.numbers w.0.begins in
    let at-is : at ≡ w.0.count.at = ap (λ (c : Count). c.at) same.0 in
    elim w.0.wrong [
      | inl c ↦ c.1 (sym at-is)
      | inr r ↦ omega (arith, r.2, ap (λ (c : Count). c.r) same.0, q.numbered)
    ]
right_record at rec x place fields.Length p q w =
    let same = count_text-injective (count_of at rec) w.0.count ((rec.key ++ rec.body) ++ x) w.0.rest (IsCount-record at rec p q) w.0.numbers w.0.begins in
    omega (arith, w.0.wrong.3, ap (λ (c : Count). c.key) same.0, ap (λ (c : Count). c.body) same.0, ap length same.1, length-append (rec.key ++ rec.body) x, length-append rec.key rec.body)

right_end : (at : TrackAt) (x : List ℕ) (place : ℕ) (field : TrackField) → ¬ IsWrongNext at (end_mark ++ x) place field
right_end at x place fields.End w = omega (arith, w.1)
right_end at x place fields.Home w = w.1 (x, refl)
right_end at x place fields.Zero w = w.1 (x, refl)
right_end at x place fields.Address w = w.1 (x, refl)
right_end at x place fields.Length w = w.1 (x, refl)

no_behind : (at : TrackAt) (recs front : List Rec) (x rest : List ℕ) (place : ℕ) (field : TrackField) → IsAddress at → length (records_text at recs ++ (end_mark ++ x)) ≤ 65536 → All IsRecord recs → All IsRecord front
    → records_text at recs ++ (end_mark ++ x) ≡ records_text at front ++ rest → ¬ IsWrongNext at rest place field
no_behind at recs front x rest place field p short q r e w =
    let stop : List ℕ → Type 0 = λ t. IsStopped t ⊎ IsWrongNext at t place field in
    let both = texts_split (record_text at) IsRecord stop (records_apart at p)
    (λ c z s h. elim h [
      | inl stopped ↦ not_stopped at c z s stopped
      | inr wrong ↦ right_record at c z place field p s wrong
    ])
    recs front (end_mark ++ x) rest q r (inl (is_stopped x (behind_short at recs (end_mark ++ x) short))) (inr w) e in
    let P : List ℕ → Type 0 = λ t. IsWrongNext at t place field in
    right_end at x place field (subst P (sym both.1) w)

-- ---- slots

-- a track text, with its parts to the right
pub parts_of : (at : TrackAt) (track : Track) (x : List ℕ) → track_text at track ++ x ≡ home_text at track.flag ++ (zero_text at track.r0 ++ (records_text at track.recs ++ (end_mark ++ x)))
parts_of at track x = simp append_assoc

pub same_track : (a b : Track) → a.flag ≡ b.flag → a.r0 ≡ b.r0 → a.recs ≡ b.recs → a ≡ b
same_track a b p q r =
    let flag-is : a ≡ record { flag = b.flag; r0 = a.r0; recs = a.recs } = ap (λ (t : ℕ). record { flag = t; r0 = a.r0; recs = a.recs }) p in
    let r0-is : record { flag = b.flag; r0 = a.r0; recs = a.recs } ≡ record { flag = b.flag; r0 = b.r0; recs = a.recs } = ap (λ (t : List ℕ). record { flag = b.flag; r0 = t; recs = a.recs }) q in
    flag-is ∙ r0-is ∙ ap (λ (t : List Rec). record { flag = b.flag; r0 = b.r0; recs = t }) r

-- flag, record 0 and what is behind them are read off a slot
pub same_front : (at : TrackAt) (f g : ℕ) (k l x y : List ℕ) → length k ≡ 8 → length l ≡ 8
    → home_text at f ++ (zero_text at k ++ x) ≡ home_text at g ++ (zero_text at l ++ y) → (f ≡ g) × (k ≡ l) × (x ≡ y)
same_front at f g k l x y p q e =
    let flag : f ≡ g = cc in
    let behind : k ++ x ≡ l ++ y = cc in
    let both = split_same k l x y (p ∙ sym q) behind in
    (flag, both.0, both.1)

-- what is behind flag, home address and record 0 is no longer than the slot
front_short : (at : TrackAt) (slot : List ℕ) (track : Track) (x : List ℕ) → length slot ≤ 65536 → slot ≡ track_text at track ++ x → length (records_text at track.recs ++ (end_mark ++ x)) ≤ 65536
front_short at slot track x short e =
    omega (arith, short, ap length (e ∙ parts_of at track x), length-append track.r0 (records_text at track.recs ++ (end_mark ++ x)))

pub one_text : (at : TrackAt) (slot : List ℕ) (a b : Track) → IsAddress at → length slot ≤ 65536 → IsTrackText at slot a → IsTrackText at slot b → a ≡ b
one_text at slot a b p short q r =
    let front = same_front at a.flag b.flag a.r0 b.r0 _ _ q.sound.zero r.sound.zero (sym (parts_of at a q.text.0) ∙ sym q.text.1 ∙ r.text.1 ∙ parts_of at b r.text.0) in
    same_track a b front.0 front.1 (one_list at a.recs b.recs q.text.0 r.text.0 p (front_short at slot a q.text.0 short q.text.1) q.sound.records r.sound.records front.2)

no_body : (at : TrackAt) (slot : List ℕ) (track : Track) (offset : ℕ) (field : TrackField) → IsAddress at → length slot ≤ 65536 → IsTrackText at slot track → ¬ IsWrongBody at slot offset field
no_body at slot track offset field p short q w =
    let front = same_front at track.flag w.flag track.r0 w.r0 _ _ q.sound.zero w.zero (sym (parts_of at track q.text.0) ∙ sym q.text.1 ∙ w.begins ∙ append_assoc (home_text at w.flag) (zero_text at w.r0) w.rest) in
    no_behind at track.recs w.wrong.records q.text.0 w.wrong.rest w.wrong.within field p
    (front_short at slot track q.text.0 short q.text.1)
    q.sound.records w.wrong.each
    (front.2 ∙ w.wrong.behind) w.wrong.wrong

-- record 0's count field is right
right_zero : (at : TrackAt) (count : Count) (offset : ℕ) → zero_count at ≡ count → ¬ IsWrongZeroCount at count offset
right_zero at count offset same (inl w) = w.1 (ap (λ (c : Count). c.at) (sym same))
right_zero at count offset same (inr (inl w)) = w.2 (ap (λ (c : Count). c.r) (sym same))
right_zero at count offset same (inr (inr (inl w))) = w.3 (ap (λ (c : Count). c.key) (sym same))
right_zero at count offset same (inr (inr (inr w))) = w.4 (ap (λ (c : Count). c.body) (sym same))

IsCount-zero : (at : TrackAt) → IsAddress at → IsCount (zero_count at)
IsCount-zero at p = record { cylinder = p.0; head = p.1; r = omega arith; key = omega arith; body = omega arith }

-- where record 0 stands, no field of it is wrong
pub right_front : (at : TrackAt) (slot r0 x : List ℕ) (flag offset : ℕ) → IsAddress at → length r0 ≡ 8 → slot ≡ home_text at flag ++ (zero_text at r0 ++ x) → ¬ IsWrongZero at slot offset
right_front at slot r0 x flag offset p len e w =
    let both : home_text at flag ++ (zero_text at r0 ++ x) ≡ home_text at w.flag ++ w.rest = sym e ∙ w.begins in
    let rest-is : zero_text at r0 ++ x ≡ w.rest = cc in
    elim w.wrong [
      | inl few ↦ omega (arith, few.1, ap length rest-is, length-append r0 x, len)
      | inr other ↦ right_zero at other.count offset
          (count_text-injective (zero_count at) other.count (r0 ++ x) other.rest (IsCount-zero at p) other.numbers (rest-is ∙ other.begins)).0 other.wrong
    ]

pub no_text_where_wrong : (at : TrackAt) (slot : List ℕ) (track : Track) (offset : ℕ) (field : TrackField) → IsAddress at → length slot ≤ 65536 → IsTrackText at slot track → ¬ IsFirstWrong at slot offset field
no_text_where_wrong at slot track offset fields.Home p short q w =
    w.1 track.flag (zero_text at track.r0 ++ (records_text at track.recs ++ (end_mark ++ q.text.0)), q.text.1 ∙ parts_of at track q.text.0)
no_text_where_wrong at slot track offset fields.Zero p short q w =
    right_front at slot track.r0 (records_text at track.recs ++ (end_mark ++ q.text.0)) track.flag offset p q.sound.zero (q.text.1 ∙ parts_of at track q.text.0) w
no_text_where_wrong at slot track offset fields.Address p short q w = no_body at slot track offset fields.Address p short q w
no_text_where_wrong at slot track offset fields.Length p short q w = no_body at slot track offset fields.Length p short q w
no_text_where_wrong at slot track offset fields.End p short q w = no_body at slot track offset fields.End p short q w

-- a refusal of a slot that spells a track is for want of memory
pub only_memory : (at : TrackAt) (slot : List ℕ) (r : Result Track CkdFault) → IsAddress at → length slot ≤ 65536 → IfErr r (IsTrackFault at slot) → IfErr r (λ e. (track : Track) → IsTrackText at slot track → e ≡ NoMemory)
only_memory at slot (Ok t) p short h = tt
only_memory at slot (Err (BadTrack offset why)) p short h = λ track q. absurd (no_text_where_wrong at slot track offset h.0 p short q h.2)
only_memory at slot (Err NoMemory) p short h = λ track q. refl
only_memory at slot (Err (BadHead n)) p short h = absurd h
only_memory at slot (Err (TrackFull m n)) p short h = absurd h
