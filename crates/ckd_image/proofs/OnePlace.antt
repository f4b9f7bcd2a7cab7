-- One field at most is the first that is wrong, at one place.
use Rattle.std.proofs.Common.{◌≡◌, ◌⊎◌, ℕ, ◌+◌, ◌≤◌, List, ◌++◌, length, All, refl, sym, ap, subst, ◌∙◌, append_assoc, arith, inl, inr}
use Rattle.ckd_image.specs.declared.track.TrackAt.{TrackAt}
use Rattle.ckd_image.specs.declared.track.Count.{Count}
use Rattle.ckd_image.specs.declared.track.Rec.{Rec}
use Rattle.ckd_image.specs.declared.track.TrackField.{TrackField}
use Rattle.ckd_image.specs.declared.track.TrackField.TheVariants as fields
use Rattle.ckd_image.specs.Bytes.{Begins}
use Rattle.ckd_image.specs.Track.{record_text, records_text, home_text, zero_text, IsRecord}
use Rattle.ckd_image.specs.TrackFault.{IsWrongAddress, IsWrongRecord, IsWrongNext, IsWrongBody, IsWrongZeroCount, IsWrongZeroAt, IsWrongZero, IsFirstWrong}
use Rattle.ckd_image.specs.Address.{IsAddress}
use Rattle.ckd_image.proofs.OneText.{count_text-injective, records_apart, right_record, right_front, same_front}
use Rattle.ckd_image.proofs.Texts.{texts_split}

-- two places of two fields are one
pub record Same (p q : ℕ) (f g : TrackField) : Type 0 where
  pub place : p ≡ q
  pub field : f ≡ g

one_address : (at : TrackAt) (a b : Count) (p q : ℕ) → a ≡ b → IsWrongAddress at a p → IsWrongAddress at b q → p ≡ q
one_address at a b p q same (inl u) (inl v) = omega (arith, u.0, v.0)
one_address at a b p q same (inl u) (inr v) = absurd (u.1 (ap (λ (c : Count). c.at) same ∙ v.1))
one_address at a b p q same (inr u) (inl v) = absurd (v.1 (sym (ap (λ (c : Count). c.at) same) ∙ u.1))
one_address at a b p q same (inr u) (inr v) = omega (arith, u.0, v.0)

-- a right address isn't wrong
right_address : (at : TrackAt) (a b : Count) (p : ℕ) → a ≡ b → IsWrongAddress at a p → b.at ≡ at → 1 ≤ b.r → ⊥
right_address at a b p same (inl u) is r = u.1 (ap (λ (c : Count). c.at) same ∙ is)
right_address at a b p same (inr u) is r = omega (arith, u.2, ap (λ (c : Count). c.r) same, r)

one_count : (at : TrackAt) (bytes : List ℕ) (p q : ℕ) (f g : TrackField) (u : IsWrongRecord at bytes p f) (v : IsWrongRecord at bytes q g) → u.count ≡ v.count
one_count at bytes p q f g u v = (count_text-injective u.count v.count u.rest v.rest u.numbers v.numbers (sym u.begins ∙ v.begins)).0

long : (at : TrackAt) (bytes : List ℕ) (p : ℕ) (f : TrackField) → IsWrongRecord at bytes p f → 8 ≤ length bytes
long at bytes p f u = omega (arith, ap length u.begins)

one_next : (at : TrackAt) (bytes : List ℕ) (p q : ℕ) (f g : TrackField) → IsWrongNext at bytes p f → IsWrongNext at bytes q g → Same p q f g
one_next at bytes p q fields.Home g u v = absurd u.0.wrong
one_next at bytes p q fields.Zero g u v = absurd u.0.wrong
one_next at bytes p q fields.Address fields.Home u v = absurd v.0.wrong
one_next at bytes p q fields.Address fields.Zero u v = absurd v.0.wrong
one_next at bytes p q fields.Address fields.Address u v = record { place = one_address at u.0.count v.0.count p q (one_count at bytes p q fields.Address fields.Address u.0 v.0) u.0.wrong v.0.wrong; field = refl }
one_next at bytes p q fields.Address fields.Length u v = absurd (right_address at u.0.count v.0.count p (one_count at bytes p q fields.Address fields.Length u.0 v.0) u.0.wrong v.0.wrong.1 v.0.wrong.2)
one_next at bytes p q fields.Address fields.End u v = absurd (omega (arith, long at bytes p fields.Address u.0, v.1))
one_next at bytes p q fields.Length fields.Home u v = absurd v.0.wrong
one_next at bytes p q fields.Length fields.Zero u v = absurd v.0.wrong
one_next at bytes p q fields.Length fields.Address u v = absurd (right_address at v.0.count u.0.count q (sym (one_count at bytes p q fields.Length fields.Address u.0 v.0)) v.0.wrong u.0.wrong.1 u.0.wrong.2)
one_next at bytes p q fields.Length fields.Length u v = record { place = u.0.wrong.0 ∙ sym v.0.wrong.0; field = refl }
one_next at bytes p q fields.Length fields.End u v = absurd (omega (arith, long at bytes p fields.Length u.0, v.1))
one_next at bytes p q fields.End fields.Home u v = absurd v.0.wrong
one_next at bytes p q fields.End fields.Zero u v = absurd v.0.wrong
one_next at bytes p q fields.End fields.Address u v = absurd (omega (arith, long at bytes q fields.Address v.0, u.1))
one_next at bytes p q fields.End fields.Length u v = absurd (omega (arith, long at bytes q fields.Length v.0, u.1))
one_next at bytes p q fields.End fields.End u v = record { place = u.0 ∙ sym v.0; field = refl }

-- the lists of records before the place are one, and so is what is wrong
one_list : (at : TrackAt) (a b : List Rec) (x y : List ℕ) (p q : ℕ) (f g : TrackField) → IsAddress at → All IsRecord a → All IsRecord b
    → records_text at a ++ x ≡ records_text at b ++ y → IsWrongNext at x p f → IsWrongNext at y q g
    → Same (length (records_text at a) + p) (length (records_text at b) + q) f g
one_list at a b x y p q f g s t u e v w =
    let stop : List ℕ → Type 0 = λ t. IsWrongNext at t p f ⊎ IsWrongNext at t q g in
    let both = texts_split (record_text at) IsRecord stop (records_apart at s)
    (λ c z k h. elim h [ inl wrong ↦ right_record at c z p f s k wrong | inr wrong ↦ right_record at c z q g s k wrong ])
    a b x y t u (inl v) (inr w) e in
    let P : List ℕ → Type 0 = λ bytes. IsWrongNext at bytes p f in
    let same = one_next at y p q f g (subst P both.1 v) w in
    record { place = omega (arith, same.place, ap (λ (rs : List Rec). length (records_text at rs)) both.0); field = same.field }

one_body : (at : TrackAt) (slot : List ℕ) (o n : ℕ) (f g : TrackField) → IsAddress at → IsWrongBody at slot o f → IsWrongBody at slot n g → Same o n f g
one_body at slot o n f g s u v =
    let front = same_front at u.flag v.flag u.r0 v.r0 u.rest v.rest u.zero v.zero
    (sym (append_assoc (home_text at u.flag) (zero_text at u.r0) u.rest) ∙ sym u.begins ∙ v.begins ∙ append_assoc (home_text at v.flag) (zero_text at v.r0) v.rest) in
    let same = one_list at u.wrong.records v.wrong.records u.wrong.rest v.wrong.rest u.wrong.within v.wrong.within f g s
    u.wrong.each v.wrong.each
    (sym u.wrong.behind ∙ front.2 ∙ v.wrong.behind) u.wrong.wrong v.wrong.wrong in
    record { place = omega (arith, same.place, u.offset_is, v.offset_is, u.wrong.place_is, v.wrong.place_is); field = same.field }

body_home : (at : TrackAt) (slot : List ℕ) (o : ℕ) (f : TrackField) (u : IsWrongBody at slot o f) → Begins (home_text at u.flag) slot
body_home at slot o f u = (zero_text at u.r0 ++ u.rest, u.begins ∙ append_assoc (home_text at u.flag) (zero_text at u.r0) u.rest)

no_zero : (at : TrackAt) (slot : List ℕ) (o n : ℕ) (f : TrackField) → IsAddress at → IsWrongBody at slot o f → ¬ IsWrongZero at slot n
no_zero at slot o n f s u v = right_front at slot u.r0 u.rest u.flag n s u.zero (u.begins ∙ append_assoc (home_text at u.flag) (zero_text at u.r0) u.rest) v

-- one place of record 0's count field is the first that is wrong
one_zero_count : (at : TrackAt) (a b : Count) (o n : ℕ) → a ≡ b → IsWrongZeroCount at a o → IsWrongZeroCount at b n → o ≡ n
one_zero_count at a b o n same (inl u) (inl v) = omega (arith, u.0, v.0)
one_zero_count at a b o n same (inl u) (inr (inl v)) = absurd (u.1 (ap (λ (c : Count). c.at) same ∙ v.1))
one_zero_count at a b o n same (inl u) (inr (inr (inl v))) = absurd (u.1 (ap (λ (c : Count). c.at) same ∙ v.1))
one_zero_count at a b o n same (inl u) (inr (inr (inr v))) = absurd (u.1 (ap (λ (c : Count). c.at) same ∙ v.1))
one_zero_count at a b o n same (inr (inl u)) (inl v) = absurd (v.1 (sym (ap (λ (c : Count). c.at) same) ∙ u.1))
one_zero_count at a b o n same (inr (inl u)) (inr (inl v)) = omega (arith, u.0, v.0)
one_zero_count at a b o n same (inr (inl u)) (inr (inr (inl v))) = absurd (u.2 (ap (λ (c : Count). c.r) same ∙ v.2))
one_zero_count at a b o n same (inr (inl u)) (inr (inr (inr v))) = absurd (u.2 (ap (λ (c : Count). c.r) same ∙ v.2))
one_zero_count at a b o n same (inr (inr (inl u))) (inl v) = absurd (v.1 (sym (ap (λ (c : Count). c.at) same) ∙ u.1))
one_zero_count at a b o n same (inr (inr (inl u))) (inr (inl v)) = absurd (v.2 (sym (ap (λ (c : Count). c.r) same) ∙ u.2))
one_zero_count at a b o n same (inr (inr (inl u))) (inr (inr (inl v))) = omega (arith, u.0, v.0)
one_zero_count at a b o n same (inr (inr (inl u))) (inr (inr (inr v))) = absurd (u.3 (ap (λ (c : Count). c.key) same ∙ v.3))
one_zero_count at a b o n same (inr (inr (inr u))) (inl v) = absurd (v.1 (sym (ap (λ (c : Count). c.at) same) ∙ u.1))
one_zero_count at a b o n same (inr (inr (inr u))) (inr (inl v)) = absurd (v.2 (sym (ap (λ (c : Count). c.r) same) ∙ u.2))
one_zero_count at a b o n same (inr (inr (inr u))) (inr (inr (inl v))) = absurd (v.3 (sym (ap (λ (c : Count). c.key) same) ∙ u.3))
one_zero_count at a b o n same (inr (inr (inr u))) (inr (inr (inr v))) = omega (arith, u.0, v.0)

one_zero_at : (at : TrackAt) (x y : List ℕ) (o n : ℕ) → x ≡ y → IsWrongZeroAt at x o → IsWrongZeroAt at y n → o ≡ n
one_zero_at at x y o n same (inl u) (inl v) = omega (arith, u.0, v.0)
one_zero_at at x y o n same (inl u) (inr v) = absurd (omega (arith, u.1, ap length (same ∙ v.begins), v.long))
one_zero_at at x y o n same (inr u) (inl v) = absurd (omega (arith, v.1, ap length (sym same ∙ u.begins), u.long))
one_zero_at at x y o n same (inr u) (inr v) =
    one_zero_count at u.count v.count o n (count_text-injective u.count v.count u.rest v.rest u.numbers v.numbers (sym u.begins ∙ same ∙ v.begins)).0 u.wrong v.wrong

one_zero : (at : TrackAt) (slot : List ℕ) (o n : ℕ) → IsWrongZero at slot o → IsWrongZero at slot n → o ≡ n
one_zero at slot o n u v =
    let both : home_text at u.flag ++ u.rest ≡ home_text at v.flag ++ v.rest = sym u.begins ∙ v.begins in
    let rest-is : u.rest ≡ v.rest = cc in
    one_zero_at at u.rest v.rest o n rest-is u.wrong v.wrong

pub one_place : (at : TrackAt) (slot : List ℕ) (o n : ℕ) (f g : TrackField) → IsAddress at → IsFirstWrong at slot o f → IsFirstWrong at slot n g → Same o n f g
one_place at slot o n fields.Home fields.Home s u v = record { place = u.0 ∙ sym v.0; field = refl }
one_place at slot o n fields.Home fields.Zero s u v = absurd (u.1 v.flag (v.rest, v.begins))
one_place at slot o n fields.Home fields.Address s u v = absurd (u.1 v.flag (body_home at slot n fields.Address v))
one_place at slot o n fields.Home fields.Length s u v = absurd (u.1 v.flag (body_home at slot n fields.Length v))
one_place at slot o n fields.Home fields.End s u v = absurd (u.1 v.flag (body_home at slot n fields.End v))
one_place at slot o n fields.Zero fields.Home s u v = absurd (v.1 u.flag (u.rest, u.begins))
one_place at slot o n fields.Zero fields.Zero s u v = record { place = one_zero at slot o n u v; field = refl }
one_place at slot o n fields.Zero fields.Address s u v = absurd (no_zero at slot n o fields.Address s v u)
one_place at slot o n fields.Zero fields.Length s u v = absurd (no_zero at slot n o fields.Length s v u)
one_place at slot o n fields.Zero fields.End s u v = absurd (no_zero at slot n o fields.End s v u)
one_place at slot o n fields.Address fields.Home s u v = absurd (v.1 u.flag (body_home at slot o fields.Address u))
one_place at slot o n fields.Address fields.Zero s u v = absurd (no_zero at slot o n fields.Address s u v)
one_place at slot o n fields.Address fields.Address s u v = one_body at slot o n fields.Address fields.Address s u v
one_place at slot o n fields.Address fields.Length s u v = one_body at slot o n fields.Address fields.Length s u v
one_place at slot o n fields.Address fields.End s u v = one_body at slot o n fields.Address fields.End s u v
one_place at slot o n fields.Length fields.Home s u v = absurd (v.1 u.flag (body_home at slot o fields.Length u))
one_place at slot o n fields.Length fields.Zero s u v = absurd (no_zero at slot o n fields.Length s u v)
one_place at slot o n fields.Length fields.Address s u v = one_body at slot o n fields.Length fields.Address s u v
one_place at slot o n fields.Length fields.Length s u v = one_body at slot o n fields.Length fields.Length s u v
one_place at slot o n fields.Length fields.End s u v = one_body at slot o n fields.Length fields.End s u v
one_place at slot o n fields.End fields.Home s u v = absurd (v.1 u.flag (body_home at slot o fields.End u))
one_place at slot o n fields.End fields.Zero s u v = absurd (no_zero at slot o n fields.End s u v)
one_place at slot o n fields.End fields.Address s u v = one_body at slot o n fields.End fields.Address s u v
one_place at slot o n fields.End fields.Length s u v = one_body at slot o n fields.End fields.Length s u v
one_place at slot o n fields.End fields.End s u v = one_body at slot o n fields.End fields.End s u v
