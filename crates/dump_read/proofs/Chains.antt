-- Texts that are one field and then more.
use Rattle.std.proofs.Common.{◌≡◌, ℕ, zero, suc, ◌+◌, ◌-◌, ◌≤◌, List, [], ◌∷◌, ◌++◌, length, take, drop, replicate, refl, sym, ap, subst, ◌∙◌, arith, length-append, append_assoc}
use Rattle.std.proofs.lemmas.List.{take-append-drop, length-take}
use Rattle.ckd_image.specs.Bytes.{Begins}
use Rattle.dump_read.specs.Fields.{GoesOn, IsFirstWrong, IsFieldFront}
use Rattle.ckd_image.proofs.OneText.{split_same}

pub none_is : (w : List ℕ) → length w ≡ 0 → w ≡ []
none_is [] none = refl
none_is (x ∷ w) none = absurd (omega arith)

-- bytes no longer than the first text are a front of it
pub within_first : (bytes v rest : List ℕ) → length bytes ≤ length v → Begins bytes (v ++ rest) → Begins bytes v
within_first [] v rest short front = (v, refl)
within_first (x ∷ bytes) [] rest short front = absurd (omega arith)
within_first (x ∷ bytes) (y ∷ v) rest short (more, e) =
    let tail : v ++ rest ≡ bytes ++ more = cc in
    let head : y ≡ x = cc in
    let inner = within_first bytes v rest (omega arith) (more, tail) in
    let is : v ≡ bytes ++ inner.0 = inner.1 in
    (inner.0, cc)

pub front_of_more : (bytes v rest : List ℕ) → Begins bytes v → Begins bytes (v ++ rest)
front_of_more bytes v rest (more, e) = (more ++ rest, ap (λ (t : List ℕ). t ++ rest) e ∙ append_assoc bytes more rest)

pub behind_front : (v bytes text : List ℕ) → Begins bytes text → Begins (v ++ bytes) (v ++ text)
behind_front v bytes text (more, e) = (more, ap (λ (t : List ℕ). v ++ t) e ∙ sym (append_assoc v bytes more))

-- a field, and then a text that may stand behind it
pub record Then {X : Type 0} (May : X → Type 0) (text : X → List ℕ) (Rest : X → List ℕ → Type 0) (whole : List ℕ) : Type 0 where
  pub value : X
  pub may : May value
  pub rest : List ℕ
  pub behind : Rest value rest
  pub spelled : whole ≡ text value ++ rest

module _ {X : Type 0} (May : X → Type 0) (text : X → List ℕ) (Rest : X → List ℕ → Type 0) (n : ℕ) (long : (x : X) → May x → length (text x) ≡ n) where
  pub then_goes : (x : X) (xs : List ℕ) → May x → GoesOn (Rest x) xs → GoesOn (Then May text Rest) (text x ++ xs)
  then_goes x xs may (whole, is, front) =
      (text x ++ whole, record { value = x; may = may; rest = whole; behind = is; spelled = refl }, behind_front (text x) xs whole front)

  pub then_only : (x : X) (xs : List ℕ) → May x → ((y : X) (r : List ℕ) → May y → text x ≡ text y → Rest y r → Rest x r)
      → GoesOn (Then May text Rest) (text x ++ xs) → GoesOn (Rest x) xs
  then_only x xs may agree (whole, is, (more, e)) =
      let same = split_same (text x) (text is.value) (xs ++ more) is.rest (long x may ∙ sym (long is.value is.may)) (sym (append_assoc (text x) xs more) ∙ sym e ∙ is.spelled) in
      (is.rest, agree is.value is.rest is.may same.0 is.behind, (more, sym same.1))

  -- the front of the field alone
  pub field_goes : (x : X) (r bytes : List ℕ) → May x → Rest x r → Begins bytes (text x) → GoesOn (Then May text Rest) bytes
  field_goes x r bytes may behind front =
      (text x ++ r, record { value = x; may = may; rest = r; behind = behind; spelled = refl }, front_of_more bytes (text x) r front)

  pub field_only : (bytes : List ℕ) → length bytes ≤ n → GoesOn (Then May text Rest) bytes → IsFieldFront May text bytes
  field_only bytes short (whole, is, front) =
      (is.value, is.may, within_first bytes (text is.value) is.rest (let h = long is.value is.may in omega arith) (subst (Begins bytes) is.spelled front))

  -- the field itself is wrong
  pub wrong_here : (bytes r : List ℕ) (x : X) → May x → Rest x r → ¬ IsFieldFront May text (take n bytes) → IsFirstWrong (Then May text Rest) bytes 0 n
  wrong_here bytes r x may behind none = record {
    front = [];
    rest = bytes;
    spelled = refl;
    place_is = refl;
    begun = field_goes x r [] may behind (text x, refl);
    wrong = λ goes. none (field_only (take n bytes) (omega (arith, length-take n bytes)) goes);
  }

  -- what is behind the field is wrong
  pub wrong_behind : (bytes rest : List ℕ) (x : X) (place len : ℕ) → May x → bytes ≡ text x ++ rest → ((y : X) (r : List ℕ) → May y → text x ≡ text y → Rest y r → Rest x r)
      → IsFirstWrong (Rest x) rest place len → IsFirstWrong (Then May text Rest) bytes (n + place) len
  wrong_behind bytes rest x place len may is agree inner = record {
    front = text x ++ inner.front;
    rest = inner.rest;
    spelled = is ∙ ap (λ (t : List ℕ). text x ++ t) inner.spelled ∙ sym (append_assoc (text x) inner.front inner.rest);
    place_is = let a = long x may in let b = inner.place_is in let c = length-append (text x) inner.front in omega arith;
    begun = then_goes x inner.front may inner.begun;
    wrong = λ goes. inner.wrong (then_only x (inner.front ++ take len inner.rest) may agree
        (subst (GoesOn (Then May text Rest)) (append_assoc (text x) inner.front (take len inner.rest)) goes));
  }

  -- the bytes end behind the field
  pub cut_behind : (bytes rest : List ℕ) (x : X) → May x → bytes ≡ text x ++ rest → GoesOn (Rest x) rest → GoesOn (Then May text Rest) bytes
  cut_behind bytes rest x may is goes = subst (GoesOn (Then May text Rest)) (sym is) (then_goes x rest may goes)

-- ---- texts of one kind are those of another

pub goes_as : (A B : List ℕ → Type 0) → ((t : List ℕ) → A t → B t) → (bytes : List ℕ) → GoesOn A bytes → GoesOn B bytes
goes_as A B as' bytes (text, is, front) = (text, as' text is, front)

pub wrong_as : (A B : List ℕ → Type 0) → ((t : List ℕ) → A t → B t) → ((t : List ℕ) → B t → A t) → (bytes : List ℕ) (place len : ℕ)
    → IsFirstWrong A bytes place len → IsFirstWrong B bytes place len
wrong_as A B as' back bytes place len is = record {
  front = is.front;
  rest = is.rest;
  spelled = is.spelled;
  place_is = is.place_is;
  begun = goes_as A B as' is.front is.begun;
  wrong = λ goes. is.wrong (goes_as B A back (is.front ++ take len is.rest) goes);
}

-- ---- bytes that were written over others

zeros_left : (m n b : ℕ) → drop n (replicate m b) ≡ replicate (m - n) b
zeros_left m zero b = ap (λ (k : ℕ). replicate k b) (let e : m ≡ m - zero = omega arith in e)
zeros_left zero (suc n) b = ap (λ (k : ℕ). replicate k b) (let e : 0 ≡ 0 - suc n = omega arith in e)
zeros_left (suc m) (suc n) b = zeros_left m n b ∙ ap (λ (k : ℕ). replicate k b) (let e : m - n ≡ suc m - suc n = omega arith in e)

pub put_filled : (new piece : List ℕ) (n m b : ℕ) → n ≡ 0 + length piece → take n new ≡ piece → drop n new ≡ drop n (replicate m b) → new ≡ piece ++ replicate (m - length piece) b
put_filled new piece n m b is front behind =
    let len : n ≡ length piece = omega arith in
    sym (take-append-drop n new) ∙ ap (λ (t : List ℕ). t ++ drop n new) front
    ∙ ap (λ (t : List ℕ). piece ++ t) (behind ∙ zeros_left m n b ∙ ap (λ (k : ℕ). replicate (m - k) b) len)

-- ---- more behind

pub goes_before : (Is : List ℕ → Type 0) (bytes more : List ℕ) → GoesOn Is (bytes ++ more) → GoesOn Is bytes
goes_before Is bytes more (text, is, (rest, e)) = (text, is, (more ++ rest, e ∙ append_assoc bytes more rest))

take_more : (len : ℕ) (rest more : List ℕ) → Begins (take len rest) (take len (rest ++ more))
take_more zero rest more = ([], refl)
take_more (suc len) [] more = (take (suc len) more, refl)
take_more (suc len) (x ∷ rest) more = let inner = take_more len rest more in (inner.0, ap (λ (t : List ℕ). x ∷ t) inner.1)

-- what is wrong stays so, whatever stands behind it
pub wrong_with : (Is : List ℕ → Type 0) (bytes more : List ℕ) (place len : ℕ) → IsFirstWrong Is bytes place len → IsFirstWrong Is (bytes ++ more) place len
wrong_with Is bytes more place len is =
    let there = take_more len is.rest more in
    record {
      front = is.front;
      rest = is.rest ++ more;
      spelled = ap (λ (t : List ℕ). t ++ more) is.spelled ∙ append_assoc is.front is.rest more;
      place_is = is.place_is;
      begun = is.begun;
      wrong = λ goes. is.wrong (goes_before Is (is.front ++ take len is.rest) there.0
          (subst (GoesOn Is) (ap (λ (t : List ℕ). is.front ++ t) there.1 ∙ sym (append_assoc is.front (take len is.rest) there.0)) goes));
    }
