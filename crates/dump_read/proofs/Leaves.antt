-- What may stand behind a front of texts of one kind.
use Rattle.std.proofs.Common.{◌≡◌, ℕ, ◌+◌, ◌<◌, List, ◌++◌, length, take, refl, sym, ap, subst, ◌∙◌, arith, length-append, append_assoc}
use Rattle.ckd_image.specs.Bytes.{Begins}
use Rattle.dump_read.specs.Fields.{GoesOn, IsFirstWrong}
use Rattle.dump_read.specs.TrackFields.{IsCut}
use Rattle.dump_read.proofs.Chains.{Then, front_of_more, behind_front}
use Rattle.ckd_image.proofs.OneText.{split_same}

-- these texts stand behind this front, and no others
pub record Leaves (Is : List ℕ → Type 0) (front : List ℕ) (Rest : List ℕ → Type 0) : Type 0 where
  pub on : (t : List ℕ) → Rest t → Is (front ++ t)
  pub only : (t : List ℕ) → Is (front ++ t) → Rest t

module _ (Is : List ℕ → Type 0) (front : List ℕ) (Rest : List ℕ → Type 0) (leaves : Leaves Is front Rest) where
  goes_behind : (x : List ℕ) → GoesOn Rest x → GoesOn Is (front ++ x)
  goes_behind x (text, is, begins) = (front ++ text, leaves.on text is, behind_front front x text begins)

  goes_only : (x : List ℕ) → GoesOn Is (front ++ x) → GoesOn Rest x
  goes_only x (text, is, (more, e)) = (x ++ more, leaves.only (x ++ more) (subst Is (e ∙ append_assoc front x more) is), (more, refl))

  -- what is wrong behind the front is wrong in the whole
  pub wrong_lifted : (bytes rest : List ℕ) (place len : ℕ) → bytes ≡ front ++ rest → IsFirstWrong Rest rest place len → IsFirstWrong Is bytes (length front + place) len
  wrong_lifted bytes rest place len is inner = record {
    front = front ++ inner.front;
    rest = inner.rest;
    spelled = is ∙ ap (λ (t : List ℕ). front ++ t) inner.spelled ∙ sym (append_assoc front inner.front inner.rest);
    place_is = length-append front inner.front ∙ ap (λ (n : ℕ). length front + n) inner.place_is;
    begun = goes_behind inner.front inner.begun;
    wrong = λ goes. inner.wrong (goes_only (inner.front ++ take len inner.rest) (subst (GoesOn Is) (append_assoc front inner.front (take len inner.rest)) goes));
  }

  -- what is cut behind the front is cut in the whole
  pub cut_lifted : (bytes rest : List ℕ) → bytes ≡ front ++ rest → IsCut Rest rest → IsCut Is bytes
  cut_lifted bytes rest e (text, is, begins, short) = (
    front ++ text,
    leaves.on text is,
    subst (λ (b : List ℕ). Begins b (front ++ text)) (sym e) (behind_front front rest text begins),
    omega (arith, ap length e, length-append front rest, length-append front text, short),
  )

pub leaves_both : (A B C : List ℕ → Type 0) (f g : List ℕ) → Leaves A f B → Leaves B g C → Leaves A (f ++ g) C
leaves_both A B C f g p q = record {
  on = λ t is. subst A (sym (append_assoc f g t)) (p.on (g ++ t) (q.on t is));
  only = λ t is. q.only t (p.only (g ++ t) (subst A (append_assoc f g t) is));
}

pub cut_as : (A B : List ℕ → Type 0) → ((t : List ℕ) → A t → B t) → (bytes : List ℕ) → IsCut A bytes → IsCut B bytes
cut_as A B as' bytes (text, is, begins, short) = (text, as' text is, begins, short)

module _ {X : Type 0} (May : X → Type 0) (text : X → List ℕ) (Rest : X → List ℕ → Type 0) (n : ℕ) (long : (x : X) → May x → length (text x) ≡ n) where
  -- a field leaves what may stand behind it
  pub leaves_field : (x : X) → May x → ((y : X) (r : List ℕ) → May y → text x ≡ text y → Rest y r → Rest x r) → Leaves (Then May text Rest) (text x) (Rest x)
  leaves_field x may agree = record {
    on = λ t is. record { value = x; may = may; rest = t; behind = is; spelled = refl };
    only = λ t is.
        let same = split_same (text x) (text is.value) t is.rest (long x may ∙ sym (long is.value is.may)) is.spelled in
        subst (Rest x) (sym same.1) (agree is.value is.rest is.may same.0 is.behind);
  }

  -- the bytes end in the field
  pub cut_here : (x : X) (r bytes : List ℕ) → May x → Rest x r → Begins bytes (text x) → length bytes < n → IsCut (Then May text Rest) bytes
  cut_here x r bytes may behind front short = (
    text x ++ r,
    record { value = x; may = may; rest = r; behind = behind; spelled = refl },
    front_of_more bytes (text x) r front,
    omega (arith, long x may, length-append (text x) r, short),
  )
