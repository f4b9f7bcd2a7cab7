-- Texts that are written and read piece by piece.
use Rattle.std.proofs.Common.{◌≡◌, ◌==◌, Bool, false, ℕ, ◌+◌, ◌<◌, ◌≤◌, length, arith, length-append, List, [], ◌++◌, take, drop, Option, Some, None, Result, Ok, Err, refl, sym, ap, subst, ◌∙◌, append_assoc}
use Rattle.std.specs.Prelude.{IfSome, IfErr, OnErr}
use Rattle.std.proofs.lemmas.List.{take-append-drop, append-nil, length-take-le}
use Rattle.std.proofs.lemmas.Bool.{eqb-false}
use Rattle.std.proofs.Math.Seq.{take-append-add, take-append_seam}
use Rattle.dasd_pool.specs.Stream.{Appends, AppendsSome, Takes, EndsOnly}
use Rattle.run_lines.specs.Texts.{AppendsLess, IsTextOf, TakesFew}
use Rattle.dasd_pool.proofs.Streams.{appends_then, takes_then}

pub appends_none : (taken : Option (List ℕ)) → Appends taken taken []
appends_none None = refl
appends_none (Some old) = ap Some (sym (append-nil old))

-- all of the text but the rest was written
pub record HasWritten (old new : Option (List ℕ)) (text rest : List ℕ) : Type 0 where
  pub done : List ℕ
  pub parts : text ≡ done ++ rest
  pub appends : Appends old new done

pub written_none : (old : Option (List ℕ)) (text : List ℕ) → HasWritten old old text text
written_none old text = record { done = []; parts = refl; appends = appends_none old }

pub written_more : (old mid new : Option (List ℕ)) (text rest : List ℕ) (count : ℕ) → HasWritten old mid text rest → Appends mid new (take count rest) → HasWritten old new text (drop count rest)
written_more old mid new text rest count h p = record {
  done = h.done ++ take count rest;
  parts = h.parts ∙ ap (λ (r : List ℕ). h.done ++ r) (sym (take-append-drop count rest)) ∙ sym (append_assoc h.done (take count rest) (drop count rest));
  appends = appends_then old mid new h.done (take count rest) h.appends p;
}

pub written_all : (old new : Option (List ℕ)) (text rest : List ℕ) → HasWritten old new text rest → rest ≡ [] → Appends old new text
written_all old new text rest h none =
    let P : List ℕ → Type 0 = λ t. Appends old new t in
    subst P (sym (h.parts ∙ ap (λ (r : List ℕ). h.done ++ r) none ∙ append-nil h.done)) h.appends

-- what is written is a front of the text
pub written_some : (old new : Option (List ℕ)) (text rest : List ℕ) → HasWritten old new text rest → AppendsSome old new text
written_some old new text rest h =
    let front : take (length h.done) text ≡ h.done = ap (λ (t : List ℕ). take (length h.done) t) h.parts ∙ take-append_seam h.done rest in
    let P : List ℕ → Type 0 = λ piece. Appends old new piece in
    (length h.done, omega (arith, ap length h.parts, length-append h.done rest), subst P (sym front) h.appends)

-- and not all of it where something is left
pub written_less : (old new : Option (List ℕ)) (text rest : List ℕ) → HasWritten old new text rest → 0 < length rest → AppendsLess old new text
written_less old new text rest h more =
    let front : take (length h.done) text ≡ h.done = ap (λ (t : List ℕ). take (length h.done) t) h.parts ∙ take-append_seam h.done rest in
    let P : List ℕ → Type 0 = λ piece. Appends old new piece in
    (length h.done, omega (arith, ap length h.parts, length-append h.done rest, more), subst P (sym front) h.appends)

-- some of it is a front of it
pub less_some : (old new : Option (List ℕ)) (text : List ℕ) → AppendsLess old new text → AppendsSome old new text
less_some old new text (count, less, taken) = (count, omega (arith, less), taken)

-- all of a text, and not all of the next
pub appends_less_then : (old mid new : Option (List ℕ)) (x y : List ℕ) → Appends old mid x → AppendsLess mid new y → AppendsLess old new (x ++ y)
appends_less_then old mid new x y p (count, less, taken) =
    let both : x ++ take count y ≡ take (length x + count) (x ++ y) = sym (take-append-add x y count) in
    let P : List ℕ → Type 0 = λ piece. Appends old new piece in
    (length x + count, omega (arith, less, length-append x y), subst P both (appends_then old mid new x (take count y) p taken))

-- a refused write adds nothing
pub written_still : (old mid new : Option (List ℕ)) (text rest : List ℕ) → HasWritten old mid text rest → new ≡ mid → HasWritten old new text rest
written_still old mid new text rest h same = let P : Option (List ℕ) → Type 0 = λ taken. HasWritten old taken text rest in subst P (sym same) h

-- ---- a text that is read piece by piece

pub takes_none : (left : Option (List ℕ)) → Takes left left []
takes_none None = refl
takes_none (Some text) = (text, refl, refl)

-- nothing was read of a source that has nothing left
pub ends_still : (mid new : Option (List ℕ)) → Takes mid new [] → EndsOnly mid → EndsOnly new
ends_still None new p e = let P : Option (List ℕ) → Type 0 = EndsOnly in subst P (sym p) tt
ends_still (Some text) new p e = let P : Option (List ℕ) → Type 0 = EndsOnly in subst P (sym p.1) (sym p.2 ∙ e)

-- all that a source had was taken
pub took_all : (old mid : Option (List ℕ)) (text : List ℕ) → Takes old mid text → EndsOnly mid → IsTextOf old text
took_all None mid text p e = tt
took_all (Some old) mid text p e =
    let none : p.0 ≡ [] = let P : Option (List ℕ) → Type 0 = EndsOnly in subst P p.1 e in
    p.2 ∙ ap (λ (r : List ℕ). text ++ r) none ∙ append-nil text

-- a source had at least what was taken
pub had_more : (old mid : Option (List ℕ)) (text : List ℕ) (n : ℕ) → Takes old mid text → n < length text → IfSome old (λ bytes. n < length bytes)
had_more None mid text n p more = tt
had_more (Some old) mid text n p more = omega (arith, ap length p.2, length-append text p.0, more)

-- a piece more, of a room that is left
pub takes_few : (old mid new : Option (List ℕ)) (text piece : List ℕ) (count most : ℕ) → Takes old mid text → Takes mid new (take count piece) → count ≤ length piece
    → length text + length piece ≤ most → TakesFew most old new
takes_few old mid new text piece count most p q within room = (
  text ++ take count piece,
  omega (arith, length-append text (take count piece), length-take-le count piece within, within, room),
  takes_then old mid new text (take count piece) p q,
)

pub if_err : {X E : Type 0} (r : Result X E) (A : E → Type 0) (Q : Type 0) → Q → IfErr r (λ fault. A fault → Q)
if_err (Ok x) A Q q = tt
if_err (Err e) A Q q = λ h. q

-- a text that isn't empty has bytes
pub some_left : (rest : List ℕ) (empty : Bool) → empty ≡ (length rest == 0) → empty ≡ false → 0 < length rest
some_left rest empty says left = let other : length rest ≡ 0 → ⊥ = eqb-false (length rest) 0 (sym says ∙ left) in omega arith

pub on_err : {X E : Type 0} (r : Result X E) (Q : Type 0) → Q → OnErr r Q
on_err (Ok x) Q q = tt
on_err (Err e) Q q = q
