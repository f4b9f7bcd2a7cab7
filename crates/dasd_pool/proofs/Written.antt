-- Texts that are sent piece by piece.
use Rattle.std.proofs.Common.{◌≡◌, ℕ, length, arith, length-append, List, [], ◌++◌, take, drop, Option, Some, None, refl, sym, ap, subst, ◌∙◌, append_assoc}
use Rattle.std.proofs.lemmas.List.{take-append-drop, append-nil}
use Rattle.std.proofs.Math.Seq.{take-append_seam}
use Rattle.dasd_pool.specs.Stream.{Appends, AppendsSome, Takes}
use Rattle.dasd_pool.proofs.Streams.{appends_then}

pub appends_none : (taken : Option (List ℕ)) → Appends taken taken []
appends_none None = refl
appends_none (Some old) = ap Some (sym (append-nil old))

pub takes_none : (left : Option (List ℕ)) → Takes left left []
takes_none None = refl
takes_none (Some text) = (text, refl, refl)

-- all of the text but the rest was written
pub record HasWritten (old new : Option (List ℕ)) (text rest : List ℕ) : Type 0 where
  pub done : List ℕ
  pub parts : text ≡ done ++ rest
  pub appends : Appends old new done

pub written_none : (old : Option (List ℕ)) (text : List ℕ) → HasWritten old old text text
written_none old text = record { done = []; parts = refl; appends = appends_none old }

pub written_more : (old mid new : Option (List ℕ)) (text rest : List ℕ) (count : ℕ) → HasWritten old mid text rest → Appends mid new (take count rest) → HasWritten old new text (drop count rest)
written_more old mid new text rest count h p = record {
  done = h.done ++ take count rest;
  parts = h.parts ∙ ap (λ (r : List ℕ). h.done ++ r) (sym (take-append-drop count rest)) ∙ sym (append_assoc h.done (take count rest) (drop count rest));
  appends = appends_then old mid new h.done (take count rest) h.appends p;
}

pub written_all : (old new : Option (List ℕ)) (text rest : List ℕ) → HasWritten old new text rest → rest ≡ [] → Appends old new text
written_all old new text rest h none =
    let P : List ℕ → Type 0 = λ t. Appends old new t in
    subst P (sym (h.parts ∙ ap (λ (r : List ℕ). h.done ++ r) none ∙ append-nil h.done)) h.appends

-- what is written is a front of the text
pub written_some : (old new : Option (List ℕ)) (text rest : List ℕ) → HasWritten old new text rest → AppendsSome old new text
written_some old new text rest h =
    let front : take (length h.done) text ≡ h.done = ap (λ (t : List ℕ). take (length h.done) t) h.parts ∙ take-append_seam h.done rest in
    let P : List ℕ → Type 0 = λ piece. Appends old new piece in
    (length h.done, omega (arith, ap length h.parts, length-append h.done rest), subst P (sym front) h.appends)

-- a refused write adds nothing
pub written_still : (old mid new : Option (List ℕ)) (text rest : List ℕ) → HasWritten old mid text rest → new ≡ mid → HasWritten old new text rest
written_still old mid new text rest h same = let P : Option (List ℕ) → Type 0 = λ taken. HasWritten old taken text rest in subst P (sym same) h
