-- A pointer that is written.
use Rattle.std.proofs.Common.{◌≡◌, ℕ, ◌+◌, ◌*◌, ◌/◌, ◌%◌, ◌<◌, List, length, get_or, Bool, false, cond, ◌==◌, ◌&&◌, Option, Some, None, IfSome, ap, ◌∙◌, arith}
use Rattle.std.proofs.lemmas.Bool.Decides.{nat_tests}
use Rattle.ckd_image.specs.declared.track.Cchhr.{Cchhr}
use Rattle.ckd_image.specs.Address.{cchhr_text, IsCchhr}
use Rattle.ckd_image.specs.Body.{over}
use Rattle.volume_model.specs.Dscbs.{pointer_in}
use Rattle.vtoc_core.proofs.Overs.{get_within}
use Rattle.vtoc_core.proofs.Written.{two_bytes}
use Rattle.dscb_made.specs.Pointers.{pointer_text, IsPlaceOfRecord, IsPointerPut}
use Rattle.std.proofs.Math.Bool.{and-false}

-- the pointer of five bytes
abbrev pointer_by : ℕ → ℕ → ℕ → ℕ → ℕ → Option Cchhr
pointer_by a b c d e =
    cond (((256 * a + b) == 0) && ((256 * c + d) == 0) && (e == 0)) None (Some (record { at = record { cylinder = 256 * a + b; head = 256 * c + d }; r = e }))

pointer_from : (bytes : List ℕ) (a b c d e : ℕ) → get_or bytes 135 0 ≡ a → get_or bytes 136 0 ≡ b → get_or bytes 137 0 ≡ c → get_or bytes 138 0 ≡ d → get_or bytes 139 0 ≡ e
    → pointer_in bytes ≡ pointer_by a b c d e
pointer_from bytes a b c d e p q r s t = (λ i. pointer_by (p i) (q i) (r i) (s i) (t i))

numbered : (n : ℕ) → (n ≡ 0 → ⊥) → (n == 0) ≡ false
numbered n e = grind (arith, nat_tests)

some_pointer : (place : Cchhr) → IsCchhr place → IsPlaceOfRecord place
    → pointer_by (place.at.cylinder / 256 % 256) (place.at.cylinder % 256) (place.at.head / 256 % 256) (place.at.head % 256) place.r ≡ Some place
some_pointer place fits there =
    (λ i. cond (((cylinder i == 0) && (head i == 0)) && numbered place.r there i) none (Some (record { at = record { cylinder = cylinder i; head = head i }; r = place.r })))
    ∙ ap (λ (b : Bool). cond b none (Some place)) (and-false ((place.at.cylinder == 0) && (place.at.head == 0)))
  where
    none : Option Cchhr
    none = None

    cylinder : 256 * (place.at.cylinder / 256 % 256) + place.at.cylinder % 256 ≡ place.at.cylinder
    cylinder = two_bytes place.at.cylinder fits.0.0

    head : 256 * (place.at.head / 256 % 256) + place.at.head % 256 ≡ place.at.head
    head = two_bytes place.at.head fits.0.1

pub no_pointer : (bytes : List ℕ) → get_or bytes 135 0 ≡ 0 → get_or bytes 136 0 ≡ 0 → get_or bytes 137 0 ≡ 0 → get_or bytes 138 0 ≡ 0 → get_or bytes 139 0 ≡ 0 → pointer_in bytes ≡ None
no_pointer bytes p q r s t = pointer_from bytes 0 0 0 0 0 p q r s t

pub pointer_put : (next : Option Cchhr) (old new : List ℕ) → length old ≡ 140 → IfSome next IsCchhr → IfSome next IsPlaceOfRecord → new ≡ over 135 (pointer_text next) old → IsPointerPut next old new
pointer_put None old new long fits there made = record { made = made; reads = pointer_from new 0 0 0 0 0 (at 0 (omega arith)) (at 1 (omega arith)) (at 2 (omega arith)) (at 3 (omega arith)) (at 4 (omega arith)) }
  where
    at : (k : ℕ) → k < 5 → get_or new (135 + k) 0 ≡ get_or (pointer_text None) k 0
    at k less = ap (λ (bytes : List ℕ). get_or bytes (135 + k) 0) made ∙ get_within 135 (pointer_text None) old k (omega (arith, long)) less
pointer_put (Some place) old new long fits there made = record {
  made = made;
  reads =
      pointer_from new (place.at.cylinder / 256 % 256) (place.at.cylinder % 256) (place.at.head / 256 % 256) (place.at.head % 256) place.r
      (at 0 (omega arith)) (at 1 (omega arith)) (at 2 (omega arith)) (at 3 (omega arith)) (at 4 (omega arith))
      ∙ some_pointer place fits there;
}
  where
    at : (k : ℕ) → k < 5 → get_or new (135 + k) 0 ≡ get_or (cchhr_text place) k 0
    at k less = ap (λ (bytes : List ℕ). get_or bytes (135 + k) 0) made ∙ get_within 135 (cchhr_text place) old k (omega (arith, long)) less
