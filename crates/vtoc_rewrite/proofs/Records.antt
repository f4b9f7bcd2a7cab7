-- The record that an edit names, once the edits are made.
use Rattle.std.proofs.Common.{◌≡◌, ℕ, List, [], ◌∷◌, length, map, find, Bool, true, false, cond, ◌==◌, Option, Some, refl, sym, ap, ◌∙◌, arith}
use Rattle.std.proofs.lemmas.Bool.{eqb-true}
use Rattle.std.proofs.lemmas.Option.{same_Some}
use Rattle.std.proofs.lemmas.List.{length-take-le, length-drop, take-append-drop}
use Rattle.ckd_image.specs.declared.track.Rec.{Rec}
use Rattle.vol_label.specs.Label.{IsFirstNumbered}
use Rattle.volume_model.specs.declared.place.Placed.{Placed}
use Rattle.volume_model.specs.Sound.{IsDscbRecord, dscb_of}
use Rattle.vtoc_write.specs.Edited.{edit_of, rec_with, rec_after}
use Rattle.vtoc_write.proofs.Texts.{number_kept}

-- ---- the first with a number

number_found : (r : ℕ) (recs : List Rec) (rec : Rec) → IsFirstNumbered r recs rec → rec.r ≡ r
number_found r [] rec is = absurd (cc)
number_found r (x ∷ recs) rec is = by (x.r == r) refl is (λ found. number_found r recs rec found)
  where
    by : (same : Bool) → (x.r == r) ≡ same → cond same (Some x) (find (λ y. y.r == r) recs) ≡ Some rec → (IsFirstNumbered r recs rec → rec.r ≡ r) → rec.r ≡ r
    by true same found behind = ap (λ (y : Rec). y.r) (sym (same_Some x rec found)) ∙ eqb-true x.r r same
    by false same found behind = behind found

abbrev AfterFirst : List Placed → ℕ → ℕ → List Rec → Rec → Type 0
AfterFirst edits track r recs rec = IsFirstNumbered r (map (rec_after edits track) recs) (rec_after edits track rec)

first_after : (edits : List Placed) (track r : ℕ) (recs : List Rec) (rec : Rec) → IsFirstNumbered r recs rec → AfterFirst edits track r recs rec
first_after edits track r [] rec is = absurd (cc)
first_after edits track r (x ∷ recs) rec is =
    ap (λ (n : ℕ). cond (n == r) (Some (rec_after edits track x)) (find (λ y. y.r == r) (map (rec_after edits track) recs)))
    (number_kept x (edit_of edits (record { track = track; record_number = x.r })))
    ∙ by (x.r == r) is (λ found. first_after edits track r recs rec found)
  where
    by : (same : Bool) → cond same (Some x) (find (λ y. y.r == r) recs) ≡ Some rec → (IsFirstNumbered r recs rec → AfterFirst edits track r recs rec)
        → cond same (Some (rec_after edits track x)) (find (λ y. y.r == r) (map (rec_after edits track) recs)) ≡ Some (rec_after edits track rec)
    by true found behind = ap (λ (y : Rec). Some (rec_after edits track y)) (same_Some x rec found)
    by false found behind = behind found

-- ---- the one that is edited

module _ (edits : List Placed) (track r : ℕ) (recs : List Rec) (rec : Rec) (edit : Placed) (is : IsFirstNumbered r recs rec)
    (found : edit_of edits (record { track = track; record_number = r }) ≡ Some edit) (long : length edit.bytes ≡ 140) where
  abbrev pub edited : Rec
  edited = rec_with rec (Some edit)

  pub edited_first : IsFirstNumbered r (map (rec_after edits track) recs) edited
  edited_first =
      first_after edits track r recs rec is
      ∙ ap (λ (n : ℕ). Some (rec_with rec (edit_of edits (record { track = track; record_number = n })))) (number_found r recs rec is)
      ∙ ap (λ (e : Option Placed). Some (rec_with rec e)) found

  pub edited_shaped : IsDscbRecord edited
  edited_shaped = (length-take-le 44 edit.bytes (omega (arith, long)), omega (arith, long, length-drop 44 edit.bytes))

  pub edited_bytes : edit.bytes ≡ dscb_of edited
  edited_bytes = sym (take-append-drop 44 edit.bytes)
