-- What a label's body spells is read off it.
use Rattle.std.proofs.Common.{◌≡◌, ℕ, List, ◌∷◌, ◌++◌, length, sym, ◌∙◌, subst, ap}
use Rattle.ckd_image.specs.declared.track.Cchhr.{Cchhr}
use Rattle.ckd_image.specs.declared.head.Head.{Head}
use Rattle.ckd_image.specs.Address.{cchhr_text, IsCchhr}
use Rattle.ckd_image.proofs.OneText.{split_same, cchhr_text-injective}
use Rattle.vol_label.specs.declared.label.Label.{Label}
use Rattle.vol_label.specs.Serial.{IsSerial}
use Rattle.vol_label.specs.Label.{label_key, IsInside, IsLabelText}

-- the parts that the readers found, in one text
pub spelled_by : (body behind_key text behind_text : List ℕ) (security : ℕ) (behind_security : List ℕ) (vtoc : Cchhr) (rest : List ℕ)
    → body ≡ label_key ++ behind_key → behind_key ≡ text ++ behind_text → behind_text ≡ security ∷ behind_security → behind_security ≡ cchhr_text vtoc ++ rest
    → body ≡ label_key ++ (text ++ (security ∷ (cchhr_text vtoc ++ rest)))
spelled_by body a text b security d vtoc rest p q r s =
    p ∙ ap (λ (t : List ℕ). label_key ++ t) (q ∙ ap (λ (t : List ℕ). text ++ t) (r ∙ ap (λ (t : List ℕ). security ∷ t) s))

-- a label that the body spells has this serial and this pointer
pub record IsSame (label : Label) (text : List ℕ) (vtoc : Cchhr) : Type 0 where
  pub serial : label.serial.text ≡ text
  pub vtoc_is : label.vtoc ≡ vtoc

pub same_label : (head : Head) (body text : List ℕ) (security : ℕ) (vtoc : Cchhr) (rest : List ℕ) (label : Label)
    → body ≡ label_key ++ (text ++ (security ∷ (cchhr_text vtoc ++ rest))) → length text ≡ 6 → IsCchhr vtoc
    → IsLabelText head body label → IsSame label text vtoc
same_label head body text security vtoc rest label e six fits h =
    let both : label_key ++ (label.serial.text ++ (h.security ∷ (cchhr_text label.vtoc ++ h.rest))) ≡ label_key ++ (text ++ (security ∷ (cchhr_text vtoc ++ rest))) = sym h.spelled ∙ e in
    let behind_key : label.serial.text ++ (h.security ∷ (cchhr_text label.vtoc ++ h.rest)) ≡ text ++ (security ∷ (cchhr_text vtoc ++ rest)) = cc in
    let parts = split_same label.serial.text text _ _ (h.serial.1.six ∙ sym six) behind_key in
    let tails : h.security ∷ (cchhr_text label.vtoc ++ h.rest) ≡ security ∷ (cchhr_text vtoc ++ rest) = parts.1 in
    let pointers : cchhr_text label.vtoc ++ h.rest ≡ cchhr_text vtoc ++ rest = cc in
    record { serial = parts.0; vtoc_is = (cchhr_text-injective label.vtoc vtoc h.rest rest h.numbers fits pointers).0 }

pub other_serial : (head : Head) (body text : List ℕ) (security : ℕ) (vtoc : Cchhr) (rest : List ℕ)
    → body ≡ label_key ++ (text ++ (security ∷ (cchhr_text vtoc ++ rest))) → length text ≡ 6 → IsCchhr vtoc
    → ¬ IsSerial text → (label : Label) → ¬ IsLabelText head body label
other_serial head body text security vtoc rest e six fits none label h =
    none (subst IsSerial (same_label head body text security vtoc rest label e six fits h).serial h.serial)

pub other_pointer : (head : Head) (body text : List ℕ) (security : ℕ) (vtoc : Cchhr) (rest : List ℕ)
    → body ≡ label_key ++ (text ++ (security ∷ (cchhr_text vtoc ++ rest))) → length text ≡ 6 → IsCchhr vtoc
    → ¬ IsInside head vtoc → (label : Label) → ¬ IsLabelText head body label
other_pointer head body text security vtoc rest e six fits none label h =
    let P : Cchhr → Type 0 = λ place. IsInside head place in
    none (subst P (same_label head body text security vtoc rest label e six fits h).vtoc_is h.inside)
