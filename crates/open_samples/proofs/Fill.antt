-- The pool in the middle of a fill stands for an unfinished volume, and without the fill for what its blocks say.
use Rattle.std.proofs.Common.{◌≡◌, inl, inr, ℕ, ◌+◌, ◌<◌, List, [], ◌∷◌, Bool, true, false, if◌then◌else◌, refl, sym, ap, subst, ◌∙◌, arith}
use Rattle.std.specs.Prelude.{slice_get, Some}
use Rattle.std.proofs.lemmas.Bool.{cases_lt, lt-ltb, le-ltb}
use Rattle.std.proofs.lemmas.Bool.Decides.{nat_tests}
use Rattle.ckd_image.specs.Device.{heads_of}
use Rattle.redo_core.specs.declared.control.Control.{Control}
use Rattle.redo_core.specs.declared.control.Control.TheVariants.{Idle}
use Rattle.redo_core.specs.Reading.{IsControl}
use Rattle.volume_model.specs.declared.why.Why.TheVariants.{Filling}
use Rattle.volume_model.specs.Space.{track_at}
use Rattle.volume_model.specs.Reads.{IsTextAt, IsOnline, HasImage, HasLabelOf, IsVital}
use Rattle.volume_model.specs.Unit.{good, bad, UnitModel, online, offline}
use Rattle.volume_model.proofs.OneLabelled.{one_labelled}
use Rattle.move_core.specs.Stands.{AreUnits, IsAfterSlide, Means}
use Rattle.open_samples.specs.Pool.{own_track, slots, label_track, volume_head, shape, blocks, facts}
use Rattle.open_samples.specs.Fill.{fill_control, FillStands, is_other, FillStandsStill, found_text, found_volume, ClosedStands, ClosedIsOther}
use Rattle.open_samples.proofs.Volume.{head_is, head_stands, label_is, label_stands, first_stands, online_stands, texts_stand, last_text, no_text}
use Rattle.open_samples.proofs.Journal.{reading, units_are, unused, pool_stands, stands_still}

-- what the unit of a reading without a slide is, it means
pool_means : (flag : ℕ) (unit : UnitModel) → AreUnits shape (reading (fill_control flag) Idle) (unit ∷ [])
    → Means shape (reading (fill_control flag) Idle) (unit ∷ [])
pool_means flag unit are = record { found = unit ∷ []; found_are = are; after = refl }

no_slide : (flag : ℕ) → IsControl shape (fill_control flag)
no_slide flag = record { known = omega arith; lawful = tt }

-- ---- an open fill

has_image : HasImage volume_head 60 head_is
has_image = record { stands = head_stands; tracks_are = refl }

pub fill_stands : FillStands
unfolding pool_means
fill_stands =
    pool_stands (fill_control 1) Idle refl (no_slide 1) (offline Filling [] ∷ [])
    (pool_means 1 (offline Filling []) (units_are (fill_control 1) Idle (offline Filling []) (refl, (head_is, has_image), refl)))

labelled : HasLabelOf volume_head 60 slots head_is label_is
labelled = record { head_stands = has_image; text = label_track; text_stands = first_stands; stands = label_stands }

vital_kept : (b : ℕ) → b < 60 → IsVital (λ track. track) volume_head 60 slots (offline Filling []) b → is_other 0 b ≡ false
vital_kept b less (inl first) = grind (arith, nat_tests)
vital_kept b less (inr (image, label, has, at)) =
    let same = one_labelled volume_head 60 slots head_is image label_is label labelled has in
    let home : track_at (heads_of image.device) label.vtoc.at ≡ 1 = (λ i. track_at (heads_of (same.0 i).device) (same.1 i).vtoc.at) in
    let is : b ≡ 1 = sym at ∙ home in
    grind (arith, nat_tests)

pub fill_stands_still : FillStandsStill
unfolding fill_stands pool_means
fill_stands_still image same = stands_still is_other facts (blocks (fill_control 1)) image (offline Filling [] ∷ []) fill_stands
    (unused (fill_control 1) Idle is_other (offline Filling []) (λ b. refl) vital_kept) same

-- ---- the same blocks without it

text_there : (number : ℕ) → number < 30 → IsTextAt 15 (30 + number) (slots (30 + number)) (found_text number)
text_there number less =
    let track : ℕ = 30 + number in
    let Says : Bool → Type 0 = λ test. IsTextAt 15 track (slots track) (if test then bad [] else good (own_track number)) in
    elim (cases_lt number 15) [
      | inl first ↦ subst Says (sym (lt-ltb number 15 first)) (no_text track number first refl)
      | inr last ↦ subst Says (sym (le-ltb number 15 last)) (last_text track number last refl)
    ]

volume_there : IsOnline false (λ track. track) volume_head 60 slots found_volume
volume_there = online_stands false (λ track. track) _ (texts_stand (λ track. track) found_text text_there)

pub closed_stands : ClosedStands
closed_stands =
    pool_stands (fill_control 0) Idle refl (no_slide 0) (online found_volume ∷ [])
    (pool_means 0 (online found_volume) (units_are (fill_control 0) Idle (online found_volume) (refl, volume_there)))

pub closed_is_other : ClosedIsOther
closed_is_other stands =
    let r = stands.reading in
    let found : List UnitModel = stands.means.found in
    let same : offline Filling [] ∷ [] ≡ found =
    subst (λ (control : Control). IsAfterSlide r.room control found (offline Filling [] ∷ [])) stands.reads.obeys.control_is stands.means.after in
    let at : slice_get found 0 ≡ Some (offline Filling []) = sym (ap (λ (units : List UnitModel). slice_get units 0) same) in
    let filling : r.fills 0 ≡ true = (stands.means.found_are.each 0 (offline Filling []) at).0 in
    let off : r.fills 0 ≡ false = stands.reads.obeys.fills_are 0 (omega arith) in
    cc
