-- The pool in the middle of a slide stands for the volume after it.
use Rattle.std.proofs.Common.{◌≡◌, inl, inr, ℕ, ◌+◌, ◌<◌, ◌≤◌, [], ◌∷◌, true, false, if◌then◌else◌, refl, sym, ◌∙◌, arith}
use Rattle.std.specs.Prelude.{◌-◌, ◌&&◌, nat_le, nat_lt}
use Rattle.std.proofs.lemmas.Bool.{cases_lt}
use Rattle.std.proofs.lemmas.Bool.Decides.{nat_tests}
use Rattle.redo_core.specs.Reading.{IsControl}
use Rattle.volume_model.specs.Reads.{IsTextAt, IsOnline, IsVitalTrack}
use Rattle.volume_model.specs.Unit.{good, online}
use Rattle.move_core.specs.Stands.{place_in, Means}
use Rattle.open_samples.specs.Pool.{own_track, slots, volume_head, shape, blocks, facts}
use Rattle.open_samples.specs.Slide.{control, slide_control, own_texts, volume_at, SlideStands, holds_nothing, SlideStandsStill}
use Rattle.open_samples.proofs.Volume.{online_stands, texts_stand, first_text, last_text}
use Rattle.open_samples.proofs.Journal.{reading, units_are, unused, pool_stands, stands_still}
use Rattle.open_samples.proofs.Sliding.{a_b_slides}

-- ---- the places of the texts

abbrev place : ℕ → ℕ
place = place_in control 0

place_below : (track : ℕ) → 30 ≤ track → track < 45 → place track ≡ track - 15
place_below track low high =
    let done : (nat_le 30 track && nat_lt track 45) ≡ true = grind (arith, nat_tests) in
    (λ i. if done i then 15 + (track - 30) else track) ∙ omega (arith, low)

place_own : (track : ℕ) → 45 ≤ track → place track ≡ track
place_own track low =
    let left : (nat_le 30 track && nat_lt track 45) ≡ false = grind (arith, nat_tests) in
    (λ i. if left i then 15 + (track - 30) else track)

text_there : (number : ℕ) → number < 30 → IsTextAt 15 (place (30 + number)) (slots (place (30 + number))) (good (own_track number))
text_there number less = elim (cases_lt number 15) [
  | inl first ↦ first_text (place (30 + number)) number first (omega (arith, place_below (30 + number) (omega arith) (omega (arith, first))))
  | inr last ↦ last_text (place (30 + number)) number last (place_own (30 + number) (omega (arith, last)))
]

volume_there : IsOnline true place volume_head 60 slots (volume_at 30)
volume_there = online_stands true place own_texts (texts_stand place (λ number. good (own_track number)) text_there)

-- ---- the units

abbrev pool_means : Means shape (reading slide_control control) (online (volume_at 15) ∷ [])
pool_means = record {
  found = online (volume_at 30) ∷ [];
  found_are = units_are slide_control control (online (volume_at 30)) (refl, volume_there);
  after = (volume_at 30, volume_at 15, record { front = []; back = []; long = refl; before_is = refl; after_is = refl }, a_b_slides);
}

lawful : IsControl shape slide_control
lawful = record { known = omega arith; lawful = (omega arith, omega arith, omega arith, omega arith, omega arith) }

pub slide_stands : SlideStands
slide_stands = pool_stands slide_control control refl lawful (online (volume_at 15) ∷ []) pool_means

-- ---- tracks that hold nothing

not_vital : (b : ℕ) → b < 60 → IsVitalTrack place (volume_at 30) b → holds_nothing 0 b ≡ false
not_vital b less (inl tail) = absurd (omega (arith, less, tail))
not_vital b less (inr (inl first)) = grind (arith, nat_tests)
not_vital b less (inr (inr (inl vtoc))) = grind (arith, nat_tests)
not_vital b less (inr (inr (inr (track, inr none, at)))) = absurd none
not_vital b less (inr (inr (inr (track, inl own, at)))) = elim (cases_lt track 45) [
  | inl done ↦ (let is : b ≡ track - 15 = sym at ∙ place_below track own.0 done in grind (arith, nat_tests))
  | inr left ↦ (let is : b ≡ track = sym at ∙ place_own track left in grind (arith, nat_tests))
]

pub slide_stands_still : SlideStandsStill
unfolding slide_stands
slide_stands_still image same = stands_still holds_nothing facts (blocks slide_control) image (online (volume_at 15) ∷ []) slide_stands
    (unused slide_control control holds_nothing (online (volume_at 30)) (λ b. refl) not_vital) same
