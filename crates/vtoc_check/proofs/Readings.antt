-- Tracks that are read, one after another.
use Rattle.std.proofs.Common.{◌≡◌, ℕ, ◌+◌, ◌-◌, ◌*◌, ◌<◌, ◌≤◌, List, [], ◌∷◌, ◌++◌, length, map, take, drop, get_or, sym, ap, ◌∙◌, subst, arith, ⊎_elim, Option, Some, None}
use Rattle.std.proofs.lemmas.Bool.{cases_lt}
use Rattle.std.proofs.lemmas.List.{get_or-map, length-map, get_or_append_left, length_push, get_or_default}
use Rattle.std.proofs.Math.Seq.{get_or-append_seam}
use Rattle.ckd_image.specs.declared.track.Rec.{Rec}
use Rattle.ckd_image.specs.Track.{IsRecord}
use Rattle.free_map.specs.declared.run.Run.{Run}
use Rattle.volume_model.specs.Sound.{Slots, IsTrackReading, IsVtocTrack, IsReading, dscb_of}
use Rattle.vtoc_check.specs.Places.{IsShort, AreShort}
use Rattle.vtoc_check.specs.Slots.{slot_in}
use Rattle.vtoc_check.proofs.ReadUpTo.{AreReadUpTo}

abbrev no_track : Option (List (List ℕ))
no_track = None

pub read_more : (heads : ℕ) (slots : Slots) (first count : ℕ) (tracks pushed : List (Option (List (List ℕ)))) (one : Option (List (List ℕ))) (track : ℕ) (slot : List ℕ)
    → pushed ≡ tracks ++ one ∷ [] → track ≡ first + count → slot ≡ slots (first + count) → IsTrackReading heads track slot one → AreReadUpTo heads slots first count tracks
    → AreReadUpTo heads slots first (count + 1) pushed
read_more heads slots first count tracks pushed one track slot is at from h before = record {
  long = ap length is ∙ length_push tracks one ∙ ap (λ (n : ℕ). n + 1) before.long;
  each = λ k lt. ⊎_elim (λ less. old k less) (λ over. new k (omega (arith, lt, over))) (cases_lt k count);
}
  where
    old : (k : ℕ) → k < count → IsTrackReading heads (first + k) (slots (first + k)) (get_or pushed k no_track)
    old k less =
        let P : Option (List (List ℕ)) → Type 0 = λ o. IsTrackReading heads (first + k) (slots (first + k)) o in
        subst P (sym (ap (λ (xs : List (Option (List (List ℕ)))). get_or xs k no_track) is ∙ get_or_append_left tracks (one ∷ []) no_track k (omega (arith, less, before.long)))) (before.each k less)

    new : (k : ℕ) → k ≡ count → IsTrackReading heads (first + k) (slots (first + k)) (get_or pushed k no_track)
    new k same =
        let last : get_or pushed k no_track ≡ one =
        ap (λ (xs : List (Option (List (List ℕ)))). get_or xs k no_track) is ∙ ap (λ (n : ℕ). get_or (tracks ++ one ∷ []) n no_track) (same ∙ sym before.long) ∙ get_or-append_seam tracks one [] no_track in
        let here : track ≡ first + k = at ∙ ap (λ (n : ℕ). first + n) (sym same) in
        let there : slot ≡ slots (first + k) = from ∙ ap (λ (n : ℕ). slots (first + n)) (sym same) in
        let P : Option (List (List ℕ)) → Type 0 = λ o. IsTrackReading heads (first + k) (slots (first + k)) o in
        let Q : ℕ → Type 0 = λ t. IsTrackReading heads t (slots (first + k)) one in
        let R : List ℕ → Type 0 = λ s. IsTrackReading heads track s one in
        subst P (sym last) (subst Q here (subst R there h))

pub slot_there : (run : Run) (size count n : ℕ) (bytes slot : List ℕ) → n ≡ size → slot ≡ take n (drop (count * n) bytes) → slot ≡ slot_in run size bytes (run.first + count)
slot_there run size count n bytes slot same is =
    let here : count ≡ run.first + count - run.first = omega arith in
    is ∙ ap (λ (m : ℕ). take m (drop (count * m) bytes)) same ∙ ap (λ (k : ℕ). take size (drop (k * size) bytes)) here

-- ---- a track has at most 255 records, since each has its number

abbrev no_rec : Rec
no_rec = record { r = 0; key = []; body = [] }

few_records : (heads track : ℕ) (slot : List ℕ) (dscbs : List (List ℕ)) → IsVtocTrack heads track slot dscbs → length dscbs ≤ 255
few_records heads track slot dscbs h = ⊎_elim (λ over. absurd (too_many over)) (λ le. omega (arith, le, long)) (cases_lt 255 (length h.text.recs))
  where
    long : length dscbs ≡ length h.text.recs
    long = let m : length (map dscb_of h.text.recs) ≡ length h.text.recs = simp length-map in ap length h.dscbs_are ∙ m

    too_many : 255 < length h.text.recs → ⊥
    too_many over =
        let at : (get_or h.text.recs 255 no_rec).r ≡ 255 + 1 = sym (get_or-map (λ (rec : Rec). rec.r) h.text.recs 255 no_rec 0 over) ∙ h.numbered 255 over in
        let fits : IsRecord (get_or h.text.recs 255 no_rec) = h.stands.sound.records 255 no_rec over in
        omega (arith, at, fits.number_fits)

short_reading : (heads track : ℕ) (slot : List ℕ) (found : Option (List (List ℕ))) → IsTrackReading heads track slot found → IsShort found
short_reading heads track slot None h = tt
short_reading heads track slot (Some dscbs) h = few_records heads track slot dscbs h

pub are_short : (heads : ℕ) (slots : Slots) (run : Run) (tracks : List (Option (List (List ℕ)))) → IsReading heads slots run tracks → AreShort tracks
are_short heads slots run tracks h = λ k d lt.
    let P : Option (List (List ℕ)) → Type 0 = IsShort in
    subst P (get_or_default tracks k no_track d lt)
    (short_reading heads (run.first + k) (slots (run.first + k)) (get_or tracks k no_track) (h.each k (omega (arith, lt, h.whole))))
