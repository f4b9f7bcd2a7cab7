-- Format 5s that are written one after the other.
use Rattle.std.proofs.Common.{◌≡◌, ◌⊎◌, ℕ, suc, ◌+◌, ◌-◌, ◌*◌, ◌<◌, ◌≤◌, List, [], ◌∷◌, ◌++◌, length, map, take, drop, get_or, Option, refl, sym, ap, subst, ◌∙◌, arith, inl, inr, length-append, take-suc}
use Rattle.std.specs.Prelude.{slice_get}
use Rattle.std.proofs.lemmas.List.{map-append, length-map, drop-drop, length-take-le}
use Rattle.std.proofs.Math.ListN.{get_or-append}
use Rattle.std.proofs.Math.Seq.{get_or-append_right}
use Rattle.ckd_image.specs.declared.track.Cchhr.{Cchhr}
use Rattle.dscb_rec.specs.declared.field.Entry5.{Entry5}
use Rattle.volume_model.specs.declared.place.Place.{Place}
use Rattle.volume_model.specs.declared.place.Placed.{Placed}
use Rattle.vtoc_check.specs.Places.{blank}
use Rattle.layout_edit.specs.Change.{place_of}
use Rattle.dscb_made.specs.Made.{IsFormat5With}
use Rattle.vtoc_plan.specs.Plan.{pointer_to, option_map, first_in, AreFivesWith}
use Rattle.vtoc_making.specs.Places.{next_pointer, part_of, parts_of}
use Rattle.std.proofs.lemmas.Bool.{cases_lt}
use Rattle.std.proofs.Math.Numerals.{suc-eq-add-one}

-- the format 5 at a number is written
abbrev pub IsFiveAt : ℕ → List Entry5 → List Place → List Placed → ℕ → Type 0
IsFiveAt heads entries places fives k = IsFormat5With (part_of entries k) (next_pointer heads (slice_get places (suc k))) (get_or fives k blank).bytes

-- so many are written
pub record AreFivesSoFar (heads : ℕ) (entries : List Entry5) (places : List Place) (count : ℕ) (fives : List Placed) : Type 0 where
  pub at : map place_of fives ≡ take count places
  pub each : (k : ℕ) → k < length fives → IsFiveAt heads entries places fives k

pub none_so_far : (heads : ℕ) (entries : List Entry5) (places : List Place) → AreFivesSoFar heads entries places 0 []
none_so_far heads entries places = record { at = refl; each = λ k less. absurd (omega (arith, less)) }

pub one_more : (heads : ℕ) (entries : List Entry5) (places : List Place) (count : ℕ) (fives : List Placed) (five : Placed) (d : Place) → count < length places → AreFivesSoFar heads entries places count fives
    → five.place ≡ get_or places count d → IsFormat5With (part_of entries count) (next_pointer heads (slice_get places (suc count))) five.bytes
    → AreFivesSoFar heads entries places (count + 1) (fives ++ (five ∷ []))
one_more heads entries places count fives five d less h place is = record {
  at = map-append place_of fives (five ∷ []) ∙ (λ i. h.at i ++ (place i ∷ [])) ∙ sym (take-suc places count d less) ∙ ap (λ (n : ℕ). take n places) (suc-eq-add-one count);
  each = λ k within. by k (cases_lt k (length fives)) within;
}
  where
    long : length fives ≡ count
    long = sym (length-map fives place_of) ∙ ap length h.at ∙ length-take-le count places (omega (arith, less))

    by : (k : ℕ) → ((k < length fives) ⊎ (length fives ≤ k)) → k < length (fives ++ (five ∷ [])) → IsFiveAt heads entries places (fives ++ (five ∷ [])) k
    by k (inl earlier) within =
        let P : Placed → Type 0 = λ placed. IsFormat5With (part_of entries k) (next_pointer heads (slice_get places (suc k))) placed.bytes in
        subst P (sym (get_or-append fives (five ∷ []) blank k earlier)) (h.each k earlier)
    by k (inr later) within =
        let here : k ≡ count = omega (arith, later, within, long, length-append fives (five ∷ [])) in
        let at_end : get_or (fives ++ (five ∷ [])) k blank ≡ five =
        get_or-append_right fives (five ∷ []) k blank later ∙ ap (λ (n : ℕ). get_or (five ∷ []) n blank) (zero_past k later within) in
        let P : Placed → Type 0 = λ placed. IsFormat5With (part_of entries k) (next_pointer heads (slice_get places (suc k))) placed.bytes in
        let Q : ℕ → Type 0 = λ n. IsFormat5With (part_of entries n) (next_pointer heads (slice_get places (suc n))) five.bytes in
        subst P (sym at_end) (subst Q (sym here) is)
      where
        zero_past : (k : ℕ) → length fives ≤ k → k < length (fives ++ (five ∷ [])) → k - length fives ≡ 0
        zero_past k later within = omega (arith, later, within, length-append fives (five ∷ []))

-- ---- all of them

next_is : (heads : ℕ) (fives : List Placed) → next_pointer heads (slice_get (map place_of fives) 0) ≡ option_map (λ next. pointer_to heads next.place) (first_in fives)
next_is heads [] = refl
next_is heads (five ∷ fives) = refl

later_part : (entries : List Entry5) (k : ℕ) → part_of entries (suc k) ≡ part_of (drop 26 entries) k
later_part entries k = ap (take 26) (ap (λ (n : ℕ). drop n entries) (omega arith) ∙ sym (drop-drop (26 * k) 26 entries))

pub fives_are : (heads : ℕ) (fives : List Placed) (places : List Place) (entries : List Entry5) → map place_of fives ≡ places → ((k : ℕ) → k < length fives → IsFiveAt heads entries places fives k)
    → AreFivesWith heads (parts_of (length places) entries) fives
fives_are heads [] [] entries at each = tt
fives_are heads [] (place ∷ places) entries at each = absurd (omega (arith, ap length at))
fives_are heads (five ∷ fives) [] entries at each = absurd (omega (arith, ap length at))
fives_are heads (five ∷ fives) (place ∷ places) entries at each =
    (first, fives_are heads fives places (drop 26 entries) rest (λ k less. later k less))
  where
    rest : map place_of fives ≡ places
    rest = ap (drop 1) at

    first : IsFormat5With (take 26 entries) (option_map (λ next. pointer_to heads next.place) (first_in fives)) five.bytes
    first =
        let P : Option Cchhr → Type 0 = λ pointer. IsFormat5With (take 26 entries) pointer five.bytes in
        subst P (ap (λ (ps : List Place). next_pointer heads (slice_get ps 0)) (sym rest) ∙ next_is heads fives) (each 0 (omega arith))

    later : (k : ℕ) → k < length fives → IsFiveAt heads (drop 26 entries) places fives k
    later k less =
        let P : List Entry5 → Type 0 = λ part. IsFormat5With part (next_pointer heads (slice_get places (suc k))) (get_or fives k blank).bytes in
        subst P (later_part entries k) (each (suc k) (omega (arith, less)))
