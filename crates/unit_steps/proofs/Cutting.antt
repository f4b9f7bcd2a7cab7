-- The first tracks of extents, and their texts.
use Rattle.std.proofs.Common.{◌≡◌, inl, inr, ℕ, zero, suc, ◌+◌, ◌-◌, ◌<◌, ◌≤◌, List, [], ◌∷◌, ◌++◌, length, map, take, Bool, true, false, refl, sym, ap, ◌∙◌, arith}
use Rattle.std.specs.Prelude.{◌==◌, nat_le, if◌then◌else◌}
use Rattle.std.proofs.lemmas.Bool.{cases_eq, eqb-true, leb-true, leb-false}
use Rattle.std.proofs.lemmas.List.{append-nil, length-map, take-append-le, take-map, take_all}
use Rattle.volume_model.specs.Dscbs.{numbers_below}
use Rattle.volume_model.specs.Reads.{AreTexts}
use Rattle.volume_model.specs.Sound.{Slots}
use Rattle.volume_model.specs.Unit.{Text, Extent, tracks_in, tracks_of}
use Rattle.move_core.specs.Steps.{cut}
use Rattle.volume_model.proofs.Numbers.{numbers_long}

-- ---- lists

take_none : {X : Type 0} (n : ℕ) → take {A = X} n [] ≡ []
take_none zero = refl
take_none (suc n) = refl

take_past : {X : Type 0} (xs ys : List X) (n : ℕ) → length xs ≤ n → take n (xs ++ ys) ≡ xs ++ take (n - length xs) ys
take_past [] ys n few = (let same : n ≡ n - 0 = omega arith in ap (λ (k : ℕ). take k ys) same)
take_past (x ∷ xs) ys zero few = absurd (omega (arith, few))
take_past {X} (x ∷ xs) ys (suc n) few =
    let same : n - length xs ≡ suc n - length (x ∷ xs) = omega arith in
    ap (λ (zs : List X). x ∷ zs) (take_past xs ys n (omega (arith, few)) ∙ ap (λ (k : ℕ). xs ++ take k ys) same)

numbers_taken : (keep len : ℕ) → keep ≤ len → take keep (numbers_below len) ≡ numbers_below keep
numbers_taken keep zero few = (let none : keep ≡ 0 = omega (arith, few) in take_none keep ∙ ap numbers_below (sym none))
numbers_taken keep (suc len) few = elim (cases_eq keep (suc len)) [
  | inl all ↦ take_all keep (numbers_below (suc len)) (omega (arith, all, numbers_long (suc len))) ∙ ap numbers_below (sym all)
  | inr less ↦
      (let within : keep ≤ len = omega (arith, few, less) in
      take-append-le keep (numbers_below len) (len ∷ []) (omega (arith, within, numbers_long len)) ∙ numbers_taken keep len within)
]

-- ---- tracks

tracks_long : (extent : Extent) → length (tracks_in extent.run) ≡ extent.run.len
tracks_long extent = length-map (numbers_below extent.run.len) (λ place. extent.run.first + place) ∙ numbers_long extent.run.len

abbrev part_of : ℕ → Extent → Extent
part_of keep extent = record { run = record { first = extent.run.first; len = keep }; kind = extent.kind }

-- so many tracks from the front of extents
pub cut_tracks : (keep : ℕ) (extents : List Extent) → tracks_of (cut keep extents) ≡ take keep (tracks_of extents)
cut_tracks keep [] = sym (take_none keep)
cut_tracks keep (extent ∷ extents) = by (cut_tracks (keep - extent.run.len) extents) (keep == 0) (nat_le extent.run.len keep) refl refl
  where
    by : tracks_of (cut (keep - extent.run.len) extents) ≡ take (keep - extent.run.len) (tracks_of extents) → (b c : Bool) → (keep == 0) ≡ b → nat_le extent.run.len keep ≡ c
        → tracks_of (if b then [] else if c then extent ∷ cut (keep - extent.run.len) extents else part_of keep extent ∷ []) ≡ take keep (tracks_in extent.run ++ tracks_of extents)
    by rest true c none e = (let zero_is : 0 ≡ keep = sym (eqb-true keep 0 none) in ap (λ (n : ℕ). take n (tracks_in extent.run ++ tracks_of extents)) zero_is)
    by rest false true some e =
        let own = tracks_in extent.run in
        let long : length own ≡ extent.run.len = tracks_long extent in
        let within : extent.run.len ≤ keep = leb-true extent.run.len keep e in
        ap (λ (tracks : List ℕ). own ++ tracks) rest ∙ ap (λ (n : ℕ). own ++ take (keep - n) (tracks_of extents)) (sym long)
        ∙ sym (take_past own (tracks_of extents) keep (omega (arith, within, long)))
    by rest false false some e =
        let own = tracks_in extent.run in
        let numbered : ℕ → ℕ = λ place. extent.run.first + place in
        let less : keep < extent.run.len = leb-false extent.run.len keep e in
        append-nil (map numbered (numbers_below keep))
        ∙ sym (take-append-le keep own (tracks_of extents) (omega (arith, less, tracks_long extent)) ∙ take-map numbered keep (numbers_below extent.run.len)
        ∙ ap (map numbered) (numbers_taken keep extent.run.len (omega (arith, less))))

-- ---- texts

pub texts_taken : (heads : ℕ) (place : ℕ → ℕ) (slots : Slots) (n : ℕ) (tracks : List ℕ) (texts : List Text) → AreTexts heads place slots tracks texts
    → AreTexts heads place slots (take n tracks) (take n texts)
texts_taken heads place slots zero tracks texts are = tt
texts_taken heads place slots (suc n) [] [] are = tt
texts_taken heads place slots (suc n) [] (text ∷ texts) are = absurd are
texts_taken heads place slots (suc n) (track ∷ tracks) [] are = absurd are
texts_taken heads place slots (suc n) (track ∷ tracks) (text ∷ texts) are = (are.0, texts_taken heads place slots n tracks texts are.1)

pub texts_long : (heads : ℕ) (place : ℕ → ℕ) (slots : Slots) (tracks : List ℕ) (texts : List Text) → AreTexts heads place slots tracks texts → length texts ≡ length tracks
texts_long heads place slots [] [] are = refl
texts_long heads place slots [] (text ∷ texts) are = absurd are
texts_long heads place slots (track ∷ tracks) [] are = absurd are
texts_long heads place slots (track ∷ tracks) (text ∷ texts) are = ap (λ (n : ℕ). suc n) (texts_long heads place slots tracks texts are.1)
