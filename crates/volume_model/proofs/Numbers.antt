-- Numbers below a number, tracks of runs and extents, and bytes that are compared.
use Rattle.std.proofs.Common.{◌≡◌, inl, inr, ℕ, zero, suc, ◌+◌, ◌<◌, ◌≤◌, ◌==◌, ◌&&◌, max, List, [], ◌∷◌, length, map, All, Bool, true, false, refl, arith, eq-eqb, length-append}
use Rattle.std.specs.List.{fold}
use Rattle.std.proofs.lemmas.Bool.Decides.{nat_tests}
use Rattle.std.proofs.lemmas.List.Elements.{All-nil, All-cons, All-append, All-map}
use Rattle.ckd_image.proofs.Bools.{and_second}
use Rattle.free_map.specs.declared.run.Run.{Run}
use Rattle.free_map.specs.Runs.{InRuns}
use Rattle.volume_model.specs.declared.place.Place.{Place}
use Rattle.volume_model.specs.Dscbs.{numbers_below}
use Rattle.volume_model.specs.Directory.{same_place}
use Rattle.volume_model.specs.Check.{same_bytes}
use Rattle.volume_model.specs.Space.{end_of}
use Rattle.volume_model.specs.Unit.{Extent, run_in, tracks_in, tracks_of}

pub numbers_long : (n : ℕ) → length (numbers_below n) ≡ n
numbers_long zero = refl
numbers_long (suc n) = omega (arith, length-append (numbers_below n) (n ∷ []), numbers_long n)

pub numbers_all : (P : ℕ → Type 0) (n : ℕ) → ((k : ℕ) → k < n → P k) → All P (numbers_below n)
numbers_all P zero each = All-nil P
numbers_all P (suc n) each = All-append P (numbers_below n) (n ∷ []) (numbers_all P n (λ k less. each k (omega (arith, less)))) (All-cons P n [] (each n (omega arith)) (All-nil P))

pub tracks_all : (P : ℕ → Type 0) (extents : List Extent) → ((track : ℕ) → InRuns (map run_in extents) track → P track) → All P (tracks_of extents)
tracks_all P [] each = All-nil P
tracks_all P (extent ∷ extents) each =
    let first = extent.run.first in
    All-append P (tracks_in extent.run) (tracks_of extents)
    (All-map P (λ place. first + place) (numbers_below extent.run.len)
    (numbers_all (λ place. P (first + place)) extent.run.len (λ place less. each (first + place) (inl (omega arith, omega (arith, less))))))
    (tracks_all P extents (λ track there. each track (inr there)))

-- the end of runs doesn't fall
pub grows : (a : ℕ) (runs : List Run) → a ≤ fold (λ end run. max end (end_of run)) a runs
grows a [] = omega arith
grows a (run ∷ runs) = omega (arith, grows (max a (end_of run)) runs)

-- ---- the same bytes, as a test

pub bytes_itself : (a : List ℕ) → same_bytes a a ≡ true
bytes_itself [] = refl
bytes_itself (x ∷ a) = (λ i. eq-eqb x x refl i && bytes_itself a i)

pub place_itself : (a : Place) → same_place a a ≡ true
place_itself a = (λ i. eq-eqb a.track a.track refl i && eq-eqb a.record_number a.record_number refl i)

pub bytes_equal : (a b : List ℕ) → same_bytes a b ≡ true → a ≡ b
bytes_equal [] [] e = refl
bytes_equal [] (y ∷ b) e = let q : false ≡ true = e in cc
bytes_equal (x ∷ a) [] e = let q : false ≡ true = e in cc
bytes_equal (x ∷ a) (y ∷ b) e =
    let head : x ≡ y = first x y (same_bytes a b) e in
    let tail : a ≡ b = bytes_equal a b (and_second (x == y) (same_bytes a b) e) in
    (λ i. head i ∷ tail i)
  where
    first : (m n : ℕ) (t : Bool) → ((m == n) && t) ≡ true → m ≡ n
    first m n t e = grind (arith, nat_tests)
