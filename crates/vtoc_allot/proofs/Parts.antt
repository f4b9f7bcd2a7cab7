-- Lists in parts.
use Rattle.std.proofs.Common.{◌≡◌, ℕ, zero, suc, ◌+◌, ◌-◌, ◌≤◌, List, [], ◌∷◌, ◌++◌, length, take, drop, Bool, true, false, Contains, Option, refl, sym, ap, subst, ◌∙◌, arith, length-drop}
use Rattle.std.specs.Prelude.{slice_get}
use Rattle.std.proofs.lemmas.List.{length-take-le, take-append-drop}
use Rattle.volume_model.specs.declared.place.Place.{Place}
use Rattle.vtoc_layout.specs.Layout.{AreDistinct}
use Rattle.vtoc_layout.proofs.Distinct.{in_later}
use Rattle.vtoc_allot.specs.declared.held.Held.{Held}
use Rattle.vtoc_allot.specs.declared.held.Wanted.{Wanted}
use Rattle.vtoc_allot.specs.Allotted.{listed, one_if, kept_if, new_ones, new_threes, new_fives, ArePartsOf}

-- a list in four parts
pub in_parts : {X : Type 0} (pool : List X) (a b c : ℕ) → pool ≡ take a pool ++ (take b (drop a pool) ++ (take c (drop b (drop a pool)) ++ drop c (drop b (drop a pool))))
in_parts pool a b c =
    sym (take-append-drop a pool)
    ∙ ap (λ rest. take a pool ++ rest) (sym (take-append-drop b (drop a pool)))
    ∙ ap (λ rest. take a pool ++ (take b (drop a pool) ++ rest)) (sym (take-append-drop c (drop b (drop a pool))))

pub in_drop : {X : Type 0} (n : ℕ) (xs : List X) (z : X) → Contains (drop n xs) z → Contains xs z
in_drop zero xs z h = h
in_drop (suc n) [] z h = h
in_drop (suc n) (x ∷ xs) z h = in_later x z xs (in_drop n xs z h)

pub distinct_drop : {X : Type 0} (n : ℕ) (xs : List X) → AreDistinct xs → AreDistinct (drop n xs)
distinct_drop zero xs h = h
distinct_drop (suc n) [] h = tt
distinct_drop (suc n) (x ∷ xs) h = distinct_drop n xs h.1

-- the first of a list, if it is wanted
pub first_kept : (wanted : Bool) (xs : List Place) (first : Option Place) → first ≡ slice_get xs 0 → kept_if wanted first ≡ take (one_if wanted) xs
first_kept true [] first is = ap listed is
first_kept true (x ∷ xs) first is = ap listed is
first_kept false xs first is = refl

-- so many are missing, whether of all that there are or of the first alone
pub first_missing : (wanted : Bool) (xs : List Place) (first : Option Place) → first ≡ slice_get xs 0 → one_if wanted - length xs ≡ one_if wanted - length (listed first)
first_missing wanted [] first is = ap (λ found. one_if wanted - length (listed found)) (sym is)
first_missing true (x ∷ xs) first is = omega (arith, ap (λ found. length (listed found)) is)
first_missing false (x ∷ xs) first is = omega arith

-- the parts of a pool that holds enough
pub parts_are : (held : Held) (wanted : Wanted) (first : Option Place) (pool : List Place) (a b c : ℕ) → a ≡ new_ones held wanted → b ≡ new_threes held wanted
    → length (listed first) + c ≡ new_fives held wanted → a + b + c ≤ length pool
    → ArePartsOf held wanted first pool (take a pool) (take b (drop a pool)) (take c (drop b (drop a pool)))
parts_are held wanted first pool a b c ones threes fives enough = record {
  left = drop c (drop b (drop a pool));
  pool_is = in_parts pool a b c;
  so_many_ones = length-take-le a pool (omega (arith, enough)) ∙ ones;
  so_many_threes = length-take-le b (drop a pool) (omega (arith, enough, length-drop a pool)) ∙ threes;
  so_many_fives = ap (λ n. length (listed first) + n) (length-take-le c (drop b (drop a pool)) (omega (arith, enough, length-drop a pool, length-drop b (drop a pool)))) ∙ fives;
}

-- the same by what a walk over the pool gives
pub parts_by : (held : Held) (wanted : Wanted) (first : Option Place) (pool places ones rest threes further fives : List Place) (a b c : ℕ) → places ≡ pool → ones ≡ take a places → rest ≡ drop a places
    → threes ≡ take b rest → further ≡ drop b rest → fives ≡ take c further → a ≡ new_ones held wanted → b ≡ new_threes held wanted → length (listed first) + c ≡ new_fives held wanted → a + b + c ≤ length pool
    → ArePartsOf held wanted first pool ones threes fives
parts_by held wanted first pool places ones rest threes further fives a b c p q r s t u ones_are threes_are fives_are enough =
    let q' : ones ≡ take a pool = q ∙ ap (take a) p in
    let r' : rest ≡ drop a pool = r ∙ ap (drop a) p in
    let s' : threes ≡ take b (drop a pool) = s ∙ ap (take b) r' in
    let u' : fives ≡ take c (drop b (drop a pool)) = u ∙ ap (take c) (t ∙ ap (drop b) r') in
    let P : List Place → Type 0 = λ x. ArePartsOf held wanted first pool x threes fives in
    let Q : List Place → Type 0 = λ x. ArePartsOf held wanted first pool (take a pool) x fives in
    let R : List Place → Type 0 = λ x. ArePartsOf held wanted first pool (take a pool) (take b (drop a pool)) x in
    subst P (sym q') (subst Q (sym s') (subst R (sym u') (parts_are held wanted first pool a b c ones_are threes_are fives_are enough)))
