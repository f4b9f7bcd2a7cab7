-- The order of data sets by their names.
use Rattle.std.proofs.Common.{◌≡◌, ℕ, zero, suc, ◌+◌, ◌<◌, List, [], ◌∷◌, length, map, take, get_or, Bool, true, false, refl, sym, ◌∙◌, arith, Ordering}
use Rattle.std.specs.declared.cmp.Ordering.TheVariants.{Less, Equal, Greater}
use Rattle.std.specs.Ordering.{nat_cmp, ordering_then, is_lt}
use Rattle.std.specs.Cmp.Lexicographic.{slice_cmp}
use Rattle.std.specs.List.Sorted.{IsSortedBy}
use Rattle.std.proofs.lemmas.List.{get_or-map, length-map}
use Rattle.volume_model.specs.Dscbs.{extents_of}
use Rattle.volume_model.specs.Directory.{DirectoryRow, name_before}

-- the row of a data set without format 3s
abbrev pub row_for : List ℕ → DirectoryRow
row_for bytes = record { format_1 = bytes; extents = extents_of bytes; threes = 0 }

-- ---- the order

-- an order of fronts is one of the wholes
front_less : (n : ℕ) (a b : List ℕ) → is_lt (slice_cmp nat_cmp (take n a) (take n b)) ≡ true → is_lt (slice_cmp nat_cmp a b) ≡ true
front_less zero a b e = let q : false ≡ true = e in cc
front_less (suc n) [] [] e = e
front_less (suc n) [] (y ∷ b) e = refl
front_less (suc n) (x ∷ a) [] e = e
front_less (suc n) (x ∷ a) (y ∷ b) e = by (λ later. front_less n a b later) (nat_cmp x y) e
  where
    by : (is_lt (slice_cmp nat_cmp (take n a) (take n b)) ≡ true → is_lt (slice_cmp nat_cmp a b) ≡ true)
        → (o : Ordering) → is_lt (ordering_then o (slice_cmp nat_cmp (take n a) (take n b))) ≡ true → is_lt (ordering_then o (slice_cmp nat_cmp a b)) ≡ true
    by later Less q = q
    by later Equal q = later q
    by later Greater q = q

front_not_less : (n : ℕ) (a b : List ℕ) → is_lt (slice_cmp nat_cmp a b) ≡ false → is_lt (slice_cmp nat_cmp (take n a) (take n b)) ≡ false
front_not_less n a b e = by (is_lt (slice_cmp nat_cmp (take n a) (take n b))) refl
  where
    by : (t : Bool) → is_lt (slice_cmp nat_cmp (take n a) (take n b)) ≡ t → t ≡ false
    by true q = let r : true ≡ false = sym (front_less n a b q) ∙ e in cc
    by false q = refl

-- data sets in the order of their bytes are in the order of their names
pub in_order : (sets : List (List ℕ)) → IsSortedBy (λ a b. is_lt (slice_cmp nat_cmp a b)) sets → IsSortedBy name_before (map row_for sets)
in_order sets h k d from lt =
    let same : length (map row_for sets) ≡ length sets = simp length-map in
    let below : k + 1 < length sets = omega (arith, lt, same) in
    let e : List ℕ = [] in
    let later = get_or-map row_for sets (k + 1) e d below in
    let earlier = get_or-map row_for sets k e d (omega (arith, below)) in
    (λ i. name_before (later i) (earlier i)) ∙ front_not_less 44 (get_or sets (k + 1) e) (get_or sets k e) (h k e from below)
