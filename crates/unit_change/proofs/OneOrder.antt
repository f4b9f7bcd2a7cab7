-- Rows in the order of their names, of which no two are the same, are one list.
use Rattle.std.proofs.Common.{◌≡◌, ◌⊎◌, inl, inr, ℕ, suc, ◌+◌, List, [], ◌∷◌, ◌++◌, map, take, get_or, Contains, Bool, true, false, refl, sym, ap, subst, ◌∙◌, arith}
use Rattle.std.specs.List.Sorted.{IsPermutation, IsSortedBy}
use Rattle.std.specs.declared.cmp.Ordering.{Ordering}
use Rattle.std.specs.declared.cmp.Ordering.TheVariants.{Less, Equal, Greater}
use Rattle.std.specs.Ordering.{is_lt, nat_cmp, ordering_reverse}
use Rattle.std.specs.Cmp.Lexicographic.{slice_cmp}
use Rattle.std.specs.FinMap.{nat_cmp-IsAntisymmetric, slice_cmp-IsAntisymmetric}
use Rattle.std.proofs.lemmas.Bool.{both_ways}
use Rattle.std.proofs.lemmas.Cmp.{nat_list_cmp_total}
use Rattle.std.proofs.lemmas.List.Sorted.{sorted_far, Contains-permutation, IsPermutation-sym, IsPermutation-trans, IsPermutation-map, length_permutation}
use Rattle.volume_model.specs.Directory.{DirectoryRow, name_before, AreInOrder}
use Rattle.volume_model.proofs.NameOrder.{by_name}
use Rattle.vtoc_layout.specs.Layout.{AreDistinct}
use Rattle.vtoc_layout.proofs.Distinct.{Parted, parted, first_or_later, at_first, distinct_others, one_of_map}
use Rattle.vtoc_render.proofs.PlacedLists.{taken_out}
use Rattle.layout_edit.proofs.Changes.{distinct_of_map}

-- ---- lists of distinct elements

-- in another order they are as distinct
pub distinct_moved : {X : Type 0} (ys xs : List X) → AreDistinct xs → IsPermutation xs ys → AreDistinct ys
distinct_moved [] xs d moved = tt
distinct_moved {X} (y ∷ ys) xs d moved =
    by (parted xs y (Contains-permutation (y ∷ ys) xs y (IsPermutation-sym xs (y ∷ ys) moved) (at_first y ys))) (λ rest d' moved'. distinct_moved ys rest d' moved')
  where
    by : Parted xs y → ((rest : List X) → AreDistinct rest → IsPermutation rest ys → AreDistinct ys) → AreDistinct (y ∷ ys)
    by p later =
        let apart : AreDistinct (p.front ++ y ∷ p.back) = subst (λ (zs : List X). AreDistinct zs) p.is d in
        let one : AreDistinct (y ∷ (p.front ++ p.back)) = distinct_others p.front y p.back apart in
        let left : IsPermutation (p.front ++ p.back) ys = taken_out p.front p.back [] ys y apart (subst (λ (zs : List X). IsPermutation zs (y ∷ ys)) p.is moved) in
        (λ c. one.0 (Contains-permutation ys (p.front ++ p.back) y (IsPermutation-sym (p.front ++ p.back) ys left) c), later (p.front ++ p.back) one.1 left)

-- ---- the order of names

abbrev pub name_in : DirectoryRow → List ℕ
name_in row = take 44 row.format_1

never_itself : (row : DirectoryRow) → name_before row row ≡ false
never_itself row = by (name_before row row) refl
  where
    by : (b : Bool) → name_before row row ≡ b → name_before row row ≡ false
    by true e = by_name.one_way row row e
    by false e = e

same_name : (a b : DirectoryRow) → name_before a b ≡ false → name_before b a ≡ false → name_in a ≡ name_in b
same_name a b one other = by (slice_cmp nat_cmp (name_in a) (name_in b)) refl
  where
    by : (r : Ordering) → slice_cmp nat_cmp (name_in a) (name_in b) ≡ r → name_in a ≡ name_in b
    by Less e = absurd (both_ways (name_before a b) one (ap is_lt e))
    by Equal e = slice_cmp-IsAntisymmetric nat_cmp-IsAntisymmetric (name_in a) (name_in b) e
    by Greater e = absurd (both_ways (name_before b a) other (ap is_lt (nat_list_cmp_total.antisymm (name_in b) (name_in a) ∙ ap ordering_reverse e)))

-- none comes before the first
none_before : (x : DirectoryRow) (xs : List DirectoryRow) → IsSortedBy name_before (x ∷ xs) → (row : DirectoryRow) → Contains (x ∷ xs) row → name_before row x ≡ false
none_before x xs up row there =
    by (first_or_later x row xs there)
  where
    by : ((x ≡ row) ⊎ Contains xs row) → name_before row x ≡ false
    by (inl e) = subst (λ (z : DirectoryRow). name_before z x ≡ false) e (never_itself x)
    by (inr c) =
        let far : name_before (get_or xs c.0 row) x ≡ false = sorted_far name_before by_name (x ∷ xs) up 0 (suc c.0) row (omega arith) (omega (arith, c.1)) in
        subst (λ (z : DirectoryRow). name_before z x ≡ false) c.2 far

sorted_rest : (x : DirectoryRow) (xs : List DirectoryRow) → IsSortedBy name_before (x ∷ xs) → IsSortedBy name_before xs
sorted_rest x xs up k d low high =
    let e : suc k + 1 ≡ suc (k + 1) = omega arith in
    subst (λ (n : ℕ). name_before (get_or (x ∷ xs) n d) (get_or xs k d) ≡ false) e (up (suc k) d (omega arith) (omega (arith, high)))

-- ---- sorted rows

one_sorted : (xs ys : List DirectoryRow) → AreDistinct (map name_in xs) → IsPermutation xs ys → IsSortedBy name_before xs → IsSortedBy name_before ys → xs ≡ ys
one_sorted [] [] d moved one other = refl
one_sorted [] (y ∷ ys) d moved one other = absurd (omega (arith, length_permutation [] (y ∷ ys) moved))
one_sorted (x ∷ xs) [] d moved one other = absurd (omega (arith, length_permutation (x ∷ xs) [] moved))
one_sorted (x ∷ xs) (y ∷ ys) d moved one other =
    let rest : xs ≡ ys = one_sorted xs ys d.1 left (sorted_rest x xs one) (sorted_rest y ys other) in
    (λ i. first i ∷ rest i)
  where
    x_there : Contains (y ∷ ys) x
    x_there = Contains-permutation (x ∷ xs) (y ∷ ys) x moved (at_first x xs)

    y_there : Contains (x ∷ xs) y
    y_there = Contains-permutation (y ∷ ys) (x ∷ xs) y (IsPermutation-sym (x ∷ xs) (y ∷ ys) moved) (at_first y ys)

    first : x ≡ y
    first = one_of_map name_in (x ∷ xs) x y d (at_first x xs) y_there (same_name x y (none_before y ys other x x_there) (none_before x xs one y y_there))

    left : IsPermutation xs ys
    left =
        taken_out [] xs [] ys x (distinct_of_map name_in (x ∷ xs) d) (subst (λ (z : DirectoryRow). IsPermutation (x ∷ xs) (z ∷ ys)) (sym first) moved)

-- the rows of a directory in order are one list where no two have one name
pub one_order : (found a b : List DirectoryRow) → AreDistinct (map name_in found) → AreInOrder found a → AreInOrder found b → a ≡ b
one_order found a b d one other =
    one_sorted a b (distinct_moved (map name_in a) (map name_in found) d (IsPermutation-map name_in found a one.same))
    (IsPermutation-trans a found b (IsPermutation-sym found a one.same) other.same) one.order other.order
