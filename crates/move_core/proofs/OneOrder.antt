-- The rows of a sound VTOC in the order of their names are one list.
use Rattle.std.proofs.Common.{◌≡◌, ◌⊎◌, inl, inr, ℕ, zero, suc, ◌+◌, ◌<◌, List, [], ◌∷◌, ◌++◌, length, map, filter, take, get_or, Bool, true, false, refl, sym, ap, subst, ◌∙◌, arith}
use Rattle.std.specs.Prelude.{Contains}
use Rattle.std.specs.List.{AllByRecursion, IsDistinct, list_any}
use Rattle.std.specs.List.Sorted.{IsSortedBy}
use Rattle.std.specs.declared.cmp.Ordering.{Ordering}
use Rattle.std.specs.declared.cmp.Ordering.TheVariants.{Less, Equal, Greater}
use Rattle.std.specs.Ordering.{is_lt, nat_cmp, ordering_reverse}
use Rattle.std.specs.Cmp.Lexicographic.{slice_cmp}
use Rattle.std.specs.FinMap.{nat_cmp-IsAntisymmetric, slice_cmp-IsAntisymmetric}
use Rattle.std.proofs.lemmas.Bool.{cases_Bool, both_ways, or_parts}
use Rattle.std.proofs.lemmas.Cmp.{nat_list_cmp_total}
use Rattle.std.proofs.lemmas.List.Sorted.{sorted_far, Contains-permutation, IsPermutation-sym}
use Rattle.std.proofs.lemmas.List.Folds.{list_any-append}
use Rattle.std.proofs.lemmas.Map.Keys.{IsDistinct-IsPermutation}
use Rattle.volume_model.specs.declared.place.Placed.{Placed}
use Rattle.volume_model.specs.Directory.{DirectoryRow, row_of, rows_of, name_before, AreInOrder}
use Rattle.volume_model.specs.Dscbs.{format_of, is_f1}
use Rattle.volume_model.specs.declared.rule.VtocRule.TheVariants as rules
use Rattle.volume_model.specs.declared.place.Vtoc.{Vtoc}
use Rattle.volume_model.specs.Check.{breach, records_of, same_bytes, with_earlier, bad_names, breaches_of}
use Rattle.volume_model.proofs.Filters.{filter_skip, filter_keep}
use Rattle.move_core.proofs.Below.{nil_parts}
use Rattle.ckd_image.proofs.Lists.{map_nil}
use Rattle.volume_model.proofs.NameOrder.{by_name}
use Rattle.volume_model.proofs.Numbers.{bytes_itself, bytes_equal}

-- ---- lists whose names rise

abbrev IsIn : DirectoryRow → List DirectoryRow → Type 0
IsIn row [] = ⊥
IsIn row (x ∷ xs) = (row ≡ x) ⊎ IsIn row xs

abbrev Rises : List DirectoryRow → Type 0
Rises [] = Unit {0}
Rises (x ∷ xs) = ((row : DirectoryRow) → IsIn row xs → name_before x row ≡ true) × Rises xs

not_both : (a b : DirectoryRow) → name_before a b ≡ true → name_before b a ≡ true → ⊥
not_both a b one other = both_ways (name_before b a) (by_name.one_way a b one) other

-- two that have the same rows are one
one_rising : (xs ys : List DirectoryRow) → Rises xs → Rises ys → ((row : DirectoryRow) → IsIn row xs → IsIn row ys) → ((row : DirectoryRow) → IsIn row ys → IsIn row xs) → xs ≡ ys
one_rising [] [] r s to back = refl
one_rising [] (y ∷ ys) r s to back = absurd (back y (inl refl))
one_rising (x ∷ xs) [] r s to back = absurd (to x (inl refl))
one_rising (x ∷ xs) (y ∷ ys) r s to back =
    let rest : xs ≡ ys = one_rising xs ys r.1 s.1 (λ row there. later row there (to row (inr there))) (λ row there. earlier row there (back row (inr there))) in
    (λ i. first i ∷ rest i)
  where
    by : ((x ≡ y) ⊎ IsIn x ys) → ((y ≡ x) ⊎ IsIn y xs) → x ≡ y
    by (inl e) other = e
    by (inr i) (inl e) = sym e
    by (inr i) (inr j) = absurd (not_both x y (r.0 y j) (s.0 x i))

    first : x ≡ y
    first = by (to x (inl refl)) (back y (inl refl))

    later : (row : DirectoryRow) → IsIn row xs → ((row ≡ y) ⊎ IsIn row ys) → IsIn row ys
    later row there (inl e) =
        let itself : name_before x x ≡ true = subst (λ (z : DirectoryRow). name_before x z ≡ true) (e ∙ sym first) (r.0 row there) in
        absurd (not_both x x itself itself)
    later row there (inr i) = i

    earlier : (row : DirectoryRow) → IsIn row ys → ((row ≡ x) ⊎ IsIn row xs) → IsIn row xs
    earlier row there (inl e) =
        let itself : name_before y y ≡ true = subst (λ (z : DirectoryRow). name_before y z ≡ true) (e ∙ first) (s.0 row there) in
        absurd (not_both y y itself itself)
    earlier row there (inr i) = i

-- ---- sorted rows whose names differ

abbrev same_name : DirectoryRow → DirectoryRow → Bool
same_name a b = same_bytes (take 44 a.format_1) (take 44 b.format_1)

before_or : (a b : List ℕ) → is_lt (slice_cmp nat_cmp b a) ≡ false → same_bytes a b ≡ false → is_lt (slice_cmp nat_cmp a b) ≡ true
before_or a b not_less other = by (slice_cmp nat_cmp a b) refl
  where
    by : (r : Ordering) → slice_cmp nat_cmp a b ≡ r → is_lt (slice_cmp nat_cmp a b) ≡ true
    by Less e = ap is_lt e
    by Equal e =
        let same : a ≡ b = slice_cmp-IsAntisymmetric nat_cmp-IsAntisymmetric a b e in
        absurd (both_ways (same_bytes a b) other (subst (λ (z : List ℕ). same_bytes a z ≡ true) same (bytes_itself a)))
    by Greater e = absurd (both_ways (is_lt (slice_cmp nat_cmp b a)) not_less (ap is_lt (nat_list_cmp_total.antisymm b a ∙ ap ordering_reverse e)))

in_at : (xs : List DirectoryRow) (k : ℕ) (d : DirectoryRow) → k < length xs → IsIn (get_or xs k d) xs
in_at [] k d less = absurd (omega (arith, less))
in_at (x ∷ xs) zero d less = inl refl
in_at (x ∷ xs) (suc k) d less = inr (in_at xs k d (omega (arith, less)))

place_of : (xs : List DirectoryRow) (row : DirectoryRow) → IsIn row xs → Contains xs row
place_of [] row there = absurd there
place_of (x ∷ xs) row (inl e) = (0, omega arith, sym e)
place_of (x ∷ xs) row (inr there) = let at = place_of xs row there in (suc at.0, omega (arith, at.1), at.2)

all_in : (P : DirectoryRow → Type 0) (xs : List DirectoryRow) → AllByRecursion P xs → (row : DirectoryRow) → IsIn row xs → P row
all_in P [] all row there = absurd there
all_in P (x ∷ xs) all row (inl e) = subst P (sym e) all.0
all_in P (x ∷ xs) all row (inr there) = all_in P xs all.1 row there

rises : (xs : List DirectoryRow) → IsSortedBy name_before xs → IsDistinct same_name xs → Rises xs
unfolding IsDistinct
rises [] up apart = tt
rises (x ∷ xs) up apart = (
  λ row there.
      let at = place_of xs row there in
      let far : name_before (get_or xs at.0 row) x ≡ false = sorted_far name_before by_name (x ∷ xs) up 0 (suc at.0) row (omega arith) (omega (arith, at.1)) in
      before_or (take 44 x.format_1) (take 44 row.format_1) (subst (λ (z : DirectoryRow). name_before z x ≡ false) at.2 far)
      (all_in (λ z. same_name x z ≡ false) xs apart.0 row there),
  rises xs (λ k d low high.
      let e : suc k + 1 ≡ suc (k + 1) = omega arith in
      subst (λ (n : ℕ). name_before (get_or (x ∷ xs) n d) (get_or xs k d) ≡ false) e (up (suc k) d (omega arith) (omega (arith, high)))) apart.1,
)

-- ---- the names of a sound VTOC differ

some_pair : {X : Type 0} (x : X) (xs : List X) → x ∷ xs ≡ [] → ⊥
some_pair x xs e = absurd (omega (arith, ap length e))

abbrev later_test : (Placed → Placed → Bool) → List Placed × Placed → Bool
later_test related pair = list_any (related pair.1) pair.0

-- where none is related to one of the earlier ones and a further one
split_earlier : (related : Placed → Placed → Bool) (earlier : List Placed) (x : Placed) (ys : List Placed)
    → AllByRecursion (λ y. list_any (related y) (earlier ++ x ∷ []) ≡ false) ys
    → AllByRecursion (λ y. list_any (related y) earlier ≡ false) ys × AllByRecursion (λ y. related y x ≡ false) ys
split_earlier related earlier x [] all = (tt, tt)
split_earlier related earlier x (y ∷ ys) all =
    let parts = or_parts (list_any (related y) earlier) (list_any (related y) (x ∷ [])) (sym (list_any-append (related y) earlier (x ∷ [])) ∙ all.0) in
    let here = or_parts (related y x) false parts.1 in
    let rest = split_earlier related earlier x ys all.1 in
    ((parts.0, rest.0), (here.0, rest.1))

-- where no element is related to an earlier one
none_later : (related : Placed → Placed → Bool) (earlier xs : List Placed) → filter (later_test related) (with_earlier earlier xs) ≡ []
    → AllByRecursion (λ x. list_any (related x) earlier ≡ false) xs × IsDistinct (λ a b. related b a) xs
unfolding IsDistinct
none_later related earlier [] e = (tt, tt)
none_later related earlier (x ∷ xs) e = elim (cases_Bool (list_any (related x) earlier)) [
  | inl t ↦ absurd (some_pair (earlier, x) _ (sym (filter_keep (later_test related) (earlier, x) (with_earlier (earlier ++ x ∷ []) xs) t) ∙ e))
  | inr f ↦
      (let rest = none_later related (earlier ++ x ∷ []) xs (sym (filter_skip (later_test related) (earlier, x) (with_earlier (earlier ++ x ∷ []) xs) f) ∙ e) in
      let both = split_earlier related earlier x xs rest.0 in
      ((f, both.0), (both.1, rest.1)))
]

other_way : (m n : List ℕ) → same_bytes m n ≡ false → same_bytes n m ≡ false
other_way m n e = elim (cases_Bool (same_bytes n m)) [
  | inl t ↦ absurd (both_ways (same_bytes m n) e (subst (λ (z : List ℕ). same_bytes z n ≡ true) (bytes_equal n m t) (bytes_itself n)))
  | inr f ↦ f
]

-- what differs by its bytes gives rows that differ
row_differs : (heads : ℕ) (records : List Placed) (x : Placed) (ys : List Placed) → AllByRecursion (λ y. same_bytes (take 44 y.bytes) (take 44 x.bytes) ≡ false) ys
    → AllByRecursion (λ row. same_name (row_of heads records x) row ≡ false) (map (row_of heads records) ys)
row_differs heads records x [] all = tt
row_differs heads records x (y ∷ ys) all = (other_way (take 44 y.bytes) (take 44 x.bytes) all.0, row_differs heads records x ys all.1)

rows_differ : (heads : ℕ) (records xs : List Placed) → IsDistinct (λ a b. same_bytes (take 44 b.bytes) (take 44 a.bytes)) xs → IsDistinct same_name (map (row_of heads records) xs)
unfolding IsDistinct
rows_differ heads records [] apart = tt
rows_differ heads records (x ∷ xs) apart = (row_differs heads records x xs apart.0, rows_differ heads records xs apart.1)

both_alike : (m n : List ℕ) → same_bytes m n ≡ same_bytes n m
both_alike m n = elim (cases_Bool (same_bytes m n)) [
  | inl t ↦ t ∙ sym (subst (λ (z : List ℕ). same_bytes z m ≡ true) (bytes_equal m n t) (bytes_itself m))
  | inr f ↦ f ∙ sym (other_way m n f)
]

flips : (a b : DirectoryRow) → same_name a b ≡ same_name b a
flips a b = both_alike (take 44 a.format_1) (take 44 b.format_1)

-- ---- all of it

module _ (vtoc : Vtoc) (sound : breaches_of vtoc ≡ []) where
  names_differ : IsDistinct same_name (rows_of vtoc.heads (records_of vtoc))
  names_differ =
      let test : Placed → Bool = λ placed. is_f1 (format_of placed.bytes) in
      let named : List Placed = filter test (records_of vtoc) in
      let none : bad_names vtoc ≡ [] = (nil_parts _ _ (nil_parts _ _ (nil_parts _ _ (nil_parts _ _ (nil_parts _ _ (nil_parts _ _ sound).0).0).0).0).0).1 in
      let none_later_ones = map_nil (λ (pair : List Placed × Placed). pair.1) _ (map_nil (breach rules.Name) _ none) in
      rows_differ vtoc.heads (records_of vtoc) named
      (none_later (λ later earlier. same_bytes (take 44 later.bytes) (take 44 earlier.bytes)) [] named none_later_ones).1

  pub one_order : (a b : List DirectoryRow) → AreInOrder (rows_of vtoc.heads (records_of vtoc)) a → AreInOrder (rows_of vtoc.heads (records_of vtoc)) b → a ≡ b
  one_order a b one other =
      let found : List DirectoryRow = rows_of vtoc.heads (records_of vtoc) in
      one_rising a b (rising a one) (rising b other)
      (λ row there. moved row a b one other there)
      (λ row there. moved row b a other one there)
    where
      rising : (rows : List DirectoryRow) → AreInOrder (rows_of vtoc.heads (records_of vtoc)) rows → Rises rows
      rising rows order = rises rows order.order (IsDistinct-IsPermutation same_name flips (rows_of vtoc.heads (records_of vtoc)) rows order.same names_differ)

      moved : (row : DirectoryRow) (from to : List DirectoryRow) → AreInOrder (rows_of vtoc.heads (records_of vtoc)) from → AreInOrder (rows_of vtoc.heads (records_of vtoc)) to
          → IsIn row from → IsIn row to
      moved row from to first last there =
          let at = place_of from row there in
          let here = Contains-permutation _ to row last.same (Contains-permutation from _ row (IsPermutation-sym _ from first.same) at) in
          subst (λ (z : DirectoryRow). IsIn z to) here.2 (in_at to here.0 row here.1)
