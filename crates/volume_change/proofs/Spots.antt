-- The spot of a name, and rows once one is put there.
use Rattle.std.proofs.Common.{◌≡◌, ◌↔◌, inl, inr, ℕ, zero, suc, ◌+◌, ◌-◌, ◌<◌, ◌≤◌, List, [], ◌∷◌, ◌++◌, length, map, take, drop, get_or, All, Bool, true, false, Option, Some, None, refl, sym, ap, subst, ◌∙◌, arith}
use Rattle.std.specs.declared.cmp.Ordering.{Ordering}
use Rattle.std.specs.declared.cmp.Ordering.TheVariants.{Less, Equal, Greater}
use Rattle.std.specs.Ordering.{is_lt, nat_cmp, ordering_reverse}
use Rattle.std.specs.Cmp.{IsStrictWeakOrder}
use Rattle.std.specs.Cmp.Lexicographic.{slice_cmp}
use Rattle.std.specs.FinMap.{nat_cmp-IsAntisymmetric, slice_cmp-IsAntisymmetric}
use Rattle.std.specs.List.Sorted.{IsSortedBy, IsPartitionedBy}
use Rattle.std.proofs.lemmas.Bool.{both_ways, cases_lt}
use Rattle.std.proofs.lemmas.Cmp.{nat_list_cmp_total}
use Rattle.std.proofs.lemmas.List.{get_or-map, get_or-take, get_or-drop, get_or_append_left, get_or-append_right, get_or_default, length-map, length-take-le, length-drop, length-append}
use Rattle.std.proofs.lemmas.List.Elements.{All-cons, All-append, All-take, All-drop}
use Rattle.std.proofs.lemmas.List.MinMax.{ranks_by}
use Rattle.std.proofs.lemmas.List.Sorted.{sorted_far}
use Rattle.vtoc_core.specs.declared.volume.Row.{Row}
use Rattle.vtoc_core.specs.Loaded.{row_in, HasItsName}
use Rattle.vtoc_layout.specs.Layout.{AreDistinct}
use Rattle.volume_model.specs.Directory.{name_before}
use Rattle.volume_change.specs.declared.spot.Spot.{Spot}
use Rattle.volume_change.specs.Spot.{comes_before, behind, AreNamed, HasNameAt, IsSpot, Suits, rows_with}

-- ---- the order of names

abbrev row_before : Row → Row → Bool
row_before a b = comes_before a.name b.name

by_bytes : IsStrictWeakOrder comes_before
by_bytes = ranks_by nat_list_cmp_total (λ (bytes : List ℕ). bytes)

by_name : IsStrictWeakOrder row_before
by_name = ranks_by nat_list_cmp_total (λ (row : Row). row.name)

other_way : (a b : List ℕ) → comes_before a b ≡ false → ¬ (a ≡ b) → comes_before b a ≡ true
other_way a b not_less apart = by (slice_cmp nat_cmp b a) refl
  where
    by : (r : Ordering) → slice_cmp nat_cmp b a ≡ r → comes_before b a ≡ true
    by Less e = ap is_lt e
    by Equal e = absurd (apart (sym (slice_cmp-IsAntisymmetric nat_cmp-IsAntisymmetric b a e)))
    by Greater e = absurd (both_ways (comes_before a b) not_less (ap is_lt (nat_list_cmp_total.antisymm a b ∙ ap ordering_reverse e)))

never_itself : (a : List ℕ) → comes_before a a ≡ true → ⊥
never_itself a e = both_ways (comes_before a a) (by_bytes.one_way a a e) e

-- rows in the order of the names of their format 1s are in that of their own
pub sorted_rows : (rows : List Row) → AreNamed rows → IsSortedBy row_before rows
sorted_rows rows named k d from lt =
    let same : length (map row_in rows) ≡ length rows = simp length-map in
    let below : k < length rows = omega (arith, lt) in
    let later = get_or-map row_in rows (k + 1) d (row_in d) lt in
    let earlier = get_or-map row_in rows k d (row_in d) below in
    (λ i. comes_before (named.names (k + 1) d lt i) (named.names k d below i))
    ∙ (λ i. name_before (sym later i) (sym earlier i)) ∙ named.order k (row_in d) from (omega (arith, lt, same))

blank : Row
blank = record { name = []; f1 = []; extents = []; threes = 0 }

named_rows : (rows : List Row) → IsSortedBy row_before rows → All HasItsName rows → AreNamed rows
named_rows rows up names = record { order = order; names = names }
  where
    order : IsSortedBy name_before (map row_in rows)
    order k d from lt =
        let same : length (map row_in rows) ≡ length rows = simp length-map in
        let high : k + 1 < length rows = omega (arith, lt, same) in
        let low : k < length rows = omega (arith, high) in
        let later = get_or-map row_in rows (k + 1) blank d high in
        let earlier = get_or-map row_in rows k blank d low in
        (λ i. name_before (later i) (earlier i))
        ∙ (λ i. comes_before (sym (names (k + 1) blank high) i) (sym (names k blank low) i)) ∙ up k blank from high

-- ---- the search

pub parted : (rows : List Row) (name : List ℕ) → AreNamed rows → IsPartitionedBy (λ row. comes_before row.name name) rows
parted rows name named i j d le lt below = by (comes_before (get_or rows i d).name name) refl
  where
    by : (t : Bool) → comes_before (get_or rows i d).name name ≡ t → comes_before (get_or rows i d).name name ≡ true
    by true e = e
    by false e =
        let far : comes_before (get_or rows j d).name (get_or rows i d).name ≡ false = sorted_far row_before by_name rows (sorted_rows rows named) i j d le lt in
        absurd (both_ways (comes_before (get_or rows j d).name name) (by_bytes.chain (get_or rows j d).name (get_or rows i d).name name far e) below)

-- ---- spots

abbrev AreNotLower : List Row → List ℕ → ℕ → Type 0
AreNotLower rows name place = (k : ℕ) (d : Row) → place ≤ k → k < length rows → comes_before (get_or rows k d).name name ≡ false

-- what holds of each row from a place on
all_from : (P : Row → Type 0) (rows : List Row) (place : ℕ) → ((k : ℕ) (d : Row) → place ≤ k → k < length rows → P (get_or rows k d)) → All P (drop place rows)
all_from P rows place h k d lt =
    subst P (sym (get_or-drop place rows k d)) (h (place + k) d (omega arith) (omega (arith, lt, length-drop place rows)))

at_from : (P : Row → Type 0) (rows : List Row) (place : ℕ) → All P (drop place rows) → (k : ℕ) (d : Row) → place ≤ k → k < length rows → P (get_or rows k d)
at_from P rows place h k d from lt =
    let e : place + (k - place) ≡ k = omega (arith, from) in
    subst (λ (n : ℕ). P (get_or rows n d)) e (subst P (get_or-drop place rows (k - place) d) (h (k - place) d (omega (arith, from, lt, length-drop place rows))))

-- where the row at the place doesn't have the name, all from it on have higher ones
higher_from : (rows : List Row) (name : List ℕ) (place : ℕ) → AreNamed rows → AreNotLower rows name place → ¬ (HasNameAt rows place name)
    → (k : ℕ) (d : Row) → place ≤ k → k < length rows → comes_before name (get_or rows k d).name ≡ true
higher_from rows name place named high absent k d from lt = by (comes_before name (get_or rows k d).name) refl
  where
    there : place < length rows
    there = omega (arith, from, lt)

    apart : ¬ ((get_or rows place d).name ≡ name)
    apart e = absent (there, λ other. ap (λ (row : Row). row.name) (get_or_default rows place other d there) ∙ e)

    first : comes_before name (get_or rows place d).name ≡ true
    first = other_way (get_or rows place d).name name (high place d (omega arith) there) apart

    far : comes_before (get_or rows k d).name (get_or rows place d).name ≡ false
    far = sorted_far row_before by_name rows (sorted_rows rows named) place k d from lt

    by : (t : Bool) → comes_before name (get_or rows k d).name ≡ t → comes_before name (get_or rows k d).name ≡ true
    by true e = e
    by false e = absurd (both_ways (comes_before name (get_or rows place d).name) (by_bytes.chain name (get_or rows k d).name (get_or rows place d).name e far) first)

place_first : (place : ℕ) (goes : Bool) → place ≤ behind (record { place = place; goes = goes })
place_first place true = omega arith
place_first place false = omega arith

pub spot_is : (rows : List Row) (name : List ℕ) (place : ℕ) (goes : Bool) → AreNamed rows → place ≤ length rows
    → ((k : ℕ) (d : Row) → k < place → comes_before (get_or rows k d).name name ≡ true) → AreNotLower rows name place
    → ((goes ≡ true) ↔ HasNameAt rows place name) → IsSpot rows name (record { place = place; goes = goes })
spot_is rows name place goes named within low high goes_is = record {
  within = within;
  lower = λ k d lt.
      let less : k < place = omega (arith, lt, length-take-le place rows within) in
      subst (λ (row : Row). comes_before row.name name ≡ true) (sym (get_or-take place rows k d less)) (low k d less);
  goes_is = goes_is;
  not_lower = all_from (λ row. comes_before row.name name ≡ false) rows (behind (record { place = place; goes = goes }))
      (λ k d from lt. high k d (omega (arith, from, place_first place goes)) lt);
  higher = λ stays. all_from (λ row. comes_before name row.name ≡ true) rows (behind (record { place = place; goes = goes }))
      (λ k d from lt. higher_from rows name place named high (λ has. both_ways goes stays (goes_is.1 has)) k d (omega (arith, from, place_first place goes)) lt);
}

-- where no row goes, none has the name
pub none_named : (rows : List Row) (name : List ℕ) (spot : Spot) → IsSpot rows name spot → spot.goes ≡ false → (k : ℕ) (d : Row) → k < length rows → ¬ ((get_or rows k d).name ≡ name)
none_named rows name spot is stays k d lt e =
    elim (cases_lt k spot.place) [
      | inl low ↦
          let less : k < length (take spot.place rows) = omega (arith, low, length-take-le spot.place rows is.within) in
          let lower : comes_before (get_or rows k d).name name ≡ true = subst (λ (row : Row). comes_before row.name name ≡ true) (get_or-take spot.place rows k d low) (is.lower k d less) in
          never_itself name (subst (λ (n : List ℕ). comes_before n name ≡ true) e lower)
      | inr high ↦
          let start : behind spot ≡ spot.place = place_of spot.goes stays in
          let higher : comes_before name (get_or rows k d).name ≡ true = at_from (λ row. comes_before name row.name ≡ true) rows (behind spot) (is.higher stays) k d (omega (arith, high, start)) lt in
          never_itself name (subst (λ (n : List ℕ). comes_before name n ≡ true) e higher)
    ]
  where
    place_of : (goes : Bool) → goes ≡ false → behind (record { place = spot.place; goes = goes }) ≡ spot.place
    place_of true q = let r : true ≡ false = q in cc
    place_of false q = refl

-- ---- names that differ

distinct_at : (xs : List (List ℕ)) (i j : ℕ) (d : List ℕ) → i < j → j < length xs → AreDistinct xs → ¬ (get_or xs j d ≡ get_or xs i d)
distinct_at [] i j d less lt apart e = omega (arith, lt)
distinct_at (x ∷ xs) i zero d less lt apart e = omega (arith, less)
distinct_at (x ∷ xs) zero (suc j) d less lt apart e =
    let there : j < length xs = omega (arith, lt) in
    apart.0 (j, there, get_or_default xs j x d there ∙ e)
distinct_at (x ∷ xs) (suc i) (suc j) d less lt apart e = distinct_at xs i j d (omega (arith, less)) (omega (arith, lt)) apart.1 e

pub higher_behind : (rows : List Row) (name : List ℕ) (spot : Spot) → AreNamed rows → AreDistinct (map (λ row. row.name) rows) → IsSpot rows name spot
    → All (λ row. comes_before name row.name ≡ true) (drop (behind spot) rows)
higher_behind rows name spot named distinct is = by spot.goes refl
  where
    by : (t : Bool) → spot.goes ≡ t → All (λ row. comes_before name row.name ≡ true) (drop (behind spot) rows)
    by false e = is.higher e
    by true e = all_from (λ row. comes_before name row.name ≡ true) rows (behind spot) (λ k d from lt.
        let has = is.goes_is.0 e in
        let start : behind spot ≡ spot.place + 1 = next spot.goes e in
        let first : get_or (map (λ (row : Row). row.name) rows) spot.place [] ≡ name = get_or-map (λ (row : Row). row.name) rows spot.place d [] has.0 ∙ has.1 d in
        let later : get_or (map (λ (row : Row). row.name) rows) k [] ≡ (get_or rows k d).name = get_or-map (λ (row : Row). row.name) rows k d [] lt in
        let long : length (map (λ (row : Row). row.name) rows) ≡ length rows = simp length-map in
        other_way (get_or rows k d).name name (at_from (λ row. comes_before row.name name ≡ false) rows (behind spot) is.not_lower k d from lt)
        (λ q. distinct_at (map (λ (row : Row). row.name) rows) spot.place k [] (omega (arith, from, start)) (omega (arith, lt, long)) distinct (later ∙ q ∙ sym first)))
      where
        next : (goes : Bool) → goes ≡ true → behind (record { place = spot.place; goes = goes }) ≡ spot.place + 1
        next true q = refl
        next false q = let r : false ≡ true = q in cc

-- ---- rows once one is put

sorted_append : (xs ys : List Row) → IsSortedBy row_before xs → IsSortedBy row_before ys
    → ((i j : ℕ) (d : Row) → i < length xs → j < length ys → row_before (get_or ys j d) (get_or xs i d) ≡ false) → IsSortedBy row_before (xs ++ ys)
sorted_append xs ys a b c k d from lt =
    let long = length-append xs ys in
    elim (cases_lt (k + 1) (length xs)) [
      | inl less ↦ (λ i. row_before (get_or_append_left xs ys d (k + 1) less i) (get_or_append_left xs ys d k (omega (arith, less)) i)) ∙ a k d from less
      | inr more ↦
          let later = get_or-append_right xs ys (length xs) (k + 1) d refl more in
          elim (cases_lt k (length xs)) [
            | inl last ↦
                (λ i. row_before (later i) (get_or_append_left xs ys d k last i))
                ∙ c k (k + 1 - length xs) d last (omega (arith, more, lt, long))
            | inr past ↦
                let e : k + 1 - length xs ≡ (k - length xs) + 1 = omega (arith, past) in
                (λ i. row_before ((later ∙ ap (λ (n : ℕ). get_or ys n d) e) i) (get_or-append_right xs ys (length xs) k d refl past i))
                ∙ b (k - length xs) d (omega arith) (omega (arith, past, lt, long))
          ]
    ]

sorted_cons : (x : Row) (ys : List Row) → All (λ row. row_before row x ≡ false) ys → IsSortedBy row_before ys → IsSortedBy row_before (x ∷ ys)
sorted_cons x ys h up = sorted_append (x ∷ []) ys (λ k d from lt. absurd (omega (arith, lt))) up crossing
  where
    crossing : (i j : ℕ) (d : Row) → i < length (x ∷ []) → j < length ys → row_before (get_or ys j d) (get_or (x ∷ []) i d) ≡ false
    crossing zero j d one lt = h j d lt
    crossing (suc i) j d one lt = absurd (omega (arith, one))

module _ (rows : List Row) (up : IsSortedBy row_before rows) where
  sorted_take : (n : ℕ) → n ≤ length rows → IsSortedBy row_before (take n rows)
  sorted_take n le k d from lt =
      let long = length-take-le n rows le in
      let high : k + 1 < n = omega (arith, lt, long) in
      (λ i. row_before (get_or-take n rows (k + 1) d high i) (get_or-take n rows k d (omega (arith, high)) i)) ∙ up k d from (omega (arith, high, le))

  sorted_drop : (n : ℕ) → IsSortedBy row_before (drop n rows)
  sorted_drop n k d from lt =
      let e : n + (k + 1) ≡ (n + k) + 1 = omega arith in
      (λ i. row_before ((get_or-drop n rows (k + 1) d ∙ ap (λ (m : ℕ). get_or rows m d) e) i) (get_or-drop n rows k d i))
      ∙ up (n + k) d (omega arith) (omega (arith, lt, length-drop n rows))

  parts_apart : (p q : ℕ) → p ≤ q → p ≤ length rows → (i j : ℕ) (d : Row) → i < length (take p rows) → j < length (drop q rows)
      → row_before (get_or (drop q rows) j d) (get_or (take p rows) i d) ≡ false
  parts_apart p q le within i j d low high =
      let less : i < p = omega (arith, low, length-take-le p rows within) in
      (λ n. row_before (get_or-drop q rows j d n) (get_or-take p rows i d less n))
      ∙ sorted_far row_before by_name rows up i (q + j) d (omega (arith, less, le)) (omega (arith, high, length-drop q rows))

pub put_in_order : (rows : List Row) (spot : Spot) (put : Option Row) → behind spot ≤ length rows → AreNamed rows → Suits rows spot put → AreNamed (rows_with rows spot put)
put_in_order rows spot None within named suits =
    let up = sorted_rows rows named in
    let le = place_first spot.place spot.goes in
    let inside : spot.place ≤ length rows = omega (arith, within, le) in
    named_rows (take spot.place rows ++ drop (behind spot) rows)
    (sorted_append (take spot.place rows) (drop (behind spot) rows) (sorted_take rows up spot.place inside) (sorted_drop rows up (behind spot)) (parts_apart rows up spot.place (behind spot) le inside))
    (All-append HasItsName (take spot.place rows) (drop (behind spot) rows) (All-take HasItsName spot.place rows named.names) (All-drop HasItsName (behind spot) rows named.names))
put_in_order rows spot (Some row) within named suits =
    named_rows (take spot.place rows ++ (row ∷ drop (behind spot) rows))
    (sorted_append (take spot.place rows) (row ∷ drop (behind spot) rows) (sorted_take rows up spot.place inside) (sorted_cons row (drop (behind spot) rows) suits.1.not_lower (sorted_drop rows up (behind spot))) crossing)
    (All-append HasItsName (take spot.place rows) (row ∷ drop (behind spot) rows) (All-take HasItsName spot.place rows named.names)
    (All-cons HasItsName row (drop (behind spot) rows) suits.0 (All-drop HasItsName (behind spot) rows named.names)))
  where
    up : IsSortedBy row_before rows
    up = sorted_rows rows named

    le : spot.place ≤ behind spot
    le = place_first spot.place spot.goes

    inside : spot.place ≤ length rows
    inside = omega (arith, within, le)

    crossing : (i j : ℕ) (d : Row) → i < length (take spot.place rows) → j < length (row ∷ drop (behind spot) rows)
        → row_before (get_or (row ∷ drop (behind spot) rows) j d) (get_or (take spot.place rows) i d) ≡ false
    crossing i zero d low high = by_name.one_way (get_or (take spot.place rows) i d) row (suits.1.lower i d low)
    crossing i (suc j) d low high = parts_apart rows up spot.place (behind spot) le inside i j d low (omega (arith, high))
