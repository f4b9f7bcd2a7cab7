-- In a VTOC with a layout whose format 5s are linked, they are the chain that one reads.
use Rattle.std.proofs.Common.{◌≡◌, ◌⊎◌, List, [], ◌∷◌, ◌++◌, length, map, filter, not, Bool, true, false, Contains, Option, Some, None, refl, sym, ap, subst, ◌∙◌, arith, inl, inr}
use Rattle.std.specs.Prelude.{if◌then◌else◌}
use Rattle.std.specs.Option.{is_some}
use Rattle.std.specs.List.{list_any}
use Rattle.std.proofs.lemmas.Bool.{both_ways}
use Rattle.volume_model.specs.declared.place.Placed.{Placed}
use Rattle.volume_model.specs.declared.place.Vtoc.{Vtoc}
use Rattle.volume_model.specs.declared.rule.VtocRule.TheVariants as rules
use Rattle.volume_model.specs.Dscbs.{is_f5, pointer_in}
use Rattle.volume_model.specs.Directory.{same_place, named_record}
use Rattle.volume_model.specs.Check.{breach, records_of, fives_of, named_by, same_target, is_among, first_of, or_else, first_five, points as points_in, off_chain, bad_fives}
use Rattle.vtoc_check.specs.Sized.{IsSized}
use Rattle.vtoc_check.proofs.Marks.{any_passes, passes_any}
use Rattle.volume_model.proofs.Filters.{filter_skip, filter_keep}
use Rattle.volume_model.specs.FiveChain.{Names, EndsAt, IsFiveChain, walk_of}
use Rattle.vtoc_layout.specs.Layout.{AreDistinct, IsLinked, AreLinkedFives, Layout, IsLayoutOf}
use Rattle.vtoc_layout.proofs.Distinct.{first_or_later, at_first, in_later, in_none, in_front, in_middle, not_both, filter_nothing}
use Rattle.vtoc_layout.proofs.FiveChains.{one_chain}
use Rattle.vtoc_layout.proofs.Links.{Precedes, second_later, first_there, has_before, precedes_split, leads_on, leads_to_next, last_ends}
use Rattle.volume_model.proofs.Numbers.{place_itself}
use Rattle.vtoc_layout.proofs.Uses.{among, same_record, five_there, five_format, distinct_fives, same_fives}

-- the first that a test keeps is the only one that it keeps
only_first : (test : Placed → Bool) (xs : List Placed) (x : Placed) → Contains xs x → test x ≡ true → ((y : Placed) → Contains xs y → test y ≡ true → y ≡ x) → first_of (filter test xs) ≡ Some x
only_first test [] x c e h = absurd (in_none x c)
only_first test (y ∷ xs) x c e h = by (λ there. only_first test xs x there e (λ z d. h z (in_later y z xs d))) (first_or_later y x xs c) (test y) refl
  where
    by : (Contains xs x → first_of (filter test xs) ≡ Some x) → ((y ≡ x) ⊎ Contains xs x) → (t : Bool) → test y ≡ t → first_of (filter test (y ∷ xs)) ≡ Some x
    by later place true q = ap first_of (filter_keep test y xs q) ∙ ap (λ (z : Placed). Some z) (h y (at_first y xs) q)
    by later (inl same) false q = absurd (both_ways (test x) (ap test (sym same) ∙ q) e)
    by later (inr there) false q = ap first_of (filter_skip test y xs q) ∙ later there

module _ (vtoc : Vtoc) (layout : Layout) (sized : IsSized vtoc) (is : IsLayoutOf vtoc layout) where
  abbrev records : List Placed
  records = records_of vtoc

  abbrev names_it : Placed → Placed → Bool
  names_it five other = same_target (named_by vtoc other) (Some five)

  abbrev unnamed : Placed → Bool
  unnamed five = not (list_any (names_it five) (fives_of vtoc))

  -- ---- where it begins

  module _ (first : Placed) (more : List Placed) (whole : layout.fives ≡ first ∷ more) (linked : IsLinked vtoc.heads records first.bytes more) where
    distinct : AreDistinct (first ∷ more)
    distinct = let P : List Placed → Type 0 = λ xs. AreDistinct xs in subst P whole (distinct_fives vtoc layout sized is)

    listed : (placed : Placed) → Contains (fives_of vtoc) placed → Contains (first ∷ more) placed
    listed placed c = let P : List Placed → Type 0 = λ xs. Contains xs placed in subst P whole ((same_fives vtoc layout sized is).there placed c)

    kept : (placed : Placed) → Contains (first ∷ more) placed → Contains (fives_of vtoc) placed
    kept placed c = let P : List Placed → Type 0 = λ xs. Contains xs placed in (same_fives vtoc layout sized is).back placed (subst P (sym whole) c)

    stands : (placed : Placed) → Contains (first ∷ more) placed → Contains records placed
    stands placed c = let P : List Placed → Type 0 = λ xs. Contains xs placed in five_there vtoc layout sized is placed (subst P (sym whole) c)

    none_names_first : (other : Placed) → Contains (fives_of vtoc) other → names_it first other ≡ false
    none_names_first other c = by (leads_to_next vtoc.heads records first more other linked (listed other c))
      where
        no_target : (o : Option Placed) → o ≡ None → same_target o (Some first) ≡ false
        no_target o e = ap (λ (x : Option Placed). same_target x (Some first)) e

        by : ((pointer_in other.bytes ≡ None) ⊎ ((next : Placed) × (named_by vtoc other ≡ Some next) × Precedes (first ∷ more) other next)) → names_it first other ≡ false
        by (inl none) = no_target (named_by vtoc other) (ap (named_record vtoc.heads records) none)
        by (inr r) = ap (λ (x : Option Placed). same_target x (Some first)) r.1 ∙ apart (same_place r.0.place first.place) refl
          where
            later : Contains more r.0
            later = second_later first more other r.0 r.2

            apart : (t : Bool) → same_place r.0.place first.place ≡ t → t ≡ false
            apart false e = refl
            apart true e =
                let same : r.0 ≡ first = same_record vtoc layout sized is r.0 first (stands r.0 (in_later first r.0 more later)) (stands first (at_first first more)) e in
                let P : Placed → Type 0 = λ x. Contains more x in
                absurd (distinct.0 (subst P same later))

    first_unnamed : unnamed first ≡ true
    first_unnamed = ap not (none (list_any (names_it first) (fives_of vtoc)) refl)
      where
        none : (t : Bool) → list_any (names_it first) (fives_of vtoc) ≡ t → t ≡ false
        none false e = refl
        none true e = let found = any_passes (names_it first) (fives_of vtoc) e in absurd (both_ways (names_it first found.0) (none_names_first found.0 found.1) found.2)

    only_unnamed : (placed : Placed) → Contains (fives_of vtoc) placed → unnamed placed ≡ true → placed ≡ first
    only_unnamed placed c e = by (first_or_later first placed more (listed placed c))
      where
        by : ((first ≡ placed) ⊎ Contains more placed) → placed ≡ first
        by (inl same) = sym same
        by (inr later) =
            let before = has_before first more placed later in
            let named : named_by vtoc before.0 ≡ Some placed = leads_on vtoc.heads records first more before.0 placed linked before.1 in
            let test : names_it placed before.0 ≡ true = ap (λ (x : Option Placed). same_target x (Some placed)) named ∙ place_itself placed.place in
            let some : list_any (names_it placed) (fives_of vtoc) ≡ true = passes_any (names_it placed) (fives_of vtoc) before.0 (kept before.0 (first_there (first ∷ more) before.0 placed before.1)) test in
            absurd (both_ways (unnamed placed) (ap not some) e)

    begins_first : first_five (named_by vtoc) (fives_of vtoc) ≡ Some first
    begins_first =
        ap (λ (o : Option Placed). or_else o (first_of (fives_of vtoc)))
        (only_first unnamed (fives_of vtoc) first (kept first (at_first first more)) first_unnamed only_unnamed)

    is_chain : IsFiveChain points_in (named_by vtoc) (fives_of vtoc) (first ∷ more) []
    is_chain = record {
      begins = sym begins_first;
      links = links;
      apart = apart;
      ends = ends;
      none = λ e. refl;
    }
      where
        links : (front back : List Placed) (five next : Placed) → first ∷ more ≡ front ++ (five ∷ next ∷ back) → Names (named_by vtoc) five next
        links front back five next e =
            let P : List Placed → Type 0 = λ xs. Precedes xs five next in
            let before : Precedes (first ∷ more) five next = subst P (sym e) (precedes_split front five next back) in
            let Q : List Placed → Type 0 = λ xs. Contains xs next in
            let there : Contains layout.fives next = subst Q (sym whole) (in_later first next more (second_later first more five next before)) in
            (leads_on vtoc.heads records first more five next linked before, ap is_f5 (five_format vtoc layout sized is next there))

        apart : (front back : List Placed) (five : Placed) → first ∷ more ≡ front ++ (five ∷ back) → is_among front five ≡ false
        apart front back five e = by (is_among front five) refl
          where
            inside : (placed : Placed) → Contains (front ++ (five ∷ back)) placed → Contains records placed
            inside placed c = let P : List Placed → Type 0 = λ xs. Contains xs placed in stands placed (subst P (sym e) c)

            by : (t : Bool) → is_among front five ≡ t → t ≡ false
            by false q = refl
            by true q =
                let found = any_passes (λ (other : Placed). same_place other.place five.place) front q in
                let same : found.0 ≡ five =
                same_record vtoc layout sized is found.0 five (inside found.0 (in_front front (five ∷ back) found.0 found.1)) (inside five (in_middle front five back)) found.2 in
                let P : Placed → Type 0 = λ x. Contains front x in
                let D : List Placed → Type 0 = λ xs. AreDistinct xs in
                absurd (not_both front (five ∷ back) five (subst D e distinct) (subst P same found.1) (at_first five back))

        ends : (front : List Placed) (last : Placed) → first ∷ more ≡ front ++ (last ∷ []) → EndsAt points_in (named_by vtoc) (first ∷ more) last []
        ends front last e =
            let none : pointer_in last.bytes ≡ None = last_ends vtoc.heads records first more front last linked e in
            inl (ap is_some none, ap (named_record vtoc.heads records) none, refl)

  -- ---- the whole

  no_fives : layout.fives ≡ [] → fives_of vtoc ≡ []
  no_fives e = by (fives_of vtoc) (λ placed c. let P : List Placed → Type 0 = λ xs. Contains xs placed in subst P e ((same_fives vtoc layout sized is).there placed c))
    where
      by : (xs : List Placed) → ((placed : Placed) → Contains xs placed → Contains [] placed) → xs ≡ []
      by [] h = refl
      by (x ∷ xs) h = absurd (in_none x (h x (at_first x xs)))

  empty_chain : fives_of vtoc ≡ [] → IsFiveChain points_in (named_by vtoc) (fives_of vtoc) [] []
  empty_chain e = record {
    begins = sym (ap (first_five (named_by vtoc)) e);
    links = λ front back five next q. absurd (longer front five (next ∷ back) q);
    apart = λ front back five q. absurd (longer front five back q);
    ends = λ front last q. absurd (longer front last [] q);
    none = λ q. refl;
  }
    where
      longer : (front : List Placed) (x : Placed) (back : List Placed) → [] ≡ front ++ (x ∷ back) → ⊥
      longer [] x back q = omega (arith, ap length q)
      longer (y ∷ front) x back q = omega (arith, ap length q)

  linked_chain : (fives : List Placed) → layout.fives ≡ fives → AreLinkedFives vtoc.heads records fives → IsFiveChain points_in (named_by vtoc) (fives_of vtoc) fives []
  linked_chain [] whole linked = empty_chain (no_fives whole)
  linked_chain (first ∷ more) whole linked = is_chain first more whole linked

  pub walk_is : AreLinkedFives vtoc.heads records layout.fives → (layout.fives ≡ (walk_of vtoc).0) × ([] ≡ (walk_of vtoc).1)
  walk_is linked = one_chain vtoc layout.fives [] (linked_chain layout.fives refl linked)

  none_off : AreLinkedFives vtoc.heads records layout.fives → off_chain points_in (named_by vtoc) (fives_of vtoc) ≡ []
  none_off linked =
      let walk = walk_is linked in
      let on : filter (λ five. not (is_among layout.fives five)) (fives_of vtoc) ≡ [] =
      filter_nothing (λ five. not (is_among layout.fives five)) (fives_of vtoc) (λ placed c. ap not (among layout.fives placed ((same_fives vtoc layout sized is).there placed c))) in
      (λ i. sym walk.1 i ++ filter (λ five. not (is_among (sym walk.0 i) five)) (fives_of vtoc)) ∙ on

  pub no_bad_fives : (vtoc.valid ≡ true → AreLinkedFives vtoc.heads records layout.fives) → bad_fives vtoc ≡ []
  no_bad_fives linked = by vtoc.valid refl
    where
      by : (t : Bool) → vtoc.valid ≡ t → (if t then map (breach rules.Pointer) (off_chain points_in (named_by vtoc) (fives_of vtoc)) else []) ≡ []
      by true e = ap (λ (found : List Placed). map (breach rules.Pointer) found) (none_off (linked e))
      by false e = refl
