-- The places that are kept, taken and freed.
use Rattle.std.proofs.Common.{◌≡◌, ◌⊎◌, List, [], ◌++◌, map, filter, drop, Bool, true, false, not, cond, ◌||◌, Contains, refl, sym, ap, subst, ◌∙◌, inl, inr, append_assoc}
use Rattle.std.proofs.lemmas.Bool.{cases_Bool, both_ways, or_cases}
use Rattle.std.proofs.lemmas.List.{take-append-drop, append-nil}
use Rattle.std.proofs.lemmas.List.Elements.{Contains-append_cases, All-contains}
use Rattle.volume_model.specs.declared.place.Place.{Place}
use Rattle.volume_model.specs.declared.place.Placed.{Placed}
use Rattle.volume_model.specs.Directory.{same_place}
use Rattle.vtoc_layout.specs.Layout.{AreDistinct}
use Rattle.vtoc_layout.proofs.Distinct.{first_or_later, in_front, in_back, distinct_front, distinct_back, not_both, distinct_append, distinct_filter, in_filter, from_filter, from_map, one_of_map}
use Rattle.layout_edit.specs.Change.{place_of}
use Rattle.vtoc_allot.specs.declared.held.Held.{Held}
use Rattle.vtoc_allot.specs.declared.held.Wanted.{Wanted}
use Rattle.vtoc_allot.specs.declared.places.Allotment.{Allotment}
use Rattle.vtoc_allot.specs.Allotted.{listed, one_if, is_at, held_places, kept_one, kept_three, kept_fives, given_back, pool_of, without, TakesFirst, wants_first, IsHeld, IsAllotted}
use Rattle.vtoc_allot.proofs.Pools.{at_there, there_at, given_distinct, given_held, distinct_map_filter}
use Rattle.vtoc_plan.proofs.Lists.{swapped, with_back, middle_there, middle_turned, six_there, six_turned, six_back}
use Rattle.volume_model.specs.Dscbs.{is_free_record}
use Rattle.volume_model.proofs.Numbers.{place_itself}
use Rattle.ckd_image.proofs.Lists.{contains_map}

-- ---- what a first format 5 takes

taken_distinct : (second : Place) (wants : Bool) (pool first rest : List Place) → AreDistinct pool → TakesFirst second wants pool first rest → AreDistinct (first ++ rest)
taken_distinct second false pool first rest d takes = let D : List Place → Type 0 = λ xs. AreDistinct xs in subst D (sym (λ i. takes.0 i ++ takes.1 i)) d
taken_distinct second true pool first rest d (inl takes) =
    let D : List Place → Type 0 = λ xs. AreDistinct xs in
    subst D (sym (λ i. takes.1 i ++ takes.2 i))
    ((λ c. both_ways (not (same_place second second)) (ap not (place_itself second)) (from_filter (λ (other : Place). not (same_place second other)) pool second c).1), distinct_filter (λ (other : Place). not (same_place second other)) pool d)
taken_distinct second true pool first rest d (inr takes) =
    let D : List Place → Type 0 = λ xs. AreDistinct xs in
    subst D (takes.1.2 ∙ sym (ap (λ (xs : List Place). xs ++ rest) takes.1.1)) d

taken_there : (second : Place) (wants : Bool) (pool first rest : List Place) (z : Place) → TakesFirst second wants pool first rest → Contains (first ++ rest) z → Contains pool z
taken_there second false pool first rest z takes c = let P : List Place → Type 0 = λ xs. Contains xs z in subst P (λ i. takes.0 i ++ takes.1 i) c
taken_there second true pool first rest z (inl takes) c =
    let P : List Place → Type 0 = λ xs. Contains xs z in
    by (first_or_later second z (without second pool) (subst P (λ i. takes.1 i ++ takes.2 i) c))
  where
    by : ((second ≡ z) ⊎ Contains (without second pool) z) → Contains pool z
    by (inl same) = subst (Contains pool) same (there_at pool second takes.0)
    by (inr later) = (from_filter (λ (other : Place). not (same_place second other)) pool z later).0
taken_there second true pool first rest z (inr takes) c =
    let P : List Place → Type 0 = λ xs. Contains xs z in
    subst P (ap (λ (xs : List Place). xs ++ rest) takes.1.1 ∙ sym takes.1.2) c

-- ---- kept and given back

one_parts : (wanted : Bool) (one : List Place) → (cond wanted one []) ++ (cond wanted [] one) ≡ one
one_parts true one = append-nil one
one_parts false one = refl

module _ (records : List Placed) (second : Place) (held : Held) (wanted : Wanted) (allotment : Allotment) (is : IsHeld records held) (apart : AreDistinct (map place_of records)) (made : IsAllotted records second held wanted allotment) where
  abbrev given : List Place
  given = given_back held wanted

  abbrev k1 : List Place
  k1 = kept_one held wanted

  abbrev k3 : List Place
  k3 = kept_three held wanted

  abbrev k5 : List Place
  k5 = kept_fives held wanted

  abbrev g1 : List Place
  g1 = cond wanted.one [] (listed held.one)

  abbrev g3 : List Place
  g3 = drop (one_if wanted.three) held.threes

  abbrev g5 : List Place
  g5 = drop wanted.fives held.fives

  abbrev kept : List Place
  kept = k1 ++ (k3 ++ k5)

  abbrev first : List Place
  first = listed made.first

  abbrev new : List Place
  new = first ++ (made.ones ++ (made.threes ++ made.fives))

  abbrev pub freed : List Place
  freed = filter (λ place. not (is_at new place)) given

  held_parts : held_places held ≡ (k1 ++ g1) ++ ((k3 ++ g3) ++ (k5 ++ g5))
  held_parts = (λ i. sym (one_parts wanted.one (listed held.one)) i ++ (sym (take-append-drop (one_if wanted.three) held.threes) i ++ sym (take-append-drop wanted.fives held.fives) i))

  kept_and_given : AreDistinct (kept ++ given)
  kept_and_given = let D : List Place → Type 0 = λ xs. AreDistinct xs in six_turned k1 g1 k3 g3 k5 g5 (subst D held_parts is.apart)

  kept_or_given : (z : Place) → Contains (held_places held) z → Contains kept z ⊎ Contains given z
  kept_or_given z c =
      let P : List Place → Type 0 = λ xs. Contains xs z in
      Contains-append_cases kept given z (six_there k1 g1 k3 g3 k5 g5 z (subst P held_parts c))

  kept_held : (z : Place) → Contains kept z → Contains (held_places held) z
  kept_held z c =
      let P : List Place → Type 0 = λ xs. Contains xs z in
      subst P (sym held_parts) (six_back k1 g1 k3 g3 k5 g5 z (in_front kept given z c))

  -- ---- what is taken

  in_pool : (z : Place) → Contains (pool_of records given) z → (placed : Placed) × Contains records placed × (placed.place ≡ z) × ((is_free_record placed ≡ true) ⊎ Contains given z)
  in_pool z c =
      let at = from_map place_of (filter (λ placed. is_free_record placed || is_at given placed.place) records) z c in
      let passed = from_filter (λ (placed : Placed). is_free_record placed || is_at given placed.place) records at.0 at.1 in
      (at.0, passed.0, at.2, by at.0 at.2 (or_cases (is_free_record at.0) (is_at given at.0.place) passed.1))
    where
      by : (placed : Placed) → placed.place ≡ z → ((is_free_record placed ≡ true) ⊎ (is_at given placed.place ≡ true)) → (is_free_record placed ≡ true) ⊎ Contains given z
      by placed at (inl e) = inl e
      by placed at (inr e) = inr (subst (Contains given) at (there_at given placed.place e))

  all_taken : first ++ made.pool ≡ new ++ made.parts.left
  all_taken =
      ap (λ (xs : List Place). first ++ xs)
      (made.parts.pool_is ∙ ap (λ (xs : List Place). made.ones ++ xs) (sym (append_assoc made.threes made.fives made.parts.left)) ∙ sym (append_assoc made.ones (made.threes ++ made.fives) made.parts.left))
      ∙ sym (append_assoc first (made.ones ++ (made.threes ++ made.fives)) made.parts.left)

  new_distinct : AreDistinct new
  new_distinct =
      let D : List Place → Type 0 = λ xs. AreDistinct xs in
      distinct_front new made.parts.left
      (subst D all_taken
      (taken_distinct second (wants_first held wanted) (pool_of records given) first made.pool (distinct_map_filter place_of (λ placed. is_free_record placed || is_at given placed.place) records apart) made.first_is))

  -- a place that is taken is that of a free record, or is given back
  new_place : (z : Place) → Contains new z → (placed : Placed) × Contains records placed × (placed.place ≡ z) × ((is_free_record placed ≡ true) ⊎ Contains given z)
  new_place z c =
      let P : List Place → Type 0 = λ xs. Contains xs z in
      in_pool z (taken_there second (wants_first held wanted) (pool_of records given) first made.pool z made.first_is (subst P (sym all_taken) (in_front new made.parts.left z c)))

  kept_not_new : (z : Place) → Contains kept z → Contains new z → ⊥
  kept_not_new z p q =
      let used = All-contains (λ place. (placed : Placed) × Contains records placed × (placed.place ≡ place) × (is_free_record placed ≡ false)) (held_places held) z is.there (kept_held z p) in
      let of = new_place z q in
      by of.0 (one_of_map place_of records used.0 of.0 apart used.1 of.1 (used.2 ∙ sym of.2)) used.3 of.3
    where
      by : {used : Placed} → (placed : Placed) → used ≡ placed → is_free_record used ≡ false → ((is_free_record placed ≡ true) ⊎ Contains given z) → ⊥
      by placed same e (inl f) = both_ways (is_free_record placed) (ap is_free_record (sym same) ∙ e) f
      by placed same e (inr g) = not_both kept given z kept_and_given p g

  -- ---- what is freed

  freed_given : (z : Place) → Contains freed z → Contains given z
  freed_given z c = (from_filter (λ (place : Place). not (is_at new place)) given z c).0

  new_not_freed : (z : Place) → Contains new z → Contains freed z → ⊥
  new_not_freed z p q = both_ways (not (is_at new z)) (ap not (at_there new z p)) (from_filter (λ (place : Place). not (is_at new place)) given z q).1

  kept_not_freed : (z : Place) → Contains kept z → Contains freed z → ⊥
  kept_not_freed z p q = not_both kept given z kept_and_given p (freed_given z q)

  new_or_freed : (z : Place) → Contains given z → Contains new z ⊎ Contains freed z
  new_or_freed z c = by (cases_Bool (is_at new z))
    where
      by : ((is_at new z ≡ true) ⊎ (is_at new z ≡ false)) → Contains new z ⊎ Contains freed z
      by (inl e) = inl (there_at new z e)
      by (inr e) = inr (in_filter (λ (place : Place). not (is_at new place)) given z c (ap not e))

  -- ---- all places in the order in which they are written

  abbrev k13 : List Place
  k13 = k1 ++ k3

  abbrev n13 : List Place
  n13 = made.ones ++ made.threes

  abbrev n5 : List Place
  n5 = first ++ made.fives

  abbrev put : List Place
  put = (k1 ++ made.ones) ++ (k3 ++ made.threes)

  abbrev pub places : List Place
  places = (k5 ++ n5) ++ (put ++ freed)

  k5_kept : (z : Place) → Contains k5 z → Contains kept z
  k5_kept z c = in_back k1 (k3 ++ k5) z (in_back k3 k5 z c)

  kept_turned : kept ≡ k13 ++ k5
  kept_turned = sym (append_assoc k1 k3 k5)

  k13_kept : (z : Place) → Contains k13 z → Contains kept z
  k13_kept z c = let P : List Place → Type 0 = λ xs. Contains xs z in subst P (sym kept_turned) (in_front k13 k5 z c)

  new_turned : new ≡ first ++ (n13 ++ made.fives)
  new_turned = ap (λ (xs : List Place). first ++ xs) (sym (append_assoc made.ones made.threes made.fives))

  from_new : (z : Place) → Contains new z → Contains n5 z ⊎ Contains n13 z
  from_new z c = let P : List Place → Type 0 = λ xs. Contains xs z in by (Contains-append_cases first (n13 ++ made.fives) z (subst P new_turned c))
    where
      later : (Contains n13 z ⊎ Contains made.fives z) → Contains n5 z ⊎ Contains n13 z
      later (inl p) = inr p
      later (inr q) = inl (in_back first made.fives z q)

      by : (Contains first z ⊎ Contains (n13 ++ made.fives) z) → Contains n5 z ⊎ Contains n13 z
      by (inl p) = inl (in_front first made.fives z p)
      by (inr q) = later (Contains-append_cases n13 made.fives z q)

  n13_new : (z : Place) → Contains n13 z → Contains new z
  n13_new z c = let P : List Place → Type 0 = λ xs. Contains xs z in subst P (sym new_turned) (in_back first (n13 ++ made.fives) z (in_front n13 made.fives z c))

  n5_new : (z : Place) → Contains n5 z → Contains new z
  n5_new z c = let P : List Place → Type 0 = λ xs. Contains xs z in subst P (sym new_turned) (by (Contains-append_cases first made.fives z c))
    where
      by : (Contains first z ⊎ Contains made.fives z) → Contains (first ++ (n13 ++ made.fives)) z
      by (inl p) = in_front first (n13 ++ made.fives) z p
      by (inr q) = in_back first (n13 ++ made.fives) z (in_back n13 made.fives z q)

  k_distinct : AreDistinct (k13 ++ k5)
  k_distinct = let D : List Place → Type 0 = λ xs. AreDistinct xs in subst D kept_turned (distinct_front kept given kept_and_given)

  n_distinct : AreDistinct (n5 ++ n13)
  n_distinct =
      let D : List Place → Type 0 = λ xs. AreDistinct xs in
      let turned : AreDistinct (first ++ (n13 ++ made.fives)) = subst D new_turned new_distinct in
      subst D (sym (append_assoc first made.fives n13))
      (with_back first (n13 ++ made.fives) (made.fives ++ n13) turned (swapped n13 made.fives (distinct_back first (n13 ++ made.fives) turned)) other)
    where
      other : (z : Place) → Contains (made.fives ++ n13) z → Contains (n13 ++ made.fives) z
      other z c = by (Contains-append_cases made.fives n13 z c)
        where
          by : (Contains made.fives z ⊎ Contains n13 z) → Contains (n13 ++ made.fives) z
          by (inl p) = in_back n13 made.fives z p
          by (inr q) = in_front n13 made.fives z q

  from_put : (z : Place) → Contains put z → Contains k13 z ⊎ Contains n13 z
  from_put z c = Contains-append_cases k13 n13 z (middle_there k1 made.ones k3 made.threes z c)

  pub places_distinct : AreDistinct places
  places_distinct =
      distinct_append (k5 ++ n5) (put ++ freed)
      (distinct_append k5 n5 (distinct_back k13 k5 k_distinct) (distinct_front n5 n13 n_distinct) (λ z p q. kept_not_new z (k5_kept z p) (n5_new z q)))
      (distinct_append put freed
      (middle_turned k1 k3 made.ones made.threes
      (distinct_append k13 n13 (distinct_front k13 k5 k_distinct) (distinct_back n5 n13 n_distinct) (λ z p q. kept_not_new z (k13_kept z p) (n13_new z q))))
      (distinct_filter (λ (place : Place). not (is_at new place)) given (given_distinct held wanted is.apart))
      (λ z p q. put_or z (from_put z p) q))
      (λ z p q. five_or z (Contains-append_cases k5 n5 z p) (Contains-append_cases put freed z q))
    where
      put_or : (z : Place) → (Contains k13 z ⊎ Contains n13 z) → Contains freed z → ⊥
      put_or z (inl p) q = kept_not_freed z (k13_kept z p) q
      put_or z (inr p) q = new_not_freed z (n13_new z p) q

      five_put : (z : Place) → (Contains k5 z ⊎ Contains n5 z) → (Contains k13 z ⊎ Contains n13 z) → ⊥
      five_put z (inl p) (inl q) = not_both k13 k5 z k_distinct q p
      five_put z (inl p) (inr q) = kept_not_new z (k5_kept z p) (n13_new z q)
      five_put z (inr p) (inl q) = kept_not_new z (k13_kept z q) (n5_new z p)
      five_put z (inr p) (inr q) = not_both n5 n13 z n_distinct p q

      five_freed : (z : Place) → (Contains k5 z ⊎ Contains n5 z) → Contains freed z → ⊥
      five_freed z (inl p) q = kept_not_freed z (k5_kept z p) q
      five_freed z (inr p) q = new_not_freed z (n5_new z p) q

      five_or : (z : Place) → (Contains k5 z ⊎ Contains n5 z) → (Contains put z ⊎ Contains freed z) → ⊥
      five_or z p (inl q) = five_put z p (from_put z q)
      five_or z p (inr q) = five_freed z p q

  -- each is kept, taken or freed
  from_places : (z : Place) → Contains places z → Contains kept z ⊎ (Contains new z ⊎ Contains freed z)
  from_places z c = by (Contains-append_cases (k5 ++ n5) (put ++ freed) z c)
    where
      in_five : (Contains k5 z ⊎ Contains n5 z) → Contains kept z ⊎ (Contains new z ⊎ Contains freed z)
      in_five (inl p) = inl (k5_kept z p)
      in_five (inr q) = inr (inl (n5_new z q))

      in_put : (Contains k13 z ⊎ Contains n13 z) → Contains kept z ⊎ (Contains new z ⊎ Contains freed z)
      in_put (inl p) = inl (k13_kept z p)
      in_put (inr q) = inr (inl (n13_new z q))

      behind : (Contains put z ⊎ Contains freed z) → Contains kept z ⊎ (Contains new z ⊎ Contains freed z)
      behind (inl p) = in_put (from_put z p)
      behind (inr q) = inr (inr q)

      by : (Contains (k5 ++ n5) z ⊎ Contains (put ++ freed) z) → Contains kept z ⊎ (Contains new z ⊎ Contains freed z)
      by (inl p) = in_five (Contains-append_cases k5 n5 z p)
      by (inr q) = behind (Contains-append_cases put freed z q)

  five_place : (z : Place) → Contains (k5 ++ n5) z → Contains places z
  five_place z c = in_front (k5 ++ n5) (put ++ freed) z c

  put_place : (z : Place) → Contains (k13 ++ n13) z → Contains places z
  put_place z c = in_back (k5 ++ n5) (put ++ freed) z (in_front put freed z (middle_there k1 k3 made.ones made.threes z c))

  -- what was held is kept, taken or freed
  pub held_place : (z : Place) → Contains (held_places held) z → Contains places z
  held_place z c = by (kept_or_given z c)
    where
      of_kept : (Contains k13 z ⊎ Contains k5 z) → Contains places z
      of_kept (inl p) = put_place z (in_front k13 n13 z p)
      of_kept (inr q) = five_place z (in_front k5 n5 z q)

      of_new : (Contains n5 z ⊎ Contains n13 z) → Contains places z
      of_new (inl p) = five_place z (in_back k5 n5 z p)
      of_new (inr q) = put_place z (in_back k13 n13 z q)

      of_given : (Contains new z ⊎ Contains freed z) → Contains places z
      of_given (inl p) = of_new (from_new z p)
      of_given (inr q) = in_back (k5 ++ n5) (put ++ freed) z (in_back put freed z q)

      P : List Place → Type 0
      P = λ xs. Contains xs z

      by : (Contains kept z ⊎ Contains given z) → Contains places z
      by (inl p) = of_kept (Contains-append_cases k13 k5 z (subst P kept_turned p))
      by (inr q) = of_given (new_or_freed z q)

  -- a record that isn't free, and isn't held, stays
  pub not_placed : (placed : Placed) → Contains records placed → is_free_record placed ≡ false → ¬ Contains (held_places held) placed.place → ¬ Contains places placed.place
  not_placed placed c used free c' = by (from_places placed.place c')
    where
      taken : (other : Placed) → other ≡ placed → ((is_free_record other ≡ true) ⊎ Contains given placed.place) → ⊥
      taken other same (inl e) = both_ways (is_free_record placed) used (ap is_free_record (sym same) ∙ e)
      taken other same (inr g) = free (given_held held wanted placed.place g)

      by : (Contains kept placed.place ⊎ (Contains new placed.place ⊎ Contains freed placed.place)) → ⊥
      by (inl p) = free (kept_held placed.place p)
      by (inr (inl q)) = let of = new_place placed.place q in taken of.0 (one_of_map place_of records of.0 placed apart of.1 c of.2) of.3
      by (inr (inr r)) = free (given_held held wanted placed.place (freed_given placed.place r))

  -- each is a record's
  pub places_there : (z : Place) → Contains places z → Contains (map place_of records) z
  places_there z c = by (from_places z c)
    where
      of_record : (placed : Placed) → Contains records placed → placed.place ≡ z → Contains (map place_of records) z
      of_record placed p at = subst (Contains (map place_of records)) at (contains_map place_of records placed p)

      of_held : Contains (held_places held) z → Contains (map place_of records) z
      of_held p =
          let at = All-contains (λ place. (placed : Placed) × Contains records placed × (placed.place ≡ place) × (is_free_record placed ≡ false)) (held_places held) z is.there p in
          of_record at.0 at.1 at.2

      by : (Contains kept z ⊎ (Contains new z ⊎ Contains freed z)) → Contains (map place_of records) z
      by (inl p) = of_held (kept_held z p)
      by (inr (inl q)) = let of = new_place z q in of_record of.0 of.1 of.2
      by (inr (inr r)) = of_held (given_held held wanted z (freed_given z r))

  pub allotted_are : allotment.fives ++ ((listed allotment.one ++ listed allotment.three) ++ allotment.freed) ≡ places
  allotted_are = (λ i. made.fives_are i ++ ((made.one_is i ++ made.three_is i) ++ made.freed_are i))
