-- A pool holds enough where there are enough records.
use Rattle.std.proofs.Common.{◌≡◌, ◌⊎◌, ℕ, zero, suc, ◌+◌, ◌-◌, ◌≤◌, List, [], ◌∷◌, ◌++◌, length, map, filter, drop, Bool, true, false, not, cond, ◌||◌, ◌==◌, Contains, Option, Some, None, refl, sym, ap, subst, ◌∙◌, arith, inl, inr, length-append, length-drop}
use Rattle.std.proofs.lemmas.Bool.{cases_Bool, both_ways, and_parts, eqb-true}
use Rattle.std.proofs.lemmas.List.{length-map}
use Rattle.std.proofs.lemmas.List.Elements.{Contains-append_cases, All-contains}
use Rattle.volume_model.specs.declared.place.Place.{Place}
use Rattle.volume_model.specs.declared.place.Placed.{Placed}
use Rattle.volume_model.specs.Directory.{same_place}
use Rattle.volume_model.proofs.Filters.{filter_skip, filter_keep}
use Rattle.vtoc_layout.specs.Layout.{AreDistinct}
use Rattle.vtoc_layout.proofs.Distinct.{first_or_later, at_first, in_none, in_later, in_front, in_back, distinct_front, distinct_back, not_both, distinct_append, no_more, in_filter, from_filter, filter_all, from_map, one_of_map}
use Rattle.vtoc_layout.proofs.FiveChains.{one_place}
use Rattle.vtoc_allot.specs.declared.held.Held.{Held}
use Rattle.vtoc_allot.specs.declared.held.Wanted.{Wanted}
use Rattle.vtoc_allot.specs.Allotted.{listed, one_if, is_at, held_places, held_count, wanted_count, given_back, new_ones, new_threes, new_fives, free_count, pool_of, without, TakesFirst, wants_first, IsHeld}
use Rattle.vtoc_allot.proofs.Parts.{in_drop, distinct_drop}
use Rattle.volume_model.specs.Dscbs.{is_free_record}
use Rattle.volume_model.proofs.Numbers.{place_itself}
use Rattle.ckd_image.proofs.Lists.{contains_map}

abbrev place_of : Placed → Place
place_of placed = placed.place

-- ---- places among others

pub at_there : (places : List Place) (place : Place) → Contains places place → is_at places place ≡ true
at_there [] place h = absurd (in_none place h)
at_there (x ∷ places) place h = by (first_or_later x place places h) (λ later. at_there places place later)
  where
    by : ((x ≡ place) ⊎ Contains places place) → (Contains places place → is_at places place ≡ true) → is_at (x ∷ places) place ≡ true
    by (inl here) more = ap (λ (b : Bool). b || is_at places place) (ap (same_place place) here ∙ place_itself place)
    by (inr later) more = either (same_place place x) (is_at places place) (more later)
      where
        either : (a b : Bool) → b ≡ true → (a || b) ≡ true
        either true b is = refl
        either false b is = is

pub there_at : (places : List Place) (place : Place) → is_at places place ≡ true → Contains places place
there_at [] place is = absurd (both_ways false refl is)
there_at (x ∷ places) place is = by (cases_Bool (same_place place x)) (λ more. there_at places place more)
  where
    by : ((same_place place x ≡ true) ⊎ (same_place place x ≡ false)) → (is_at places place ≡ true → Contains places place) → Contains (x ∷ places) place
    by (inl same) more = subst (Contains (x ∷ places)) (sym (one_place place x same)) (at_first x places)
    by (inr other) more = in_later x place places (more (sym (ap (λ (b : Bool). b || is_at places place) other) ∙ is))

-- ---- what is held and given back

parts_distinct : (held : Held) → AreDistinct (held_places held) → AreDistinct (held.threes ++ held.fives)
parts_distinct held apart = distinct_back (listed held.one) (held.threes ++ held.fives) apart

later_parts : (held : Held) (n m : ℕ) → AreDistinct (held_places held) → AreDistinct (drop n held.threes ++ drop m held.fives)
later_parts held n m apart =
    let both = parts_distinct held apart in
    distinct_append (drop n held.threes) (drop m held.fives) (distinct_drop n held.threes (distinct_front held.threes held.fives both))
    (distinct_drop m held.fives (distinct_back held.threes held.fives both))
    (λ z p q. not_both held.threes held.fives z both (in_drop n held.threes z p) (in_drop m held.fives z q))

in_later_parts : (held : Held) (n m : ℕ) (z : Place) → Contains (drop n held.threes ++ drop m held.fives) z → Contains (held.threes ++ held.fives) z
in_later_parts held n m z h = by (Contains-append_cases (drop n held.threes) (drop m held.fives) z h)
  where
    by : (Contains (drop n held.threes) z ⊎ Contains (drop m held.fives) z) → Contains (held.threes ++ held.fives) z
    by (inl p) = in_front held.threes held.fives z (in_drop n held.threes z p)
    by (inr q) = in_back held.threes held.fives z (in_drop m held.fives z q)

-- what is given back is among what is held, each once
pub given_distinct : (held : Held) (wanted : Wanted) → AreDistinct (held_places held) → AreDistinct (given_back held wanted)
given_distinct held wanted apart = by wanted.one
  where
    rest : List Place
    rest = drop (one_if wanted.three) held.threes ++ drop wanted.fives held.fives

    by : (one : Bool) → AreDistinct ((cond one [] (listed held.one)) ++ rest)
    by true = later_parts held (one_if wanted.three) wanted.fives apart
    by false =
        distinct_append (listed held.one) rest (distinct_front (listed held.one) (held.threes ++ held.fives) apart) (later_parts held (one_if wanted.three) wanted.fives apart)
        (λ z p q. not_both (listed held.one) (held.threes ++ held.fives) z apart p (in_later_parts held (one_if wanted.three) wanted.fives z q))

pub given_held : (held : Held) (wanted : Wanted) (z : Place) → Contains (given_back held wanted) z → Contains (held_places held) z
given_held held wanted z h = by wanted.one h
  where
    rest : List Place
    rest = drop (one_if wanted.three) held.threes ++ drop wanted.fives held.fives

    split : (Contains (listed held.one) z ⊎ Contains rest z) → Contains (held_places held) z
    split (inl p) = in_front (listed held.one) (held.threes ++ held.fives) z p
    split (inr q) = in_back (listed held.one) (held.threes ++ held.fives) z (in_later_parts held (one_if wanted.three) wanted.fives z q)

    by : (one : Bool) → Contains ((cond one [] (listed held.one)) ++ rest) z → Contains (held_places held) z
    by true h = split (inr h)
    by false h = split (Contains-append_cases (listed held.one) rest z h)

-- ---- how many the pool holds

pub distinct_map_filter : {X Y : Type 0} (f : X → Y) (test : X → Bool) (xs : List X) → AreDistinct (map f xs) → AreDistinct (map f (filter test xs))
distinct_map_filter f test [] h = tt
distinct_map_filter {X} {Y} f test (x ∷ xs) h = by (distinct_map_filter f test xs h.1) (test x) refl
  where
    by : AreDistinct (map f (filter test xs)) → (b : Bool) → test x ≡ b → AreDistinct (map f (filter test (x ∷ xs)))
    by rest true e =
        subst (λ ys. AreDistinct (map f ys)) (sym (filter_keep test x xs e))
        ((λ c. let from = from_map f (filter test xs) (f x) c in h.0 (subst (Contains (map f xs)) from.2 (contains_map f xs from.0 (from_filter test xs from.0 from.1).0))), rest)
    by rest false e = subst (λ ys. AreDistinct (map f ys)) (sym (filter_skip test x xs e)) rest

pub filter_either : {X : Type 0} (p q : X → Bool) (xs : List X) → ((x : X) → Contains xs x → q x ≡ true → p x ≡ false)
    → length (filter (λ x. p x || q x) xs) ≡ length (filter p xs) + length (filter q xs)
filter_either p q [] apart = omega arith
filter_either {X} p q (x ∷ xs) apart = by (filter_either p q xs (λ y there. apart y (in_later x y xs there))) (p x) (q x) refl refl
  where
    both : X → Bool
    both y = p y || q y

    by : length (filter both xs) ≡ length (filter p xs) + length (filter q xs) → (a b : Bool) → p x ≡ a → q x ≡ b → length (filter both (x ∷ xs)) ≡ length (filter p (x ∷ xs)) + length (filter q (x ∷ xs))
    by rest true true e f = absurd (both_ways (p x) (apart x (at_first x xs) f) e)
    by rest true false e f =
        omega (arith, rest, ap length (filter_keep both x xs (ap (λ (b : Bool). b || q x) e)), ap length (filter_keep p x xs e), ap length (filter_skip q x xs f))
    by rest false true e f =
        omega (arith, rest, ap length (filter_keep both x xs (ap (λ (b : Bool). b || q x) e ∙ f)), ap length (filter_skip p x xs e), ap length (filter_keep q x xs f))
    by rest false false e f =
        omega (arith, rest, ap length (filter_skip both x xs (ap (λ (b : Bool). b || q x) e ∙ f)), ap length (filter_skip p x xs e), ap length (filter_skip q x xs f))

-- each place that is given back is that of one record, which isn't free
pub given_counted : (records : List Placed) (given : List Place) → AreDistinct (map place_of records) → AreDistinct given
    → ((z : Place) → Contains given z → (placed : Placed) × Contains records placed × (placed.place ≡ z))
    → length (filter (λ placed. is_at given placed.place) records) ≡ length given
given_counted records given apart distinct there = omega (arith, no_more given found distinct given_found, no_more found given found_distinct found_given, same_length)
  where
    test : Placed → Bool
    test placed = is_at given placed.place

    found : List Place
    found = map place_of (filter test records)

    same_length : length found ≡ length (filter test records)
    same_length = length-map (filter test records) place_of

    found_distinct : AreDistinct found
    found_distinct = distinct_map_filter place_of test records apart

    found_given : (z : Place) → Contains found z → Contains given z
    found_given z h =
        let from = from_map place_of (filter test records) z h in
        subst (Contains given) from.2 (there_at given from.0.place (from_filter test records from.0 from.1).1)

    given_found : (z : Place) → Contains given z → Contains found z
    given_found z h =
        let from = there z h in
        subst (Contains found) from.2
        (contains_map place_of (filter test records) from.0 (in_filter test records from.0 from.1 (ap (is_at given) from.2 ∙ at_there given z h)))

module _ (records : List Placed) (held : Held) (wanted : Wanted) (is : IsHeld records held) (apart : AreDistinct (map place_of records)) where
  abbrev pub given : List Place
  given = given_back held wanted

  holder : (z : Place) → Contains given z → (placed : Placed) × Contains records placed × (placed.place ≡ z) × (is_free_record placed ≡ false)
  holder z h = All-contains (λ place. (placed : Placed) × Contains records placed × (placed.place ≡ place) × (is_free_record placed ≡ false)) (held_places held) z is.there (given_held held wanted z h)

  -- a record whose place is given back isn't free
  given_used : (placed : Placed) → Contains records placed → is_at given placed.place ≡ true → is_free_record placed ≡ false
  given_used placed there at =
      let used = holder placed.place (there_at given placed.place at) in
      let same : used.0 ≡ placed = one_of_map place_of records used.0 placed apart used.1 there used.2 in
      ap is_free_record (sym same) ∙ used.3

  pub pool_counted : length (pool_of records given) ≡ free_count records + length given
  pool_counted =
      length-map (filter (λ placed. is_free_record placed || is_at given placed.place) records) place_of
      ∙ filter_either is_free_record (λ placed. is_at given placed.place) records given_used
      ∙ ap (λ (n : ℕ). free_count records + n)
      (given_counted records given apart (given_distinct held wanted is.apart) (λ z h. let used = holder z h in (used.0, used.1, used.2)))

  -- what is held are so many records at most
  pub held_few : held_count held ≤ length records
  held_few =
      omega (
        arith,
        no_more (held_places held) (map place_of records) is.apart held_there,
        length-map records place_of,
        length-append (listed held.one) (held.threes ++ held.fives),
        length-append held.threes held.fives,
      )
    where
      held_there : (z : Place) → Contains (held_places held) z → Contains (map place_of records) z
      held_there z h =
          let used = All-contains (λ place. (placed : Placed) × Contains records placed × (placed.place ≡ place) × (is_free_record placed ≡ false)) (held_places held) z is.there h in
          subst (Contains (map place_of records)) used.2 (contains_map place_of records used.0 used.1)

  given_long : length given + one_if wanted.one + one_if wanted.three + wanted.fives
      ≡ length (cond wanted.one [] (listed held.one)) + one_if wanted.one + ((length held.threes - one_if wanted.three) + one_if wanted.three) + ((length held.fives - wanted.fives) + wanted.fives)
  given_long =
      omega (
        arith,
        length-append (cond wanted.one [] (listed held.one)) (drop (one_if wanted.three) held.threes ++ drop wanted.fives held.fives),
        length-append (drop (one_if wanted.three) held.threes) (drop wanted.fives held.fives),
        length-drop (one_if wanted.three) held.threes,
        length-drop wanted.fives held.fives,
      )

  one_short : (wanted : Bool) (held : Option Place) → length (cond wanted [] (listed held)) + one_if wanted ≡ (one_if wanted - length (listed held)) + length (listed held)
  one_short true None = omega arith
  one_short true (Some place) = omega arith
  one_short false None = omega arith
  one_short false (Some place) = omega arith

  -- so many records are taken as the pool holds
  pub enough : wanted_count wanted ≤ held_count held + free_count records
      → new_ones held wanted + new_threes held wanted + new_fives held wanted ≤ length (pool_of records given)
  enough room = omega (arith, room, pool_counted, given_long, one_short wanted.one held.one)

-- ---- the pool once the first format 5 has its record

pool_distinct : (records : List Placed) (given : List Place) → AreDistinct (map place_of records) → AreDistinct (pool_of records given)
pool_distinct records given apart = distinct_map_filter place_of (λ placed. is_free_record placed || is_at given placed.place) records apart

-- without one place there is one fewer at most
one_fewer : (place : Place) (pool : List Place) → AreDistinct pool → length pool ≤ 1 + length (without place pool)
one_fewer place [] apart = omega arith
one_fewer place (x ∷ pool) apart = by (one_fewer place pool apart.1) (cases_Bool (same_place place x))
  where
    test : Place → Bool
    test other = not (same_place place other)

    by : length pool ≤ 1 + length (filter test pool) → ((same_place place x ≡ true) ⊎ (same_place place x ≡ false)) → length (x ∷ pool) ≤ 1 + length (filter test (x ∷ pool))
    by rest (inl same) =
        let here : place ≡ x = one_place place x same in
        let others : filter test pool ≡ pool = filter_all test pool (λ y there. ap not (other y there here)) in
        omega (arith, ap length (filter_skip test x pool (ap not same)), ap length others)
      where
        other : (y : Place) → Contains pool y → place ≡ x → same_place place y ≡ false
        other y there here = differ (cases_Bool (same_place place y))
          where
            differ : ((same_place place y ≡ true) ⊎ (same_place place y ≡ false)) → same_place place y ≡ false
            differ (inl same) = absurd (apart.0 (subst (Contains pool) (sym (one_place place y same) ∙ here) there))
            differ (inr e) = e
    by rest (inr e) = omega (arith, rest, ap length (filter_keep test x pool (ap not e)))

-- no place is lost
pub none_lost : (second : Place) (wants : Bool) (pool first rest : List Place) → AreDistinct pool → TakesFirst second wants pool first rest → length pool ≤ length first + length rest
none_lost second false pool first rest apart takes = omega (arith, ap length takes.0, ap length takes.1)
none_lost second true pool first rest apart (inl takes) = omega (arith, ap length takes.1, ap length takes.2, one_fewer second pool apart)
none_lost second true pool first rest apart (inr takes) = omega (arith, ap length takes.1.1, ap length takes.1.2)

some_wanted : (held : Held) (wanted : Wanted) → wants_first held wanted ≡ true → 1 ≤ new_fives held wanted
some_wanted held wanted e =
    let parts = and_parts (length held.fives == 0) (not (wanted.fives == 0)) e in
    omega (arith, nothing (length held.fives) parts.0, something wanted.fives parts.1)
  where
    nothing : (n : ℕ) → (n == 0) ≡ true → n ≡ 0
    nothing n e = eqb-true n 0 e

    something : (n : ℕ) → not (n == 0) ≡ true → 1 ≤ n
    something zero e = absurd (both_ways false refl e)
    something (suc n) e = omega arith

-- at most the one that is wanted is taken
pub first_few : (second : Place) (held : Held) (wanted : Wanted) (pool first rest : List Place) → TakesFirst second (wants_first held wanted) pool first rest → length first ≤ new_fives held wanted
first_few second held wanted pool first rest takes = by (wants_first held wanted) refl takes
  where
    by : (wants : Bool) → wants_first held wanted ≡ wants → TakesFirst second wants pool first rest → length first ≤ new_fives held wanted
    by false e takes = omega (arith, ap length takes.0)
    by true e (inl takes) = omega (arith, ap length takes.1, some_wanted held wanted e)
    by true e (inr takes) = omega (arith, ap length takes.1.1, some_wanted held wanted e)

module _ (records : List Placed) (held : Held) (wanted : Wanted) (is : IsHeld records held) (apart : AreDistinct (map place_of records)) (room : wanted_count wanted ≤ held_count held + free_count records) where
  pub pool_some : wants_first held wanted ≡ true → 1 ≤ length (pool_of records (given_back held wanted))
  pool_some wants = omega (arith, some_wanted held wanted wants, enough records held wanted is apart room)

  pub parts_fit : (second : Place) (first rest : List Place) → TakesFirst second (wants_first held wanted) (pool_of records (given_back held wanted)) first rest
      → new_ones held wanted + new_threes held wanted + new_fives held wanted ≤ length first + length rest
  parts_fit second first rest takes =
      omega (
        arith,
        enough records held wanted is apart room,
        none_lost second (wants_first held wanted) (pool_of records (given_back held wanted)) first rest (pool_distinct records (given_back held wanted) apart) takes,
      )
