-- The walk along the format 5s is the one chain that they have.
use Rattle.std.proofs.Common.{◌≡◌, ◌⊎◌, inl, inr, ℕ, zero, suc, ◌+◌, ◌≤◌, List, [], ◌∷◌, ◌++◌, length, filter, find, Bool, true, false, cond, not, Option, Some, None, refl, sym, ap, subst, ◌∙◌, arith, append_assoc}
use Rattle.std.specs.Prelude.{◌&&◌, ◌||◌, ◌==◌, nat_lt, if◌then◌else◌}
use Rattle.std.specs.List.{list_any}
use Rattle.std.proofs.lemmas.Bool.{and_parts, cases_Bool, eqb-true, both_ways, or_right, or_left}
use Rattle.std.proofs.lemmas.List.{append-nil}
use Rattle.std.proofs.lemmas.List.Folds.{list_any-append}
use Rattle.ckd_image.specs.declared.track.Cchhr.{Cchhr}
use Rattle.volume_model.specs.declared.place.Place.{Place}
use Rattle.volume_model.specs.declared.place.Placed.{Placed}
use Rattle.volume_model.specs.declared.place.Vtoc.{Vtoc}
use Rattle.volume_model.specs.Dscbs.{format_of, is_f5, pointer_in}
use Rattle.volume_model.specs.Directory.{named_place, named_record, record_at, same_place}
use Rattle.volume_model.specs.Check.{FiveChain, five_chain, chain_from, goes_on, linked, points as points_in, named_by, records_of, fives_of, is_among, first_of, or_else, first_five, same_target}
use Rattle.volume_model.specs.FiveChain.{Names, EndsAt, IsFiveChain, walk_of}
use Rattle.volume_model.proofs.Numbers.{place_itself}
use Rattle.volume_model.proofs.Filters.{filter_skip, filter_keep}

-- ---- places

pub one_place : (a b : Place) → same_place a b ≡ true → a ≡ b
one_place a b same =
    let parts = and_parts (a.track == b.track) (a.record_number == b.record_number) same in
    let track : a.track ≡ b.track = eqb-true a.track b.track parts.0 in
    let number : a.record_number ≡ b.record_number = eqb-true a.record_number b.record_number parts.1 in
    (λ i. record { track = track i; record_number = number i })

or_neither : (a b : Bool) → a ≡ false → b ≡ false → (a || b) ≡ false
or_neither a b p q = (λ i. p i || q i)

-- of two records at one place both are among others, or neither is
among_at : (found : List Placed) (a b : Placed) → a.place ≡ b.place → is_among found a ≡ is_among found b
among_at found a b same = ap (λ (place : Place). list_any (λ (other : Placed). same_place other.place place) found) same

among_last : (found : List Placed) (five other : Placed) → is_among (found ++ five ∷ []) other ≡ (is_among found other || (same_place five.place other.place || false))
among_last found five other = list_any-append (λ (one : Placed). same_place one.place other.place) found (five ∷ [])

-- ---- how many are left

abbrev is_left : List Placed → Placed → Bool
is_left earlier five = not (is_among earlier five)

abbrev left : List Placed → List Placed → List Placed
left earlier fives = filter (is_left earlier) fives

left_more : (earlier : List Placed) (five : Placed) (fives : List Placed) → length (left (earlier ++ five ∷ []) fives) ≤ length (left earlier fives)
left_more earlier five [] = omega arith
left_more earlier five (one ∷ fives) = by (left_more earlier five fives) (cases_Bool (is_among earlier one)) (cases_Bool (is_among (earlier ++ five ∷ []) one))
  where
    by : length (left (earlier ++ five ∷ []) fives) ≤ length (left earlier fives) → ((is_among earlier one ≡ true) ⊎ (is_among earlier one ≡ false)) → ((is_among (earlier ++ five ∷ []) one ≡ true) ⊎ (is_among (earlier ++ five ∷ []) one ≡ false))
        → length (left (earlier ++ five ∷ []) (one ∷ fives)) ≤ length (left earlier (one ∷ fives))
    by rest (inl seen) (inr new) = absurd (both_ways (is_among (earlier ++ five ∷ []) one) new (among_last earlier five one ∙ or_left (is_among earlier one) (same_place five.place one.place || false) seen))
    by rest (inl seen) (inl still) = omega (arith, rest, ap length (filter_skip (is_left (earlier ++ five ∷ [])) one fives (ap not still)), ap length (filter_skip (is_left earlier) one fives (ap not seen)))
    by rest (inr new) (inl still) = omega (arith, rest, ap length (filter_skip (is_left (earlier ++ five ∷ [])) one fives (ap not still)), ap length (filter_keep (is_left earlier) one fives (ap not new)))
    by rest (inr new) (inr other) = omega (arith, rest, ap length (filter_keep (is_left (earlier ++ five ∷ [])) one fives (ap not other)), ap length (filter_keep (is_left earlier) one fives (ap not new)))

-- one that was among them isn't any more
left_fewer : (earlier : List Placed) (five : Placed) (fives : List Placed) → is_among fives five ≡ true → is_among earlier five ≡ false
    → length (left (earlier ++ five ∷ []) fives) + 1 ≤ length (left earlier fives)
left_fewer earlier five [] inside new = absurd (both_ways false refl inside)
left_fewer earlier five (one ∷ fives) inside new = by (left_fewer earlier five fives) (cases_Bool (same_place one.place five.place))
  where
    by : (is_among fives five ≡ true → is_among earlier five ≡ false → length (left (earlier ++ five ∷ []) fives) + 1 ≤ length (left earlier fives))
        → ((same_place one.place five.place ≡ true) ⊎ (same_place one.place five.place ≡ false)) → length (left (earlier ++ five ∷ []) (one ∷ fives)) + 1 ≤ length (left earlier (one ∷ fives))
    by next (inl here) =
        let same : one.place ≡ five.place = one_place one.place five.place here in
        let fresh : is_among earlier one ≡ false = among_at earlier one five same ∙ new in
        let again : same_place five.place one.place ≡ true = ap (λ (place : Place). same_place five.place place) same ∙ place_itself five.place in
        let now : is_among (earlier ++ five ∷ []) one ≡ true =
        among_last earlier five one ∙ or_right (is_among earlier one) (same_place five.place one.place || false) (or_left (same_place five.place one.place) false again) in
        omega (arith, left_more earlier five fives, ap length (filter_skip (is_left (earlier ++ five ∷ [])) one fives (ap not now)), ap length (filter_keep (is_left earlier) one fives (ap not fresh)))
    by next (inr other) = later (cases_Bool (is_among earlier one)) (cases_Bool (is_among (earlier ++ five ∷ []) one))
      where
        rest : length (left (earlier ++ five ∷ []) fives) + 1 ≤ length (left earlier fives)
        rest = next (sym (ap (λ (b : Bool). b || is_among fives five) other) ∙ inside) new

        later : ((is_among earlier one ≡ true) ⊎ (is_among earlier one ≡ false)) → ((is_among (earlier ++ five ∷ []) one ≡ true) ⊎ (is_among (earlier ++ five ∷ []) one ≡ false))
            → length (left (earlier ++ five ∷ []) (one ∷ fives)) + 1 ≤ length (left earlier (one ∷ fives))
        later (inl seen) (inr gone) = absurd (both_ways (is_among (earlier ++ five ∷ []) one) gone (among_last earlier five one ∙ or_left (is_among earlier one) (same_place five.place one.place || false) seen))
        later (inl seen) (inl still) = omega (arith, rest, ap length (filter_skip (is_left (earlier ++ five ∷ [])) one fives (ap not still)), ap length (filter_skip (is_left earlier) one fives (ap not seen)))
        later (inr fresh) (inl still) = omega (arith, rest, ap length (filter_skip (is_left (earlier ++ five ∷ [])) one fives (ap not still)), ap length (filter_keep (is_left earlier) one fives (ap not fresh)))
        later (inr fresh) (inr none) = omega (arith, rest, ap length (filter_keep (is_left (earlier ++ five ∷ [])) one fives (ap not none)), ap length (filter_keep (is_left earlier) one fives (ap not fresh)))

left_all : (fives : List Placed) → length (left [] fives) ≡ length fives
left_all [] = refl
left_all (one ∷ fives) = ap length (filter_keep (is_left []) one fives refl) ∙ ap suc (left_all fives)

-- ---- the walk from a format 5 on, where it has come past earlier ones

module _ (points : Placed → Bool) (named : Placed → Option Placed) (fives : List Placed) (inside : (five next : Placed) → Names named five next → is_among fives next ≡ true) where
  abbrev Walks : List Placed → Placed → List Placed → List Placed → Type 0
  Walks earlier five [] wrong = EndsAt points named (earlier ++ five ∷ []) five wrong
  Walks earlier five (next ∷ more) wrong = Names named five next × (is_among (earlier ++ five ∷ []) next ≡ false) × Walks (earlier ++ five ∷ []) next more wrong

  abbrev from : ℕ → List Placed → Placed → FiveChain
  from most earlier five = five_chain points named most earlier five

  -- a step of it, by what its pointer names
  step : (most : ℕ) (earlier : List Placed) (five : Placed) (found : Option Placed) → named five ≡ found
      → from (suc most) earlier five ≡ linked five (goes_on points (earlier ++ five ∷ []) five found (λ next. from most (earlier ++ five ∷ []) next))
  step most earlier five found is = ap (λ (o : Option Placed). linked five (goes_on points (earlier ++ five ∷ []) five o (λ next. from most (earlier ++ five ∷ []) next))) is

  abbrev chain_with : List Placed → List Placed → FiveChain
  chain_with chain wrong = (chain, wrong)

  no_record : (most : ℕ) (earlier : List Placed) (five : Placed) (b : Bool) → named five ≡ None → points five ≡ b → from (suc most) earlier five ≡ chain_with (five ∷ []) (if b then five ∷ [] else [])
  no_record most earlier five b none is = step most earlier five None none ∙ ap (λ (b : Bool). chain_with (five ∷ []) (if b then five ∷ [] else [])) is

  abbrev passes : List Placed → Placed → Placed → Bool
  passes earlier five next = is_f5 (format_of next.bytes) && not (is_among (earlier ++ five ∷ []) next)

  no_next : (most : ℕ) (earlier : List Placed) (five next : Placed) → named five ≡ Some next → passes earlier five next ≡ false → from (suc most) earlier five ≡ chain_with (five ∷ []) (five ∷ [])
  no_next most earlier five next some other =
      step most earlier five (Some next) some
      ∙ ap (λ (b : Bool). linked five (if b then from most (earlier ++ five ∷ []) next else chain_with [] (five ∷ []))) other

  a_next : (most : ℕ) (earlier : List Placed) (five next : Placed) → named five ≡ Some next → passes earlier five next ≡ true → from (suc most) earlier five ≡ linked five (from most (earlier ++ five ∷ []) next)
  a_next most earlier five next some passed =
      step most earlier five (Some next) some
      ∙ ap (λ (b : Bool). linked five (if b then from most (earlier ++ five ∷ []) next else chain_with [] (five ∷ []))) passed

  not_both : (a b : Bool) → (a && not b) ≡ false → (a ≡ false) ⊎ (b ≡ true)
  not_both false b other = inl refl
  not_both true true other = inr refl
  not_both true false other = absurd (both_ways true other refl)

  both_fail : (a b : Bool) → (a ≡ false) ⊎ (b ≡ true) → (a && not b) ≡ false
  both_fail a b (inl other) = ap (λ (x : Bool). x && not b) other
  both_fail false b (inr passed) = refl
  both_fail true b (inr passed) = ap not passed

  pass : (earlier : List Placed) (five next : Placed) → is_f5 (format_of next.bytes) ≡ true → is_among (earlier ++ five ∷ []) next ≡ false → passes earlier five next ≡ true
  pass earlier five next is new = (λ i. is i && not (new i))

  record Way (most : ℕ) (earlier : List Placed) (five : Placed) : Type 0 where
    rest : List Placed
    wrong : List Placed
    is : from most earlier five ≡ chain_with (five ∷ rest) wrong
    walks : Walks earlier five rest wrong

  -- so many steps suffice, and the walk is a way
  way : (most : ℕ) (earlier : List Placed) (five : Placed) → is_among fives five ≡ true → is_among earlier five ≡ false → length (left earlier fives) ≤ most → Way most earlier five
  way zero earlier five there new few = absurd (omega (arith, few, left_fewer earlier five fives there new))
  way (suc most) earlier five there new few = by (λ next here fresh. way most (earlier ++ five ∷ []) next here fresh (omega (arith, few, left_fewer earlier five fives there new))) (named five) refl
    where
      ended : (wrong : List Placed) → from (suc most) earlier five ≡ chain_with (five ∷ []) wrong → EndsAt points named (earlier ++ five ∷ []) five wrong → Way (suc most) earlier five
      ended wrong is ends = record { rest = []; wrong = wrong; is = is; walks = ends }

      to : ((next : Placed) → is_among fives next ≡ true → is_among (earlier ++ five ∷ []) next ≡ false → Way most (earlier ++ five ∷ []) next)
          → (next : Placed) → named five ≡ Some next → ((passes earlier five next ≡ true) ⊎ (passes earlier five next ≡ false)) → Way (suc most) earlier five
      to on next some (inr other) =
          ended (five ∷ []) (no_next most earlier five next some other)
          (inr (inr (next, some, not_both (is_f5 (format_of next.bytes)) (is_among (earlier ++ five ∷ []) next) other), refl))
      to on next some (inl passed) =
          let parts = and_parts (is_f5 (format_of next.bytes)) (not (is_among (earlier ++ five ∷ []) next)) passed in
          let fresh : is_among (earlier ++ five ∷ []) next ≡ false = not_true (is_among (earlier ++ five ∷ []) next) parts.1 in
          let later = on next (inside five next (some, parts.0)) fresh in
          record {
            rest = next ∷ later.rest;
            wrong = later.wrong;
            is = a_next most earlier five next some passed ∙ ap (linked five) later.is;
            walks = ((some, parts.0), fresh, later.walks);
          }
        where
          not_true : (b : Bool) → not b ≡ true → b ≡ false
          not_true false e = refl
          not_true true e = absurd (both_ways false refl e)

      at_end : (b : Bool) → named five ≡ None → points five ≡ b → Way (suc most) earlier five
      at_end true none is = ended (five ∷ []) (no_record most earlier five true none is) (inr (inl (is, none), refl))
      at_end false none is = ended [] (no_record most earlier five false none is) (inl (is, none, refl))

      by : ((next : Placed) → is_among fives next ≡ true → is_among (earlier ++ five ∷ []) next ≡ false → Way most (earlier ++ five ∷ []) next)
          → (found : Option Placed) → named five ≡ found → Way (suc most) earlier five
      by on None none = at_end (points five) none refl
      by on (Some next) some = to on next some (cases_Bool (passes earlier five next))

  -- a way is the walk
  only : (most : ℕ) (earlier : List Placed) (five : Placed) (rest wrong : List Placed) → is_among fives five ≡ true → is_among earlier five ≡ false → length (left earlier fives) ≤ most
      → Walks earlier five rest wrong → from most earlier five ≡ chain_with (five ∷ rest) wrong
  only zero earlier five rest wrong there new few walks = absurd (omega (arith, few, left_fewer earlier five fives there new))
  only (suc most) earlier five [] wrong there new few (inl (is, none, nothing)) = no_record most earlier five false none is ∙ ap (chain_with (five ∷ [])) (sym nothing)
  only (suc most) earlier five [] wrong there new few (inr (inl (is, none), one)) = no_record most earlier five true none is ∙ ap (chain_with (five ∷ [])) (sym one)
  only (suc most) earlier five [] wrong there new few (inr (inr (next, some, why), one)) =
      no_next most earlier five next some (both_fail (is_f5 (format_of next.bytes)) (is_among (earlier ++ five ∷ []) next) why) ∙ ap (chain_with (five ∷ [])) (sym one)
  only (suc most) earlier five (next ∷ more) wrong there new few walks =
      a_next most earlier five next walks.0.0 (pass earlier five next walks.0.1 walks.1)
      ∙ ap (linked five)
      (only most (earlier ++ five ∷ []) next more wrong (inside five next walks.0) walks.1 (omega (arith, few, left_fewer earlier five fives there new)) walks.2)

  -- ---- a way, by the places of its records

  longer : (front : List Placed) (last : Placed) (back : List Placed) → 1 ≤ length (front ++ (last ∷ back))
  longer [] last back = omega arith
  longer (one ∷ front) last back = omega arith

  same_head : (a b : Placed) (xs ys : List Placed) → a ∷ xs ≡ b ∷ ys → a ≡ b
  same_head a b xs ys e = cc

  same_tail : (a b : Placed) (xs ys : List Placed) → a ∷ xs ≡ b ∷ ys → xs ≡ ys
  same_tail a b xs ys e = cc

  way_links : (earlier : List Placed) (five : Placed) (rest wrong : List Placed) → Walks earlier five rest wrong
      → (front back : List Placed) (one next : Placed) → five ∷ rest ≡ front ++ (one ∷ next ∷ back) → Names named one next
  way_links earlier five [] wrong walks [] back one next is = absurd (omega (arith, ap length is))
  way_links earlier five [] wrong walks (x ∷ front) back one next is = absurd (omega (arith, ap length is, longer front one (next ∷ back)))
  way_links earlier five (second ∷ more) wrong walks [] back one next is =
      let first : five ≡ one = same_head five one (second ∷ more) (next ∷ back) is in
      let after : second ≡ next = same_head second next more back (same_tail five one (second ∷ more) (next ∷ back) is) in
      subst (λ (a : Placed). Names named a next) first (subst (λ (b : Placed). Names named five b) after walks.0)
  way_links earlier five (second ∷ more) wrong walks (x ∷ front) back one next is =
      way_links (earlier ++ five ∷ []) second more wrong walks.2 front back one next (same_tail five x (second ∷ more) (front ++ (one ∷ next ∷ back)) is)

  way_apart : (earlier : List Placed) (five : Placed) (rest wrong : List Placed) → Walks earlier five rest wrong → is_among earlier five ≡ false
      → (front back : List Placed) (one : Placed) → five ∷ rest ≡ front ++ (one ∷ back) → is_among (earlier ++ front) one ≡ false
  way_apart earlier five rest wrong walks new [] back one is =
      let first : five ≡ one = same_head five one rest back is in
      ap (λ (list : List Placed). is_among list one) (append-nil earlier) ∙ ap (is_among earlier) (sym first) ∙ new
  way_apart earlier five [] wrong walks new (x ∷ front) back one is = absurd (omega (arith, ap length is, longer front one back))
  way_apart earlier five (second ∷ more) wrong walks new (x ∷ front) back one is =
      let first : five ≡ x = same_head five x (second ∷ more) (front ++ (one ∷ back)) is in
      let later = way_apart (earlier ++ five ∷ []) second more wrong walks.2 walks.1 front back one (same_tail five x (second ∷ more) (front ++ (one ∷ back)) is) in
      ap (λ (a : Placed). is_among (earlier ++ (a ∷ front)) one) (sym first) ∙ ap (λ (list : List Placed). is_among list one) (sym (append_assoc earlier (five ∷ []) front)) ∙ later

  way_ends : (earlier : List Placed) (five : Placed) (rest wrong : List Placed) → Walks earlier five rest wrong
      → (front : List Placed) (last : Placed) → five ∷ rest ≡ front ++ (last ∷ []) → EndsAt points named (earlier ++ (five ∷ rest)) last wrong
  way_ends earlier five [] wrong walks [] last is = subst (λ (a : Placed). EndsAt points named (earlier ++ five ∷ []) a wrong) (same_head five last [] [] is) walks
  way_ends earlier five [] wrong walks (x ∷ front) last is = absurd (omega (arith, ap length is, longer front last []))
  way_ends earlier five (second ∷ more) wrong walks [] last is = absurd (omega (arith, ap length is))
  way_ends earlier five (second ∷ more) wrong walks (x ∷ front) last is =
      subst (λ (list : List Placed). EndsAt points named list last wrong) (append_assoc earlier (five ∷ []) (second ∷ more))
      (way_ends (earlier ++ five ∷ []) second more wrong walks.2 front last (same_tail five x (second ∷ more) (front ++ (last ∷ [])) is))

  back_to_way : (chain wrong : List Placed) → IsFiveChain points named fives chain wrong → (rest earlier : List Placed) (five : Placed) → chain ≡ earlier ++ (five ∷ rest) → Walks earlier five rest wrong
  back_to_way chain wrong is [] earlier five whole = subst (λ (list : List Placed). EndsAt points named list five wrong) whole (is.ends earlier five whole)
  back_to_way chain wrong is (next ∷ more) earlier five whole =
      let on : chain ≡ (earlier ++ five ∷ []) ++ (next ∷ more) = whole ∙ sym (append_assoc earlier (five ∷ []) (next ∷ more)) in
      (is.links earlier more five next whole, is.apart (earlier ++ five ∷ []) more next on, back_to_way chain wrong is more (earlier ++ five ∷ []) next on)

  -- ---- the whole

  abbrev walk : Option Placed → FiveChain
  walk first = chain_from points named (length fives) first

  all_left : length (left [] fives) ≤ length fives
  all_left = omega (arith, left_all fives)

  walk_from : (first : Option Placed) → first ≡ first_five named fives → ((five : Placed) → first ≡ Some five → is_among fives five ≡ true) → IsFiveChain points named fives (walk first).0 (walk first).1
  walk_from None begins there = record {
    begins = begins;
    links = λ front back five next is. absurd (omega (arith, ap length is, longer front five (next ∷ back)));
    apart = λ front back five is. absurd (omega (arith, ap length is, longer front five back));
    ends = λ front last is. absurd (omega (arith, ap length is, longer front last []));
    none = λ is. refl;
  }
  walk_from (Some five) begins there =
      let w = way (length fives) [] five (there five refl) refl all_left in
      let P : FiveChain → Type 0 = λ chain. IsFiveChain points named fives chain.0 chain.1 in
      subst P (sym w.is) (record {
        begins = begins;
        links = way_links [] five w.rest w.wrong w.walks;
        apart = way_apart [] five w.rest w.wrong w.walks refl;
        ends = way_ends [] five w.rest w.wrong w.walks;
        none = λ is. absurd (omega (arith, ap length is));
      })

  walk_only : (first : Option Placed) → first ≡ first_five named fives → ((five : Placed) → first ≡ Some five → is_among fives five ≡ true)
      → (chain wrong : List Placed) → IsFiveChain points named fives chain wrong → (chain ≡ (walk first).0) × (wrong ≡ (walk first).1)
  walk_only None begins there [] wrong is = (refl, is.none refl)
  walk_only None begins there (five ∷ rest) wrong is = (let e : Some five ≡ None = is.begins ∙ sym begins in cc)
  walk_only (Some first) begins there [] wrong is = (let e : None ≡ Some first = is.begins ∙ sym begins in cc)
  walk_only (Some first) begins there (five ∷ rest) wrong is =
      let e : Some five ≡ Some first = is.begins ∙ sym begins in
      let same : five ≡ first = cc in
      let found = only (length fives) [] five rest wrong (ap (is_among fives) same ∙ there first refl) refl all_left (back_to_way (five ∷ rest) wrong is rest [] five refl) in
      let whole : walk (Some first) ≡ chain_with (five ∷ rest) wrong = ap (λ (a : Placed). from (length fives) [] a) (sym same) ∙ found in
      (sym (ap (λ (chain : FiveChain). chain.0) whole), sym (ap (λ (chain : FiveChain). chain.1) whole))

-- ---- a VTOC

abbrev is_five : Placed → Bool
is_five placed = is_f5 (format_of placed.bytes)

-- what a search finds that is a format 5 is among the format 5s
found_there : (test : Placed → Bool) (records : List Placed) (next : Placed) → find test records ≡ Some next → is_five next ≡ true → is_among (filter is_five records) next ≡ true
found_there test [] next is five = (let e : None ≡ Some next = is in cc)
found_there test (one ∷ records) next is five = by (λ on. found_there test records next on five) (cases_Bool (test one)) (cases_Bool (is_five one))
  where
    on : test one ≡ false → find test records ≡ Some next
    on other = sym (ap (λ (b : Bool). cond b (Some one) (find test records)) other) ∙ is

    here : test one ≡ true → one ≡ next
    here passed = (let e : Some one ≡ Some next = sym (ap (λ (b : Bool). cond b (Some one) (find test records)) passed) ∙ is in cc)

    by : (find test records ≡ Some next → is_among (filter is_five records) next ≡ true) → ((test one ≡ true) ⊎ (test one ≡ false)) → ((is_five one ≡ true) ⊎ (is_five one ≡ false)) → is_among (filter is_five (one ∷ records)) next ≡ true
    by rest (inl passed) (inl kept) =
        let same : one.place ≡ next.place = ap (λ (placed : Placed). placed.place) (here passed) in
        ap (λ (list : List Placed). is_among list next) (filter_keep is_five one records kept)
        ∙ or_left (same_place one.place next.place) (is_among (filter is_five records) next) (ap (λ (place : Place). same_place place next.place) same ∙ place_itself next.place)
    by rest (inl passed) (inr gone) = absurd (both_ways (is_five next) (sym (ap is_five (here passed)) ∙ gone) five)
    by rest (inr other) (inl kept) =
        ap (λ (list : List Placed). is_among list next) (filter_keep is_five one records kept) ∙ or_right (same_place one.place next.place) (is_among (filter is_five records) next) (rest (on other))
    by rest (inr other) (inr gone) = ap (λ (list : List Placed). is_among list next) (filter_skip is_five one records gone) ∙ rest (on other)

named_there : (heads : ℕ) (records : List Placed) (pointer : Option Cchhr) (next : Placed) → named_record heads records pointer ≡ Some next → is_five next ≡ true
    → is_among (filter is_five records) next ≡ true
named_there heads records None next is five = (let e : None ≡ Some next = is in cc)
named_there heads records (Some pointer) next is five = by (cases_Bool (nat_lt pointer.at.head heads))
  where
    found : Option Placed
    found = record_at records (named_place heads pointer)

    by : ((nat_lt pointer.at.head heads ≡ true) ⊎ (nat_lt pointer.at.head heads ≡ false)) → is_among (filter is_five records) next ≡ true
    by (inl passed) = found_there (λ placed. same_place placed.place (named_place heads pointer)) records next (sym (ap (λ (b : Bool). cond b found None) passed) ∙ is) five
    by (inr gone) = (let e : None ≡ Some next = sym (ap (λ (b : Bool). cond b found None) gone) ∙ is in cc)

first_there : (test : Placed → Bool) (fives : List Placed) (five : Placed) → first_of (filter test fives) ≡ Some five → is_among fives five ≡ true
first_there test [] five is = (let e : None ≡ Some five = is in cc)
first_there test (one ∷ fives) five is = by (first_there test fives five) (cases_Bool (test one))
  where
    by : (first_of (filter test fives) ≡ Some five → is_among fives five ≡ true) → ((test one ≡ true) ⊎ (test one ≡ false)) → is_among (one ∷ fives) five ≡ true
    by later (inl passed) =
        let e : Some one ≡ Some five = sym (ap first_of (filter_keep test one fives passed)) ∙ is in
        let same : one ≡ five = cc in
        or_left (same_place one.place five.place) (is_among fives five) (ap (λ (placed : Placed). same_place placed.place five.place) same ∙ place_itself five.place)
    by later (inr gone) = or_right (same_place one.place five.place) (is_among fives five) (later (sym (ap first_of (filter_skip test one fives gone)) ∙ is))

head_there : (fives : List Placed) (five : Placed) → first_of fives ≡ Some five → is_among fives five ≡ true
head_there [] five is = (let e : None ≡ Some five = is in cc)
head_there (one ∷ fives) five is =
    let e : Some one ≡ Some five = is in
    let same : one ≡ five = cc in
    or_left (same_place one.place five.place) (is_among fives five) (ap (λ (placed : Placed). same_place placed.place five.place) same ∙ place_itself five.place)

either_there : (first other : Option Placed) (fives : List Placed) (five : Placed) → (first ≡ Some five → is_among fives five ≡ true) → (other ≡ Some five → is_among fives five ≡ true)
    → or_else first other ≡ Some five → is_among fives five ≡ true
either_there None other fives five one two is = two is
either_there (Some placed) other fives five one two is = one is

begins_there : (named : Placed → Option Placed) (fives : List Placed) (five : Placed) → first_five named fives ≡ Some five → is_among fives five ≡ true
begins_there named fives five is =
    either_there (first_of (filter (λ one. not (list_any (λ other. same_target (named other) (Some one)) fives)) fives)) (first_of fives) fives five
    (first_there (λ one. not (list_any (λ other. same_target (named other) (Some one)) fives)) fives five) (head_there fives five) is

vtoc_inside : (vtoc : Vtoc) (five next : Placed) → Names (named_by vtoc) five next → is_among (fives_of vtoc) next ≡ true
vtoc_inside vtoc five next names = named_there vtoc.heads (records_of vtoc) (pointer_in five.bytes) next names.0 names.1

pub walk_is_chain : (vtoc : Vtoc) → IsFiveChain points_in (named_by vtoc) (fives_of vtoc) (walk_of vtoc).0 (walk_of vtoc).1
walk_is_chain vtoc =
    walk_from points_in (named_by vtoc) (fives_of vtoc) (vtoc_inside vtoc) (first_five (named_by vtoc) (fives_of vtoc)) refl (begins_there (named_by vtoc) (fives_of vtoc))

pub one_chain : (vtoc : Vtoc) (chain wrong : List Placed) → IsFiveChain points_in (named_by vtoc) (fives_of vtoc) chain wrong → (chain ≡ (walk_of vtoc).0) × (wrong ≡ (walk_of vtoc).1)
one_chain vtoc chain wrong is =
    walk_only points_in (named_by vtoc) (fives_of vtoc) (vtoc_inside vtoc) (first_five (named_by vtoc) (fives_of vtoc)) refl (begins_there (named_by vtoc) (fives_of vtoc)) chain wrong is
