-- What is written where it was allotted is a change of the layout.
use Rattle.std.proofs.Common.{◌≡◌, ◌≢◌, ◌⊎◌, ℕ, ◌≤◌, List, ◌∷◌, ◌++◌, length, map, false, All, Contains, Option, sym, ap, subst, ◌∙◌, inl, inr}
use Rattle.std.specs.List.{flat_map}
use Rattle.std.proofs.lemmas.List.{map-append}
use Rattle.std.proofs.lemmas.List.Elements.{Contains-append_cases}
use Rattle.ckd_image.specs.declared.track.Cchhr.{Cchhr}
use Rattle.dscb_rec.specs.declared.field.Entry5.{Entry5}
use Rattle.volume_model.specs.declared.place.Place.{Place}
use Rattle.volume_model.specs.declared.place.Placed.{Placed}
use Rattle.volume_model.specs.declared.place.Vtoc.{Vtoc}
use Rattle.volume_model.specs.Check.{records_of}
use Rattle.vtoc_check.specs.Sized.{IsSized}
use Rattle.vtoc_layout.specs.Layout.{AreDistinct, SetRecords, Layout, IsLayoutOf, records_in_set, name_of}
use Rattle.vtoc_layout.proofs.Apart.{all_from}
use Rattle.vtoc_layout.proofs.Distinct.{first_or_later, at_first, in_later, in_front, in_back, distinct_back, not_both, from_map, one_of_map}
use Rattle.vtoc_layout.proofs.Uses.{four_there, set_there}
use Rattle.layout_edit.specs.Change.{place_of, zeroed, LayoutChange, edits_of, kept_records, IsChangeOf}
use Rattle.vtoc_allot.specs.declared.held.Held.{Held}
use Rattle.vtoc_allot.specs.declared.held.Wanted.{Wanted}
use Rattle.vtoc_allot.specs.declared.places.Allotment.{Allotment}
use Rattle.vtoc_allot.specs.Allotted.{held_places, IsHeld, IsAllotted}
use Rattle.vtoc_plan.specs.Plan.{HoldsLayout, Putting, Wants, MayBePut, IsPlanned}
use Rattle.vtoc_plan.proofs.Holding.{places_apart, records_held, held_are, is_held, held_there, in_gone, in_kept, distinct_sets, set_used}
use Rattle.vtoc_plan.proofs.Places.{places, places_distinct, held_place, not_placed, places_there, allotted_are}
use Rattle.vtoc_plan.proofs.Written.{zeroed_places, put_places, are_fives, fives_linked, put_records, names_apart}
use Rattle.volume_model.specs.Dscbs.{is_free_record, is_free_dscb}
use Rattle.ckd_image.proofs.Lists.{contains_map}

module _ (vtoc : Vtoc) (layout : Layout) (front gone back : List SetRecords) (held : Held) (wanted : Wanted) (second : Place) (allotment : Allotment) (putting : List Putting)
    (parts : List (List Entry5)) (highest : Option Cchhr) (free : ℕ) (change : LayoutChange) (sized : IsSized vtoc) (is : IsLayoutOf vtoc layout) (sets_are : layout.sets ≡ front ++ (gone ++ back))
    (few : length gone ≤ 1) (holds : HoldsLayout layout gone held) (may : MayBePut (front ++ back) putting)
    (made : IsAllotted (records_of vtoc) second held wanted allotment) (planned : IsPlanned vtoc putting parts highest free layout.four allotment change) where
  abbrev records : List Placed
  records = records_of vtoc

  abbrev edits : List Placed
  edits = edits_of change

  abbrev of_sets : List Placed
  of_sets = flat_map records_in_set layout.sets

  abbrev of_put : List Placed
  of_put = flat_map records_in_set change.put

  abbrev zeros : List Placed
  zeros = map zeroed change.freed

  abbrev of_front : List Placed
  of_front = flat_map records_in_set front

  abbrev of_gone : List Placed
  of_gone = flat_map records_in_set gone

  abbrev of_back : List Placed
  of_back = flat_map records_in_set back

  apart : AreDistinct (map place_of records)
  apart = places_apart vtoc sized

  has : IsHeld records held
  has = is_held vtoc layout front gone back sized is sets_are held few holds

  abbrev all : List Place
  all = places records second held wanted allotment has apart made

  -- ---- the places of the edits

  behind_four : map place_of (change.fives ++ (of_put ++ zeros)) ≡ all
  behind_four =
      map-append place_of change.fives (of_put ++ zeros) ∙ ap (λ (xs : List Place). map place_of change.fives ++ xs) (map-append place_of of_put zeros)
      ∙ (λ i. sym planned.fives_at i ++ (put_places vtoc.heads putting allotment change.put planned.put_are i ++ (zeroed_places change.freed ∙ planned.freed_are) i))
      ∙ allotted_are records second held wanted allotment has apart made

  edits_places : map place_of edits ≡ layout.four.place ∷ all
  edits_places = (λ i. planned.four_at i ∷ behind_four i)

  edit_place : (edit : Placed) → Contains edits edit → Contains (layout.four.place ∷ all) edit.place
  edit_place edit c = let P : List Place → Type 0 = λ xs. Contains xs edit.place in subst P edits_places (contains_map place_of edits edit c)

  -- ---- records that are not written

  not_held : (placed : Placed) → Contains records placed → ¬ Contains (records_held layout gone) placed → ¬ Contains (held_places held) placed.place
  not_held placed c other h =
      let P : List Place → Type 0 = λ xs. Contains xs placed.place in
      let at = from_map place_of (records_held layout gone) placed.place (subst P (held_are layout gone held few holds) h) in
      let same : at.0 ≡ placed = one_of_map place_of records at.0 placed apart (held_there vtoc layout front gone back sized is sets_are at.0 at.1) c at.2 in
      other (subst (Contains (records_held layout gone)) same at.1)

  stays : (placed : Placed) → Contains records placed → is_free_record placed ≡ false → ¬ Contains (records_held layout gone) placed → ¬ Contains all placed.place
  stays placed c used other = not_placed records second held wanted allotment has apart made placed c used (not_held placed c other)

  four_other : ¬ Contains (records_held layout gone) layout.four
  four_other c = by (Contains-append_cases of_gone layout.fives layout.four c)
    where
      by : (Contains of_gone layout.four ⊎ Contains layout.fives layout.four) → ⊥
      by (inl p) = is.once.0 (in_back layout.fives of_sets layout.four (in_gone vtoc layout front gone back sized is sets_are layout.four p))
      by (inr q) = is.once.0 (in_front layout.fives of_sets layout.four q)

  four_stays : ¬ Contains all layout.four.place
  four_stays = stays layout.four (four_there vtoc layout sized is) (ap is_free_dscb is.four_is) four_other

  kept_set : (placed : Placed) → Contains (kept_records front back) placed → Contains of_sets placed
  kept_set placed c = in_kept vtoc layout front gone back sized is sets_are placed c

  kept_other : (placed : Placed) → Contains (kept_records front back) placed → ¬ Contains (records_held layout gone) placed
  kept_other placed k c = by (Contains-append_cases of_gone layout.fives placed c)
    where
      distinct : AreDistinct (of_front ++ (of_gone ++ of_back))
      distinct = distinct_sets vtoc layout front gone back sized is sets_are

      of_kept : Contains of_gone placed → (Contains of_front placed ⊎ Contains of_back placed) → ⊥
      of_kept p (inl q) = not_both of_front (of_gone ++ of_back) placed distinct q (in_front of_gone of_back placed p)
      of_kept p (inr q) = not_both of_gone of_back placed (distinct_back of_front (of_gone ++ of_back) distinct) p q

      by : (Contains of_gone placed ⊎ Contains layout.fives placed) → ⊥
      by (inl p) = of_kept p (Contains-append_cases of_front of_back placed k)
      by (inr q) = not_both layout.fives of_sets placed is.once.1 q (kept_set placed k)

  kept_stays : (placed : Placed) → Contains (kept_records front back) placed → ¬ Contains (layout.four.place ∷ all) placed.place
  kept_stays placed k c = by (first_or_later layout.four.place placed.place all c)
    where
      there : Contains records placed
      there = set_there vtoc layout sized is placed (kept_set placed k)

      by : ((layout.four.place ≡ placed.place) ⊎ Contains all placed.place) → ⊥
      by (inl at) =
          let same : layout.four ≡ placed = one_of_map place_of records layout.four placed apart (four_there vtoc layout sized is) there at in
          is.once.0 (in_back layout.fives of_sets layout.four (subst (Contains of_sets) (sym same) (kept_set placed k)))
      by (inr later) = stays placed there (set_used vtoc layout front gone back sized is sets_are placed (kept_set placed k)) (kept_other placed k) later

  -- ---- each place is a record's and stands once, and all that was held is written

  once : AreDistinct (map place_of edits)
  once = let D : List Place → Type 0 = λ xs. AreDistinct xs in subst D (sym edits_places) (four_stays, places_distinct records second held wanted allotment has apart made)

  edit_there : (edit : Placed) → Contains edits edit → Contains (map place_of records) edit.place
  edit_there edit c = by (first_or_later layout.four.place edit.place all (edit_place edit c))
    where
      by : ((layout.four.place ≡ edit.place) ⊎ Contains all edit.place) → Contains (map place_of records) edit.place
      by (inl at) = subst (Contains (map place_of records)) at (contains_map place_of records layout.four (four_there vtoc layout sized is))
      by (inr later) = places_there records second held wanted allotment has apart made edit.place later

  there : All (λ (edit : Placed). Contains (map place_of records) edit.place) edits
  there = all_from (λ (edit : Placed). Contains (map place_of records) edit.place) edits edit_there

  held_written : (old : Placed) → Contains (records_held layout gone) old → Contains all old.place
  held_written old c =
      let P : List Place → Type 0 = λ xs. Contains xs old.place in
      held_place records second held wanted allotment has apart made old.place (subst P (sym (held_are layout gone held few holds)) (contains_map place_of (records_held layout gone) old c))

  covered : (old : Placed) → Contains (layout.four ∷ (layout.fives ++ of_gone)) old → Contains (map place_of edits) old.place
  covered old c = let P : List Place → Type 0 = λ xs. Contains xs old.place in subst P (sym edits_places) (by (first_or_later layout.four old (layout.fives ++ of_gone) c))
    where
      behind : (Contains layout.fives old ⊎ Contains of_gone old) → Contains (records_held layout gone) old
      behind (inl p) = in_back of_gone layout.fives old p
      behind (inr q) = in_front of_gone layout.fives old q

      by : ((layout.four ≡ old) ⊎ Contains (layout.fives ++ of_gone) old) → Contains (layout.four.place ∷ all) old.place
      by (inl same) = subst (Contains (layout.four.place ∷ all)) (ap place_of same) (at_first layout.four.place all)
      by (inr later) = in_later layout.four.place old.place all (held_written old (behind (Contains-append_cases layout.fives of_gone old later)))

  -- ---- what is written

  five_edit : (five : Placed) → Contains change.fives five → Contains edits five
  five_edit five c = in_later change.four five (change.fives ++ (of_put ++ zeros)) (in_front change.fives (of_put ++ zeros) five c)

  put_edit : (placed : Placed) → Contains of_put placed → Contains edits placed
  put_edit placed c = in_later change.four placed (change.fives ++ (of_put ++ zeros)) (in_back change.fives (of_put ++ zeros) placed (in_front of_put zeros placed c))

  names_before : AreDistinct (map name_of (front ++ (gone ++ back)))
  names_before = let N : List SetRecords → Type 0 = λ sets. AreDistinct (map name_of sets) in subst N sets_are is.names

  is_change : IsChangeOf vtoc layout front gone back change
  is_change = record {
    sets_are = sets_are;
    once = once;
    there = there;
    apart =
        all_from (λ (kept : Placed). All (λ (edit : Placed). edit.place ≢ kept.place) edits) (kept_records front back)
        (λ kept k. all_from (λ (edit : Placed). edit.place ≢ kept.place) edits (λ edit c same. kept_stays kept k (subst (Contains (layout.four.place ∷ all)) same (edit_place edit c))));
    covers = all_from (λ (old : Placed). Contains (map place_of edits) old.place) (layout.four ∷ (layout.fives ++ of_gone)) covered;
    four_is = planned.four_is.format;
    four_at = planned.four_at ∙ is.four_at;
    fives_are = are_fives vtoc.heads parts change.fives planned.fives_are;
    fives_linked = fives_linked vtoc.heads sized.some_heads edits records apart once there parts change.fives planned.fives_are five_edit;
    put_are = put_records vtoc.heads sized.some_heads edits records apart once there putting allotment change.put planned.put_are put_edit;
    names = names_apart vtoc.heads putting allotment front gone back change.put names_before may planned.put_are;
  }

pub change_is : (vtoc : Vtoc) (layout : Layout) (front gone back : List SetRecords) (held : Held) (wanted : Wanted) (second : Place) (allotment : Allotment) (putting : List Putting)
    (parts : List (List Entry5)) (highest : Option Cchhr) (free : ℕ) (change : LayoutChange)
    → IsSized vtoc → IsLayoutOf vtoc layout → layout.sets ≡ front ++ (gone ++ back) → length gone ≤ 1 → HoldsLayout layout gone held → Wants putting parts wanted → MayBePut (front ++ back) putting
    → IsAllotted (records_of vtoc) second held wanted allotment → IsPlanned vtoc putting parts highest free layout.four allotment change → IsChangeOf vtoc layout front gone back change
change_is vtoc layout front gone back held wanted second allotment putting parts highest free change sized is sets_are few holds wants may made planned =
    is_change vtoc layout front gone back held wanted second allotment putting parts highest free change sized is sets_are few holds may made planned
