-- What is held of a layout has places of its own.
use Rattle.std.proofs.Common.{◌≡◌, ◌⊎◌, ℕ, ◌+◌, ◌*◌, ◌≤◌, List, [], ◌∷◌, ◌++◌, length, map, false, Contains, refl, sym, ap, subst, ◌∙◌, arith, inl, inr}
use Rattle.std.specs.List.{flat_map}
use Rattle.std.proofs.lemmas.List.{map-append}
use Rattle.std.proofs.lemmas.List.Elements.{Contains-append_cases}
use Rattle.volume_model.specs.declared.place.Place.{Place}
use Rattle.volume_model.specs.declared.place.Placed.{Placed}
use Rattle.volume_model.specs.declared.place.Vtoc.{Vtoc}
use Rattle.volume_model.specs.Check.{records_of}
use Rattle.vtoc_check.specs.Places.{rank_of}
use Rattle.vtoc_check.proofs.Ascending.{IsAscending}
use Rattle.vtoc_check.specs.Sized.{IsSized}
use Rattle.vtoc_check.proofs.Order.{ascending, above}
use Rattle.vtoc_layout.specs.Layout.{AreDistinct, SetRecords, Layout, IsLayoutOf, records_in_set}
use Rattle.vtoc_layout.proofs.Apart.{all_from}
use Rattle.vtoc_layout.proofs.Distinct.{first_or_later, in_front, in_back, distinct_front, distinct_back, not_both, distinct_append, from_flat, from_map}
use Rattle.vtoc_layout.proofs.Uses.{five_there, set_there, five_format, three_format, set_is, distinct_fives, distinct_of_sets}
use Rattle.layout_edit.specs.Change.{place_of}
use Rattle.layout_edit.proofs.Changes.{flat_three}
use Rattle.vtoc_allot.specs.declared.held.Held.{Held}
use Rattle.vtoc_allot.specs.Allotted.{held_places, IsHeld}
use Rattle.vtoc_plan.specs.Plan.{HoldsLayout}
use Rattle.vtoc_plan.proofs.Lists.{distinct_images}
use Rattle.volume_model.specs.Dscbs.{is_free_record, is_free_dscb}

-- ---- places of records

distinct_ascending : (from : ℕ) (records : List Placed) → IsAscending from records → AreDistinct (map place_of records)
distinct_ascending from [] h = tt
distinct_ascending from (placed ∷ more) h = (
  (λ c. let at = from_map place_of more placed.place c in
      omega (arith, above (rank_of placed.place + 1) more at.1.0 at.0 h.2 at.1.1, ap (λ (p : Placed). rank_of p.place) at.1.2, ap rank_of at.2)),
  distinct_ascending (rank_of placed.place + 1) more h.2,
)

-- each record has a place of its own
pub places_apart : (vtoc : Vtoc) → IsSized vtoc → AreDistinct (map place_of (records_of vtoc))
places_apart vtoc sized = distinct_ascending (256 * vtoc.run.first) (records_of vtoc) (ascending vtoc.run.first vtoc.tracks sized.short)

-- ---- the records that are held

-- those of the data set that goes, and the format 5s
abbrev pub records_held : Layout → List SetRecords → List Placed
records_held layout gone = flat_map records_in_set gone ++ layout.fives

pub held_are : (layout : Layout) (gone : List SetRecords) (held : Held) → length gone ≤ 1 → HoldsLayout layout gone held → held_places held ≡ map place_of (records_held layout gone)
held_are layout gone held few holds =
    (λ i. holds.one_is i ++ (holds.threes_are i ++ holds.fives_are i)) ∙ by gone few
  where
    by : (sets : List SetRecords) → length sets ≤ 1
        → map (λ (set : SetRecords). place_of set.one) sets ++ (flat_map (λ (set : SetRecords). map place_of set.threes) sets ++ map place_of layout.fives) ≡ map place_of (flat_map records_in_set sets ++ layout.fives)
    by [] le = refl
    by (set ∷ []) le =
        ap (λ (places : List Place). set.one.place ∷ places)
        (ap (λ (places : List Place). places ++ map place_of layout.fives) (sym (map-append place_of set.threes [])) ∙ sym (map-append place_of (set.threes ++ []) layout.fives))
    by (set ∷ other ∷ more) le = absurd (omega (arith, le))

module _ (vtoc : Vtoc) (layout : Layout) (front gone back : List SetRecords) (sized : IsSized vtoc) (is : IsLayoutOf vtoc layout) (sets_are : layout.sets ≡ front ++ (gone ++ back)) where
  abbrev of_front : List Placed
  of_front = flat_map records_in_set front

  abbrev of_gone : List Placed
  of_gone = flat_map records_in_set gone

  abbrev of_back : List Placed
  of_back = flat_map records_in_set back

  sets_before : flat_map records_in_set layout.sets ≡ of_front ++ (of_gone ++ of_back)
  sets_before = ap (flat_map records_in_set) sets_are ∙ flat_three records_in_set front gone back

  pub in_gone : (placed : Placed) → Contains of_gone placed → Contains (flat_map records_in_set layout.sets) placed
  in_gone placed c =
      let P : List Placed → Type 0 = λ xs. Contains xs placed in
      subst P (sym sets_before) (in_back of_front (of_gone ++ of_back) placed (in_front of_gone of_back placed c))

  pub in_kept : (placed : Placed) → Contains (of_front ++ of_back) placed → Contains (flat_map records_in_set layout.sets) placed
  in_kept placed c = let P : List Placed → Type 0 = λ xs. Contains xs placed in subst P (sym sets_before) (by (Contains-append_cases of_front of_back placed c))
    where
      by : (Contains of_front placed ⊎ Contains of_back placed) → Contains (of_front ++ (of_gone ++ of_back)) placed
      by (inl p) = in_front of_front (of_gone ++ of_back) placed p
      by (inr q) = in_back of_front (of_gone ++ of_back) placed (in_back of_gone of_back placed q)

  pub distinct_sets : AreDistinct (of_front ++ (of_gone ++ of_back))
  distinct_sets = let E : List Placed → Type 0 = λ xs. AreDistinct xs in subst E sets_before (distinct_of_sets vtoc layout sized is)

  held_distinct : AreDistinct (records_held layout gone)
  held_distinct =
      distinct_append of_gone layout.fives (distinct_front of_gone of_back (distinct_back of_front (of_gone ++ of_back) distinct_sets)) (distinct_fives vtoc layout sized is)
      (λ z p q. not_both layout.fives (flat_map records_in_set layout.sets) z is.once.1 q (in_gone z p))

  pub held_there : (placed : Placed) → Contains (records_held layout gone) placed → Contains (records_of vtoc) placed
  held_there placed c = by (Contains-append_cases of_gone layout.fives placed c)
    where
      by : (Contains of_gone placed ⊎ Contains layout.fives placed) → Contains (records_of vtoc) placed
      by (inl p) = set_there vtoc layout sized is placed (in_gone placed p)
      by (inr q) = five_there vtoc layout sized is placed q

  -- a record of a data set isn't free
  pub set_used : (placed : Placed) → Contains (flat_map records_in_set layout.sets) placed → is_free_record placed ≡ false
  set_used placed c =
      let at = from_flat records_in_set layout.sets placed c in
      by at.0 at.1 (first_or_later at.0.one placed at.0.threes at.2)
    where
      by : (set : SetRecords) → Contains layout.sets set → ((set.one ≡ placed) ⊎ Contains set.threes placed) → is_free_record placed ≡ false
      by set p (inl first) = ap is_free_record (sym first) ∙ ap is_free_dscb (set_is vtoc layout sized is set p).one_is
      by set p (inr later) = ap is_free_dscb (three_format vtoc layout sized is set placed p later)

  held_used : (placed : Placed) → Contains (records_held layout gone) placed → is_free_record placed ≡ false
  held_used placed c = by (Contains-append_cases of_gone layout.fives placed c)
    where
      by : (Contains of_gone placed ⊎ Contains layout.fives placed) → is_free_record placed ≡ false
      by (inl p) = set_used placed (in_gone placed p)
      by (inr q) = ap is_free_dscb (five_format vtoc layout sized is placed q)

  pub is_held : (held : Held) → length gone ≤ 1 → HoldsLayout layout gone held → IsHeld (records_of vtoc) held
  is_held held few holds =
      let D : List Place → Type 0 = λ xs. AreDistinct xs in
      record {
        apart = subst D (sym places_are) (distinct_images place_of (records_of vtoc) (records_held layout gone) (places_apart vtoc sized) held_there held_distinct);
        there = all_from (λ place. (placed : Placed) × Contains (records_of vtoc) placed × (placed.place ≡ place) × (is_free_record placed ≡ false)) (held_places held) there;
      }
    where
      places_are : held_places held ≡ map place_of (records_held layout gone)
      places_are = held_are layout gone held few holds

      there : (place : Place) → Contains (held_places held) place → (placed : Placed) × Contains (records_of vtoc) placed × (placed.place ≡ place) × (is_free_record placed ≡ false)
      there place c =
          let P : List Place → Type 0 = λ xs. Contains xs place in
          let at = from_map place_of (records_held layout gone) place (subst P places_are c) in
          (at.0, held_there at.0 at.1, at.2, held_used at.0 at.1)

pub layouts_held : (vtoc : Vtoc) (layout : Layout) (front gone back : List SetRecords) (held : Held) → IsSized vtoc → IsLayoutOf vtoc layout → layout.sets ≡ front ++ (gone ++ back) → length gone ≤ 1
    → HoldsLayout layout gone held → IsHeld (records_of vtoc) held × AreDistinct (map place_of (records_of vtoc))
layouts_held vtoc layout front gone back held sized is sets_are few holds = (is_held vtoc layout front gone back sized is sets_are held few holds, places_apart vtoc sized)
