-- The last format 1 among the records after a change.
use Rattle.std.proofs.Common.{◌≡◌, ◌≢◌, ◌⊎◌, List, [], ◌∷◌, ◌++◌, map, filter, All, Contains, Bool, true, false, cond, Option, Some, None, refl, sym, ap, subst, ◌∙◌, arith, inl, inr}
use Rattle.std.specs.Prelude.{◌&&◌, ◌||◌, not}
use Rattle.std.specs.List.{flat_map}
use Rattle.std.proofs.lemmas.Bool.{both_ways}
use Rattle.std.proofs.lemmas.List.Elements.{All-contains, Contains-append_cases}
use Rattle.volume_model.specs.declared.format.Format.TheVariants.{F3, F5}
use Rattle.volume_model.specs.declared.place.Place.{Place}
use Rattle.volume_model.specs.declared.place.Placed.{Placed}
use Rattle.volume_model.specs.declared.place.Vtoc.{Vtoc}
use Rattle.volume_model.specs.Check.{records_of}
use Rattle.volume_model.specs.Directory.{same_place}
use Rattle.volume_model.specs.Dscbs.{format_of, is_f1}
use Rattle.volume_model.proofs.Numbers.{place_itself}
use Rattle.vtoc_check.specs.Sized.{IsSized}
use Rattle.vtoc_layout.specs.Layout.{SetRecords, Layout, IsLayoutOf, AreSetRecords, records_in_set}
use Rattle.vtoc_layout.proofs.Distinct.{first_or_later, at_first, in_later, in_front, in_back, in_none, from_map, in_flat, from_flat}
use Rattle.vtoc_layout.proofs.FiveChains.{one_place}
use Rattle.vtoc_layout.proofs.Uses.{one_of, is_one}
use Rattle.vtoc_write.specs.Edited.{edit_of, placed_with, after_edits}
use Rattle.vtoc_allot.specs.Allotted.{listed}
use Rattle.layout_edit.specs.Change.{place_of, zeroed, LayoutChange, edits_of, kept_records, IsChangeOf}
use Rattle.layout_edit.proofs.Edits.{edit_named, edit_found, place_kept}
use Rattle.vtoc_making.specs.Places.{is_place, is_one_after, last_of}
use Rattle.ckd_image.proofs.Lists.{contains_map}

-- ---- the last of a list, by places

abbrev last_in : List Place → Option Place
last_in [] = None
last_in (place ∷ []) = Some place
last_in (place ∷ next ∷ more) = last_in (next ∷ more)

last_is : (records : List Placed) → last_of records ≡ last_in (map place_of records)
last_is [] = refl
last_is (placed ∷ []) = refl
last_is (placed ∷ next ∷ more) = last_is (next ∷ more)

places_same : (edit : Placed → Placed) (after before : Placed → Bool) (records : List Placed) → ((placed : Placed) → Contains records placed → after (edit placed) ≡ before placed)
    → ((placed : Placed) → (edit placed).place ≡ placed.place) → map place_of (filter after (map edit records)) ≡ map place_of (filter before records)
places_same edit after before [] each stays = refl
places_same edit after before (placed ∷ more) each stays =
    ap (λ (b : Bool). map place_of (cond b (edit placed ∷ filter after (map edit more)) (filter after (map edit more)))) (each placed (at_first placed more))
    ∙ by (before placed) (places_same edit after before more (λ p c. each p (in_later placed p more c)) stays)
  where
    by : (b : Bool) → map place_of (filter after (map edit more)) ≡ map place_of (filter before more)
        → map place_of (cond b (edit placed ∷ filter after (map edit more)) (filter after (map edit more))) ≡ map place_of (cond b (placed ∷ filter before more) (filter before more))
    by true rest = λ i. stays placed i ∷ rest i
    by false rest = rest

last_same : (edit : Placed → Placed) (after before : Placed → Bool) (records : List Placed) → ((placed : Placed) → Contains records placed → after (edit placed) ≡ before placed)
    → ((placed : Placed) → (edit placed).place ≡ placed.place) → last_of (filter after (map edit records)) ≡ last_of (filter before records)
last_same edit after before records each stays =
    last_is (filter after (map edit records)) ∙ ap last_in (places_same edit after before records each stays) ∙ sym (last_is (filter before records))

-- ---- a place that there may be

is_there : (one : Option Place) (place : Place) → is_place one place ≡ true → Contains (listed one) place
is_there None place e = absurd cc
is_there (Some one) place e = (0, omega arith, one_place one place e)

there_is : (one : Option Place) (place : Place) → Contains (listed one) place → is_place one place ≡ true
there_is None place c = absurd (in_none place c)
there_is (Some one) place c = by (first_or_later one place [] c)
  where
    by : ((one ≡ place) ⊎ Contains [] place) → same_place one place ≡ true
    by (inl same) = subst (λ (p : Place). same_place one p ≡ true) same (place_itself one)
    by (inr later) = absurd (in_none place later)

no_edit : (edit : Placed) (found : Option Placed) → found ≡ Some edit → found ≡ None → ⊥
no_edit edit found e none = cc

abbrev pub one_at : SetRecords → Place
one_at set = place_of set.one

module _ (vtoc : Vtoc) (layout : Layout) (front gone back : List SetRecords) (change : LayoutChange) (sized : IsSized vtoc) (is : IsLayoutOf vtoc layout)
    (made : IsChangeOf vtoc layout front gone back change) (from to : Option Place) (from_is : listed from ≡ map one_at gone) (to_is : listed to ≡ map one_at change.put) where
  abbrev records : List Placed
  records = records_of vtoc

  abbrev edits : List Placed
  edits = edits_of change

  abbrev of_put : List Placed
  of_put = flat_map records_in_set change.put

  abbrev zeros : List Placed
  zeros = map zeroed change.freed

  abbrev edited : Placed → Placed
  edited placed = placed_with placed (edit_of edits placed.place)

  abbrev is_one_record : Placed → Bool
  is_one_record placed = is_f1 (format_of placed.bytes)

  put_is : (set : SetRecords) → Contains change.put set → AreSetRecords vtoc.heads (after_edits edits records) set
  put_is set c = All-contains (AreSetRecords vtoc.heads (after_edits edits records)) change.put set made.put_are c

  put_edit : (set : SetRecords) (placed : Placed) → Contains change.put set → Contains (records_in_set set) placed → Contains edits placed
  put_edit set placed c d =
      in_later change.four placed (change.fives ++ (of_put ++ zeros))
      (in_back change.fives (of_put ++ zeros) placed (in_front of_put zeros placed (in_flat records_in_set change.put set placed c d)))

  -- the record of a format 1 that is put
  at_put : (place : Place) → is_place to place ≡ true → (set : SetRecords) × Contains change.put set × (edit_of edits place ≡ Some set.one)
  at_put place e =
      let at = from_map one_at change.put place (subst (λ (places : List Place). Contains places place) to_is (is_there to place e)) in
      (at.0, at.1, edit_named edits at.0.one place made.once (put_edit at.0 at.0.one at.1 (at_first at.0.one at.0.threes)) at.2)

  -- of what is written only the format 1 that is put is one
  only_put : (edit : Placed) → Contains edits edit → is_place to edit.place ≡ false → is_one_record edit ≡ false
  only_put edit c off = by (first_or_later change.four edit (change.fives ++ (of_put ++ zeros)) c)
    where
      one : (set : SetRecords) → Contains change.put set → set.one ≡ edit → is_one_record edit ≡ false
      one set there same =
          let here : Contains (listed to) edit.place =
          subst (λ (places : List Place). Contains places edit.place) (sym to_is) (subst (λ (place : Place). Contains (map one_at change.put) place) (ap place_of same) (contains_map one_at change.put set there)) in
          absurd (both_ways (is_place to edit.place) off (there_is to edit.place here))

      three : (set : SetRecords) → Contains change.put set → Contains set.threes edit → is_one_record edit ≡ false
      three set there later = ap is_f1 (All-contains (λ (p : Placed). format_of p.bytes ≡ F3) set.threes edit (put_is set there).threes_are later)

      of : (set : SetRecords) → Contains change.put set → ((set.one ≡ edit) ⊎ Contains set.threes edit) → is_one_record edit ≡ false
      of set there (inl same) = one set there same
      of set there (inr later) = three set there later

      put : (Contains of_put edit ⊎ Contains zeros edit) → is_one_record edit ≡ false
      put (inl a) = let at = from_flat records_in_set change.put edit a in of at.0 at.1 (first_or_later at.0.one edit at.0.threes at.2)
      put (inr b) = let at = from_map zeroed change.freed edit b in ap is_one_record (sym at.2)

      behind : (Contains change.fives edit ⊎ Contains (of_put ++ zeros) edit) → is_one_record edit ≡ false
      behind (inl a) = ap is_f1 (All-contains (λ (p : Placed). format_of p.bytes ≡ F5) change.fives edit made.fives_are a)
      behind (inr b) = put (Contains-append_cases of_put zeros edit b)

      by : ((change.four ≡ edit) ⊎ Contains (change.fives ++ (of_put ++ zeros)) edit) → is_one_record edit ≡ false
      by (inl same) = ap is_one_record (sym same) ∙ ap is_f1 made.four_is
      by (inr later) = behind (Contains-append_cases change.fives (of_put ++ zeros) edit later)

  -- a format 1 that goes is written over
  gone_written : (place : Place) → is_place from place ≡ true → edit_of edits place ≡ None → ⊥
  gone_written place e none =
      let at = from_map one_at gone place (subst (λ (places : List Place). Contains places place) from_is (is_there from place e)) in
      let one = at.0.one in
      let sets = flat_map records_in_set gone in
      let there : Contains (layout.four ∷ (layout.fives ++ sets)) one =
      in_later layout.four one (layout.fives ++ sets) (in_back layout.fives sets one (in_flat records_in_set gone at.0 one at.1 (at_first one at.0.threes))) in
      let edit = from_map place_of edits one.place (All-contains (λ (o : Placed). Contains (map place_of edits) o.place) (layout.four ∷ (layout.fives ++ sets)) one made.covers there) in
      no_edit edit.0 (edit_of edits place) (edit_named edits edit.0 place made.once edit.1 (edit.2 ∙ at.2)) none

  -- and one that is written over goes
  written_gone : (placed edit : Placed) → Contains records placed → is_one_record placed ≡ true → Contains edits edit → edit.place ≡ placed.place → is_place from placed.place ≡ true
  written_gone placed edit c e there at =
      let one = from_map one_of layout.sets placed (is_one vtoc layout sized is placed c e) in
      by one.0 one.2 (Contains-append_cases front (gone ++ back) one.0 (subst (λ (sets : List SetRecords). Contains sets one.0) made.sets_are one.1))
    where
      kept : (set : SetRecords) → set.one ≡ placed → Contains (kept_records front back) set.one → is_place from placed.place ≡ true
      kept set same k =
          absurd (All-contains (λ (e : Placed). e.place ≢ set.one.place) edits edit
          (All-contains (λ (k : Placed). All (λ e. e.place ≢ k.place) edits) (kept_records front back) set.one made.apart k) there (at ∙ ap place_of (sym same)))

      of_front : List Placed
      of_front = flat_map records_in_set front

      of_back : List Placed
      of_back = flat_map records_in_set back

      behind : (set : SetRecords) → set.one ≡ placed → (Contains gone set ⊎ Contains back set) → is_place from placed.place ≡ true
      behind set same (inl a) =
          there_is from placed.place
          (subst (λ (places : List Place). Contains places placed.place) (sym from_is) (subst (λ (place : Place). Contains (map one_at gone) place) (ap place_of same) (contains_map one_at gone set a)))
      behind set same (inr b) = kept set same (in_back of_front of_back set.one (in_flat records_in_set back set set.one b (at_first set.one set.threes)))

      by : (set : SetRecords) → set.one ≡ placed → (Contains front set ⊎ Contains (gone ++ back) set) → is_place from placed.place ≡ true
      by set same (inl a) = kept set same (in_front of_front of_back set.one (in_flat records_in_set front set set.one a (at_first set.one set.threes)))
      by set same (inr b) = behind set same (Contains-append_cases gone back set b)

  -- ---- each record

  each : (placed : Placed) → Contains records placed → is_one_record (edited placed) ≡ is_one_after from to placed
  each placed c = by (is_place to placed.place) refl
    where
      stays : is_place to placed.place ≡ false → edit_of edits placed.place ≡ None → (b : Bool) → is_place from placed.place ≡ b → is_one_record (edited placed) ≡ is_one_record placed && not b
      stays off none true e = absurd (gone_written placed.place e none)
      stays off none false e = ap (λ (found : Option Placed). is_one_record (placed_with placed found)) none ∙ sym (kept (is_one_record placed))
        where
          kept : (b : Bool) → b && true ≡ b
          kept true = refl
          kept false = refl

      over : (edit : Placed) → Contains edits edit → edit.place ≡ placed.place → (b : Bool) → is_one_record placed ≡ b → false ≡ b && not (is_place from placed.place)
      over edit there at true e = ap not (sym (written_gone placed edit c e there at))
      over edit there at false e = refl

      found : is_place to placed.place ≡ false → (found : Option Placed) → edit_of edits placed.place ≡ found → is_one_record (edited placed) ≡ is_one_record placed && not (is_place from placed.place)
      found off None e = stays off e (is_place from placed.place) refl
      found off (Some edit) e =
          let at = edit_found edits placed.place edit e in
          let other : is_place to edit.place ≡ false = ap (is_place to) at.1 ∙ off in
          ap (λ (found : Option Placed). is_one_record (placed_with placed found)) e ∙ only_put edit at.0 other ∙ over edit at.0 at.1 (is_one_record placed) refl

      by : (b : Bool) → is_place to placed.place ≡ b → is_one_record (edited placed) ≡ b || (is_one_record placed && not (is_place from placed.place))
      by true e =
          let at = at_put placed.place e in
          ap (λ (found : Option Placed). is_one_record (placed_with placed found)) at.2 ∙ ap is_f1 (put_is at.0 at.1).one_is
      by false e = found e (edit_of edits placed.place) refl

  pub last_after : last_of (filter is_one_record (after_edits edits records)) ≡ last_of (filter (is_one_after from to) records)
  last_after = last_same edited is_one_record (is_one_after from to) records each (λ placed. place_kept placed (edit_of edits placed.place))
