-- The layout of a VTOC of which the format 4 alone is written anew.
use Rattle.std.proofs.Common.{◌≡◌, ◌⊎◌, List, [], ◌∷◌, ◌++◌, map, filter, All, Contains, Bool, true, false, cond, Option, Some, None, refl, sym, ap, subst, ◌∙◌, inl, inr}
use Rattle.std.specs.List.{flat_map}
use Rattle.std.proofs.lemmas.List.Folds.{flat_map-map}
use Rattle.volume_model.specs.declared.format.Format.TheVariants.{Free, F4}
use Rattle.volume_model.specs.declared.place.Place.{Place}
use Rattle.volume_model.specs.declared.place.Placed.{Placed}
use Rattle.volume_model.specs.declared.place.Vtoc.{Vtoc}
use Rattle.volume_model.specs.Dscbs.{format_of}
use Rattle.volume_model.specs.Directory.{same_place}
use Rattle.volume_model.specs.Check.{records_of}
use Rattle.volume_model.proofs.Numbers.{place_itself}
use Rattle.vtoc_check.specs.Sized.{IsSized}
use Rattle.vtoc_layout.specs.Layout.{SetRecords, Layout, IsLayoutOf, AreSetRecords, AreLinkedFives, records_in_set, records_used}
use Rattle.vtoc_layout.proofs.Apart.{all_from, flat_same}
use Rattle.vtoc_layout.proofs.Distinct.{first_or_later, at_first, in_later, in_none, in_front, in_back, from_map, in_flat}
use Rattle.vtoc_layout.proofs.FiveChains.{one_place}
use Rattle.vtoc_layout.proofs.Uses.{used_there, four_there, same_record, set_is}
use Rattle.layout_edit.specs.Change.{vtoc_after}
use Rattle.layout_edit.proofs.Changes.{sized_after}
use Rattle.layout_edit.proofs.Edits.{edit_named, edit_none, linked_after}
use Rattle.vtoc_write.specs.Edited.{edit_of, placed_with}
use Rattle.vtoc_write.proofs.Tracks.{keeps_places}
use Rattle.ckd_image.proofs.Lists.{contains_map}

filter_kept : {X : Type 0} (test : X → Bool) (f : X → X) (xs : List X) → ((x : X) → Contains xs x → (f x ≡ x) ⊎ ((test x ≡ false) × (test (f x) ≡ false))) → filter test (map f xs) ≡ filter test xs
filter_kept test f [] h = refl
filter_kept {X} test f (x ∷ xs) h = by (filter_kept test f xs (λ y c. h y (in_later x y xs c))) (h x (at_first x xs))
  where
    by : filter test (map f xs) ≡ filter test xs → ((f x ≡ x) ⊎ ((test x ≡ false) × (test (f x) ≡ false))) → filter test (map f (x ∷ xs)) ≡ filter test (x ∷ xs)
    by rest (inl same) = λ i. cond (test (same i)) (same i ∷ rest i) (rest i)
    by rest (inr (was, is)) =
        ap (λ (b : Bool). cond b (f x ∷ filter test (map f xs)) (filter test (map f xs))) is ∙ rest ∙ sym (ap (λ (b : Bool). cond b (x ∷ filter test xs) (filter test xs)) was)

abbrev no_edit : Option Placed
no_edit = None

differ : {edit : Placed} → no_edit ≡ Some edit → ⊥
differ {edit} e = let q : no_edit ≡ Some edit = e in cc

module _ (vtoc : Vtoc) (layout : Layout) (marked : Placed) (sized : IsSized vtoc) (is : IsLayoutOf vtoc layout) (at : marked.place ≡ layout.four.place) (format : format_of marked.bytes ≡ F4) where
  abbrev records : List Placed
  records = records_of vtoc

  abbrev edits : List Placed
  edits = marked ∷ []

  abbrev pub after : Vtoc
  after = vtoc_after vtoc edits

  -- a record once the format 4 is written
  abbrev pub edited : Placed → Placed
  edited placed = placed_with placed (edit_of edits placed.place)

  pub records_are : records_of after ≡ map edited records
  records_are = keeps_places edits vtoc.run.first vtoc.tracks

  pub sized_marked : IsSized after
  sized_marked = sized_after vtoc edits sized

  -- ---- the format 4 and the others

  pub found : (place : Place) → marked.place ≡ place → edit_of edits place ≡ Some marked
  found place same = edit_named edits marked place ((λ c. in_none marked.place c), tt) (at_first marked []) same

  not_found : (place : Place) → ¬ (marked.place ≡ place) → edit_of edits place ≡ None
  not_found place other = edit_none edits place (λ edit c same. by edit same (first_or_later marked edit [] c))
    where
      by : (edit : Placed) → edit.place ≡ place → ((marked ≡ edit) ⊎ Contains [] edit) → ⊥
      by edit same (inl one) = other (ap (λ (p : Placed). p.place) one ∙ same)
      by edit same (inr none) = in_none edit none

  four_edited : edited layout.four ≡ marked
  four_edited = ap (placed_with layout.four) (found layout.four.place at) ∙ (λ i. record { place = sym at i; bytes = marked.bytes })

  is_four_at : (placed : Placed) → Contains records placed → marked.place ≡ placed.place → placed ≡ layout.four
  is_four_at placed c same =
      same_record vtoc layout sized is placed layout.four c (four_there vtoc layout sized is) (ap (same_place placed.place) (sym (sym same ∙ at)) ∙ place_itself placed.place)

  -- each record stays, or is the format 4
  stays_or_four : (placed : Placed) → Contains records placed → (edit_of edits placed.place ≡ None) ⊎ ((placed ≡ layout.four) × (edited placed ≡ marked))
  stays_or_four placed c = by (same_place marked.place placed.place) refl
    where
      by : (t : Bool) → same_place marked.place placed.place ≡ t → (edit_of edits placed.place ≡ None) ⊎ ((placed ≡ layout.four) × (edited placed ≡ marked))
      by true e = let four = is_four_at placed c (one_place marked.place placed.place e) in inr (four, ap edited four ∙ four_edited)
      by false e = inl (ap (λ (b : Bool). cond b (Some marked) None) e)

  abbrev others : List Placed
  others = layout.fives ++ flat_map records_in_set layout.sets

  other_there : (placed : Placed) → Contains others placed → Contains records placed
  other_there placed c = used_there vtoc layout sized is placed (in_later layout.four placed others c)

  other_place : (placed : Placed) → Contains others placed → ¬ (marked.place ≡ placed.place)
  other_place placed c same = is.once.0 (subst (Contains others) (is_four_at placed (other_there placed c) same) c)

  other_stays : (placed : Placed) → Contains others placed → edit_of edits placed.place ≡ None
  other_stays placed c = not_found placed.place (other_place placed c)

  -- ---- lists of all records

  -- a test that no format 4 passes finds the same records
  pub filter_same : (test : Placed → Bool) → ((placed : Placed) → format_of placed.bytes ≡ F4 → test placed ≡ false) → filter test (records_of after) ≡ filter test records
  filter_same test none = ap (filter test) records_are ∙ filter_kept test edited records (λ placed c. by placed (stays_or_four placed c))
    where
      by : (placed : Placed) → ((edit_of edits placed.place ≡ None) ⊎ ((placed ≡ layout.four) × (edited placed ≡ marked))) → (edited placed ≡ placed) ⊎ ((test placed ≡ false) × (test (edited placed) ≡ false))
      by placed (inl stays) = inl (ap (placed_with placed) stays)
      by placed (inr (four, now)) = inr (ap test four ∙ none layout.four is.four_is, ap test now ∙ none marked format)

  -- what format 4s have none of is the same
  pub flat_unchanged : {Y : Type 0} (f : Placed → List Y) → ((placed : Placed) → format_of placed.bytes ≡ F4 → f placed ≡ []) → flat_map f (records_of after) ≡ flat_map f records
  flat_unchanged {Y} f none = ap (flat_map f) records_are ∙ flat_map-map f edited records ∙ flat_same (λ placed. f (edited placed)) f records (λ placed c. by placed (stays_or_four placed c))
    where
      by : (placed : Placed) → ((edit_of edits placed.place ≡ None) ⊎ ((placed ≡ layout.four) × (edited placed ≡ marked))) → f (edited placed) ≡ f placed
      by placed (inl stays) = ap f (ap (placed_with placed) stays)
      by placed (inr (four, now)) = ap f now ∙ none marked format ∙ sym (ap f four ∙ none layout.four is.four_is)

  -- ---- the layout

  abbrev pub marked_layout : Layout
  marked_layout = record { four = marked; fives = layout.fives; sets = layout.sets }

  marked_there : Contains (map edited records) marked
  marked_there = subst (Contains (map edited records)) four_edited (contains_map edited records layout.four (four_there vtoc layout sized is))

  other_after : (placed : Placed) → Contains others placed → Contains (map edited records) placed
  other_after placed c = subst (Contains (map edited records)) (ap (placed_with placed) (other_stays placed c)) (contains_map edited records placed (other_there placed c))

  used_after : (placed : Placed) → Contains (marked ∷ others) placed → Contains (map edited records) placed
  used_after placed c = by (first_or_later marked placed others c)
    where
      by : ((marked ≡ placed) ⊎ Contains others placed) → Contains (map edited records) placed
      by (inl same) = subst (Contains (map edited records)) same marked_there
      by (inr later) = other_after placed later

  set_after : (set : SetRecords) → Contains layout.sets set → AreSetRecords vtoc.heads (map edited records) set
  set_after set c =
      let of = set_is vtoc layout sized is set c in
      record {
        one_is = of.one_is;
        threes_are = of.threes_are;
        linked =
            linked_after vtoc.heads edits records set.one.bytes set.threes of.linked
            (λ placed p.
            other_stays placed
            (in_back layout.fives (flat_map records_in_set layout.sets) placed (in_flat records_in_set layout.sets set placed c (in_later set.one placed set.threes p))));
      }

  rest_after : (placed : Placed) → Contains (map edited records) placed → ¬ Contains (marked ∷ others) placed → format_of placed.bytes ≡ Free
  rest_after placed c unused = let old = from_map edited records placed c in by old.0 old.1 old.2 (stays_or_four old.0 old.1)
    where
      stood : (old : Placed) → old ≡ placed → Contains (records_used layout) old → edit_of edits old.place ≡ None → ⊥
      stood old same was stays = cases (first_or_later layout.four old others was)
        where
          named : layout.four ≡ old → edit_of edits old.place ≡ Some marked
          named four = found old.place (at ∙ ap (λ (p : Placed). p.place) four)

          cases : ((layout.four ≡ old) ⊎ Contains others old) → ⊥
          cases (inl four) = differ (sym stays ∙ named four)
          cases (inr other) = unused (subst (Contains (marked ∷ others)) same (in_later marked old others other))

      by : (old : Placed) → Contains records old → edited old ≡ placed → ((edit_of edits old.place ≡ None) ⊎ ((old ≡ layout.four) × (edited old ≡ marked))) → format_of placed.bytes ≡ Free
      by old there now (inl stays) =
          let same : old ≡ placed = sym (ap (placed_with old) stays) ∙ now in
          ap (λ (p : Placed). format_of p.bytes) (sym same) ∙ is.rest old there (λ was. stood old same was stays)
      by old there now (inr four) = absurd (unused (subst (Contains (marked ∷ others)) (sym four.1 ∙ now) (at_first marked others)))

  pub marked_is : IsLayoutOf after marked_layout
  marked_is = record {
    there = subst (λ (rs : List Placed). All (Contains rs) (marked ∷ others)) (sym records_are) (all_from (Contains (map edited records)) (marked ∷ others) used_after);
    once = ((λ c. other_place marked c refl), is.once.1);
    four_is = format;
    four_at = at ∙ is.four_at;
    fives_are = is.fives_are;
    sets_are =
        subst (λ (rs : List Placed). All (AreSetRecords vtoc.heads rs) layout.sets) (sym records_are)
        (all_from (AreSetRecords vtoc.heads (map edited records)) layout.sets set_after);
    names = is.names;
    rest = λ placed c unused. rest_after placed (subst (λ (rs : List Placed). Contains rs placed) records_are c) unused;
  }

  pub fives_linked : AreLinkedFives vtoc.heads records layout.fives → AreLinkedFives vtoc.heads (records_of after) layout.fives
  fives_linked h = subst (λ (rs : List Placed). AreLinkedFives vtoc.heads rs layout.fives) (sym records_are) (by layout.fives (λ five c. other_stays five (in_front layout.fives (flat_map records_in_set layout.sets) five c)) h)
    where
      by : (fives : List Placed) → ((five : Placed) → Contains fives five → edit_of edits five.place ≡ None) → AreLinkedFives vtoc.heads records fives → AreLinkedFives vtoc.heads (map edited records) fives
      by [] stay h = tt
      by (five ∷ more) stay h = linked_after vtoc.heads edits records five.bytes more h (λ next c. stay next (in_later five next more c))
