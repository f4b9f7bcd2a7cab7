-- The records of a VTOC after one change have the layout that it says.
use Rattle.std.proofs.Common.{◌≡◌, ◌≢◌, ◌⊎◌, List, [], ◌∷◌, ◌++◌, map, replicate, All, Contains, Option, Some, None, refl, sym, ap, subst, ◌∙◌, arith, inl, inr}
use Rattle.std.specs.List.{flat_map}
use Rattle.std.proofs.lemmas.Grind.{flat_map-append}
use Rattle.std.proofs.lemmas.List.Elements.{All-contains, Contains-append_cases}
use Rattle.volume_model.specs.declared.format.Format.TheVariants.{Free}
use Rattle.volume_model.specs.declared.place.Placed.{Placed}
use Rattle.volume_model.specs.declared.place.Vtoc.{Vtoc}
use Rattle.volume_model.specs.Dscbs.{format_of}
use Rattle.volume_model.specs.Check.{records_of}
use Rattle.vtoc_check.specs.Sized.{IsSized}
use Rattle.vtoc_layout.specs.Layout.{AreDistinct, SetRecords, Layout, AreSetRecords, IsLayoutOf, records_in_set, records_used}
use Rattle.vtoc_layout.proofs.Apart.{all_from}
use Rattle.vtoc_layout.proofs.Distinct.{first_or_later, at_first, in_later, in_front, in_back, in_flat, from_map, not_both, distinct_front, distinct_back, distinct_append}
use Rattle.vtoc_layout.proofs.Uses.{used_there, distinct_of_sets, set_is}
use Rattle.vtoc_write.specs.Edited.{edit_of, placed_with, after_edits}
use Rattle.vtoc_write.proofs.Tracks.{keeps_places}
use Rattle.layout_edit.specs.Change.{place_of, zeroed, LayoutChange, edits_of, vtoc_after, layout_after, kept_records, IsChangeOf, ChangesHaveLayouts}
use Rattle.layout_edit.proofs.Edits.{edit_named, edit_none, edit_found, linked_after, tracks_long, tracks_short}
use Rattle.ckd_image.proofs.Lists.{contains_map}

pub flat_three : {X Y : Type 0} (f : X → List Y) (xs ys zs : List X) → flat_map f (xs ++ (ys ++ zs)) ≡ flat_map f xs ++ (flat_map f ys ++ flat_map f zs)
flat_three {X} {Y} f xs ys zs = flat_map-append f xs (ys ++ zs) ∙ ap (λ (l : List Y). flat_map f xs ++ l) (flat_map-append f ys zs)

pub distinct_of_map : {X Y : Type 0} (f : X → Y) (xs : List X) → AreDistinct (map f xs) → AreDistinct xs
distinct_of_map f [] d = tt
distinct_of_map f (x ∷ xs) d = (λ c. d.0 (contains_map f xs x c), distinct_of_map f xs d.1)

zeros_free : format_of (replicate 140 0) ≡ Free
zeros_free = refl

abbrev no_edit : Option Placed
no_edit = None

pub sized_after : (vtoc : Vtoc) (edits : List Placed) → IsSized vtoc → IsSized (vtoc_after vtoc edits)
sized_after vtoc edits sized = record {
  some_heads = sized.some_heads;
  few_heads = sized.few_heads;
  limit_fits = sized.limit_fits;
  alternates_fit = sized.alternates_fit;
  run_within = sized.run_within;
  run_has = sized.run_has;
  whole = tracks_long edits vtoc.run.first vtoc.tracks ∙ sized.whole;
  short = tracks_short edits vtoc.run.first vtoc.tracks sized.short;
}

module _ (vtoc : Vtoc) (layout : Layout) (front gone back : List SetRecords) (change : LayoutChange) (sized : IsSized vtoc) (is : IsLayoutOf vtoc layout) (made : IsChangeOf vtoc layout front gone back change) where
  abbrev records : List Placed
  records = records_of vtoc

  abbrev edits : List Placed
  edits = edits_of change

  abbrev after : List Placed
  after = after_edits edits records

  abbrev of_front : List Placed
  of_front = flat_map records_in_set front

  abbrev of_gone : List Placed
  of_gone = flat_map records_in_set gone

  abbrev of_back : List Placed
  of_back = flat_map records_in_set back

  abbrev of_put : List Placed
  of_put = flat_map records_in_set change.put

  abbrev zeros : List Placed
  zeros = map zeroed change.freed

  abbrev kept : List Placed
  kept = kept_records front back

  abbrev used : List Placed
  used = records_used (layout_after front change back)

  sets_before : flat_map records_in_set layout.sets ≡ of_front ++ (of_gone ++ of_back)
  sets_before = ap (flat_map records_in_set) made.sets_are ∙ flat_three records_in_set front gone back

  sets_after : flat_map records_in_set (front ++ (change.put ++ back)) ≡ of_front ++ (of_put ++ of_back)
  sets_after = flat_three records_in_set front change.put back

  -- ---- what is edited, and what is kept

  abbrev edited : Placed → Placed
  edited placed = placed_with placed (edit_of edits placed.place)

  -- each edit is a record afterwards
  edit_there : (edit : Placed) → Contains edits edit → Contains after edit
  edit_there edit c =
      let at = from_map place_of records edit.place (All-contains (λ (e : Placed). Contains (map place_of records) e.place) edits edit made.there c) in
      let found : edit_of edits at.0.place ≡ Some edit = edit_named edits edit at.0.place made.once c (sym at.2) in
      let same : edited at.0 ≡ edit = ap (placed_with at.0) found ∙ (λ i. record { place = at.2 i; bytes = edit.bytes }) in
      let P : Placed → Type 0 = λ placed. Contains after placed in
      subst P same (contains_map edited records at.0 at.1)

  not_edited : (placed : Placed) → Contains kept placed → (edit : Placed) → Contains edits edit → ¬ (edit.place ≡ placed.place)
  not_edited placed c edit p =
      All-contains (λ (e : Placed). e.place ≢ placed.place) edits edit (All-contains (λ (k : Placed). All (λ e. e.place ≢ k.place) edits) kept placed made.apart c) p

  kept_edit : (placed : Placed) → Contains kept placed → edit_of edits placed.place ≡ None
  kept_edit placed c = edit_none edits placed.place (not_edited placed c)

  not_kept : (edit : Placed) → Contains edits edit → Contains kept edit → ⊥
  not_kept edit p c = not_edited edit c edit p refl

  kept_front : (placed : Placed) → Contains of_front placed → Contains kept placed
  kept_front placed c = in_front of_front of_back placed c

  kept_back : (placed : Placed) → Contains of_back placed → Contains kept placed
  kept_back placed c = in_back of_front of_back placed c

  -- ---- the records of the data sets before and after

  abbrev were : List Placed
  were = of_front ++ (of_gone ++ of_back)

  abbrev are : List Placed
  are = of_front ++ (of_put ++ of_back)

  kept_were : (placed : Placed) → Contains kept placed → Contains were placed
  kept_were placed c = by (Contains-append_cases of_front of_back placed c)
    where
      by : (Contains of_front placed ⊎ Contains of_back placed) → Contains were placed
      by (inl a) = in_front of_front (of_gone ++ of_back) placed a
      by (inr b) = in_back of_front (of_gone ++ of_back) placed (in_back of_gone of_back placed b)

  kept_are : (placed : Placed) → Contains kept placed → Contains are placed
  kept_are placed c = by (Contains-append_cases of_front of_back placed c)
    where
      by : (Contains of_front placed ⊎ Contains of_back placed) → Contains are placed
      by (inl a) = in_front of_front (of_put ++ of_back) placed a
      by (inr b) = in_back of_front (of_put ++ of_back) placed (in_back of_put of_back placed b)

  from_were : (placed : Placed) → Contains were placed → Contains kept placed ⊎ Contains of_gone placed
  from_were placed c = by (Contains-append_cases of_front (of_gone ++ of_back) placed c)
    where
      behind : (Contains of_gone placed ⊎ Contains of_back placed) → Contains kept placed ⊎ Contains of_gone placed
      behind (inl a) = inr a
      behind (inr b) = inl (kept_back placed b)

      by : (Contains of_front placed ⊎ Contains (of_gone ++ of_back) placed) → Contains kept placed ⊎ Contains of_gone placed
      by (inl a) = inl (kept_front placed a)
      by (inr b) = behind (Contains-append_cases of_gone of_back placed b)

  from_are : (placed : Placed) → Contains are placed → Contains kept placed ⊎ Contains of_put placed
  from_are placed c = by (Contains-append_cases of_front (of_put ++ of_back) placed c)
    where
      behind : (Contains of_put placed ⊎ Contains of_back placed) → Contains kept placed ⊎ Contains of_put placed
      behind (inl a) = inr a
      behind (inr b) = inl (kept_back placed b)

      by : (Contains of_front placed ⊎ Contains (of_put ++ of_back) placed) → Contains kept placed ⊎ Contains of_put placed
      by (inl a) = inl (kept_front placed a)
      by (inr b) = behind (Contains-append_cases of_put of_back placed b)

  -- ---- the used records are there

  kept_there : (placed : Placed) → Contains kept placed → Contains after placed
  kept_there placed c =
      let P : List Placed → Type 0 = λ xs. Contains xs placed in
      let Q : Placed → Type 0 = λ p. Contains after p in
      let in_sets : Contains (flat_map records_in_set layout.sets) placed = subst P (sym sets_before) (kept_were placed c) in
      let before : Contains records placed =
      used_there vtoc layout sized is placed (in_later layout.four placed (layout.fives ++ flat_map records_in_set layout.sets) (in_back layout.fives (flat_map records_in_set layout.sets) placed in_sets)) in
      subst Q (ap (placed_with placed) (kept_edit placed c)) (contains_map edited records placed before)

  four_edit : Contains edits change.four
  four_edit = at_first change.four (change.fives ++ (of_put ++ zeros))

  five_edit : (placed : Placed) → Contains change.fives placed → Contains edits placed
  five_edit placed c = in_later change.four placed (change.fives ++ (of_put ++ zeros)) (in_front change.fives (of_put ++ zeros) placed c)

  put_edit : (placed : Placed) → Contains of_put placed → Contains edits placed
  put_edit placed c = in_later change.four placed (change.fives ++ (of_put ++ zeros)) (in_back change.fives (of_put ++ zeros) placed (in_front of_put zeros placed c))

  -- a used record is an edit or kept
  from_used : (placed : Placed) → Contains used placed → Contains edits placed ⊎ Contains kept placed
  from_used placed c = by (first_or_later change.four placed (change.fives ++ flat_map records_in_set (front ++ (change.put ++ back))) c)
    where
      P : Placed → Type 0
      P = λ p. Contains edits p

      Q : List Placed → Type 0
      Q = λ xs. Contains xs placed

      set : (Contains kept placed ⊎ Contains of_put placed) → Contains edits placed ⊎ Contains kept placed
      set (inl a) = inr a
      set (inr b) = inl (put_edit placed b)

      behind : (Contains change.fives placed ⊎ Contains (flat_map records_in_set (front ++ (change.put ++ back))) placed) → Contains edits placed ⊎ Contains kept placed
      behind (inl a) = inl (five_edit placed a)
      behind (inr b) = set (from_are placed (subst Q sets_after b))

      by : ((change.four ≡ placed) ⊎ Contains (change.fives ++ flat_map records_in_set (front ++ (change.put ++ back))) placed) → Contains edits placed ⊎ Contains kept placed
      by (inl same) = inl (subst P same four_edit)
      by (inr later) = behind (Contains-append_cases change.fives (flat_map records_in_set (front ++ (change.put ++ back))) placed later)

  used_after : (placed : Placed) → Contains used placed → Contains after placed
  used_after placed c = by (from_used placed c)
    where
      by : (Contains edits placed ⊎ Contains kept placed) → Contains after placed
      by (inl a) = edit_there placed a
      by (inr b) = kept_there placed b

  -- ---- each has one use

  once_after : AreDistinct used
  once_after =
      let D : List Placed → Type 0 = λ xs. AreDistinct (change.four ∷ (change.fives ++ xs)) in
      subst D (sym sets_after) (fresh, distinct_append change.fives are (distinct_front change.fives (of_put ++ zeros) written.1) distinct_are (λ z a b. not_five z a (from_are z b)))
    where
      written : AreDistinct edits
      written = distinct_of_map place_of edits made.once

      in_put : AreDistinct (of_put ++ zeros)
      in_put = distinct_back change.fives (of_put ++ zeros) written.1

      E : List Placed → Type 0
      E = λ xs. AreDistinct xs

      stood : AreDistinct were
      stood = subst E sets_before (distinct_of_sets vtoc layout sized is)

      front_or : (z : Placed) → Contains of_front z → (Contains of_put z ⊎ Contains of_back z) → ⊥
      front_or z a (inl p) = not_kept z (put_edit z p) (kept_front z a)
      front_or z a (inr b) = not_both of_front (of_gone ++ of_back) z stood a (in_back of_gone of_back z b)

      distinct_are : AreDistinct are
      distinct_are =
          distinct_append of_front (of_put ++ of_back) (distinct_front of_front (of_gone ++ of_back) stood)
          (distinct_append of_put of_back (distinct_front of_put zeros in_put) (distinct_back of_gone of_back (distinct_back of_front (of_gone ++ of_back) stood))
          (λ z p b. not_kept z (put_edit z p) (kept_back z b)))
          (λ z a b. front_or z a (Contains-append_cases of_put of_back z b))

      not_five : (z : Placed) → Contains change.fives z → (Contains kept z ⊎ Contains of_put z) → ⊥
      not_five z a (inl k) = not_kept z (five_edit z a) k
      not_five z a (inr p) = not_both change.fives (of_put ++ zeros) z written.1 a (in_front of_put zeros z p)

      not_four : (Contains kept change.four ⊎ Contains of_put change.four) → ⊥
      not_four (inl k) = not_kept change.four four_edit k
      not_four (inr p) = written.0 (in_back change.fives (of_put ++ zeros) change.four (in_front of_put zeros change.four p))

      five_or : (Contains change.fives change.four ⊎ Contains are change.four) → ⊥
      five_or (inl a) = written.0 (in_front change.fives (of_put ++ zeros) change.four a)
      five_or (inr b) = not_four (from_are change.four b)

      fresh : ¬ Contains (change.fives ++ are) change.four
      fresh c = five_or (Contains-append_cases change.fives are change.four c)

  -- ---- the data sets that stay have the records that they had

  kept_set : (set : SetRecords) → Contains layout.sets set → ((placed : Placed) → Contains (records_in_set set) placed → Contains kept placed) → AreSetRecords vtoc.heads after set
  kept_set set c stays =
      let of = set_is vtoc layout sized is set c in
      record {
        one_is = of.one_is;
        threes_are = of.threes_are;
        linked = linked_after vtoc.heads edits records set.one.bytes set.threes of.linked (λ placed p. kept_edit placed (stays placed (in_later set.one placed set.threes p)));
      }

  set_after : (set : SetRecords) → Contains (front ++ (change.put ++ back)) set → AreSetRecords vtoc.heads after set
  set_after set c = by (Contains-append_cases front (change.put ++ back) set c)
    where
      P : List SetRecords → Type 0
      P = λ sets. Contains sets set

      behind : (Contains change.put set ⊎ Contains back set) → AreSetRecords vtoc.heads after set
      behind (inl a) = All-contains (AreSetRecords vtoc.heads after) change.put set made.put_are a
      behind (inr b) =
          kept_set set (subst P (sym made.sets_are) (in_back front (gone ++ back) set (in_back gone back set b))) (λ placed p. kept_back placed (in_flat records_in_set back set placed b p))

      by : (Contains front set ⊎ Contains (change.put ++ back) set) → AreSetRecords vtoc.heads after set
      by (inl a) = kept_set set (subst P (sym made.sets_are) (in_front front (gone ++ back) set a)) (λ placed p. kept_front placed (in_flat records_in_set front set placed a p))
      by (inr b) = behind (Contains-append_cases change.put back set b)

  -- ---- the others are free

  used_kept : (placed : Placed) → Contains kept placed → Contains used placed
  used_kept placed c =
      let P : List Placed → Type 0 = λ xs. Contains xs placed in
      let sets : List Placed = flat_map records_in_set (front ++ (change.put ++ back)) in
      in_later change.four placed (change.fives ++ sets) (in_back change.fives sets placed (subst P (sym sets_after) (kept_are placed c)))

  -- an edit is used afterwards, or zeros
  from_edits : (edit : Placed) → Contains edits edit → Contains used edit ⊎ (format_of edit.bytes ≡ Free)
  from_edits edit c = by (first_or_later change.four edit (change.fives ++ (of_put ++ zeros)) c)
    where
      sets : List Placed
      sets = flat_map records_in_set (front ++ (change.put ++ back))

      P : List Placed → Type 0
      P = λ xs. Contains xs edit

      zero : Contains zeros edit → format_of edit.bytes ≡ Free
      zero there = let at = from_map zeroed change.freed edit there in ap (λ (p : Placed). format_of p.bytes) (sym at.2) ∙ zeros_free

      put : (Contains of_put edit ⊎ Contains zeros edit) → Contains used edit ⊎ (format_of edit.bytes ≡ Free)
      put (inl a) =
          inl (in_later change.four edit (change.fives ++ sets) (in_back change.fives sets edit (subst P (sym sets_after) (in_back of_front (of_put ++ of_back) edit (in_front of_put of_back edit a)))))
      put (inr b) = inr (zero b)

      behind : (Contains change.fives edit ⊎ Contains (of_put ++ zeros) edit) → Contains used edit ⊎ (format_of edit.bytes ≡ Free)
      behind (inl a) = inl (in_later change.four edit (change.fives ++ sets) (in_front change.fives sets edit a))
      behind (inr b) = put (Contains-append_cases of_put zeros edit b)

      by : ((change.four ≡ edit) ⊎ Contains (change.fives ++ (of_put ++ zeros)) edit) → Contains used edit ⊎ (format_of edit.bytes ≡ Free)
      by (inl same) = inl (0, omega arith, same)
      by (inr later) = behind (Contains-append_cases change.fives (of_put ++ zeros) edit later)

  -- a record that was used has an edit or is kept
  covered : (old : Placed) → Contains (layout.four ∷ (layout.fives ++ of_gone)) old → edit_of edits old.place ≡ None → ⊥
  covered old c none =
      let at = from_map place_of edits old.place (All-contains (λ (o : Placed). Contains (map place_of edits) o.place) (layout.four ∷ (layout.fives ++ of_gone)) old made.covers c) in
      let found : edit_of edits old.place ≡ Some at.0 = edit_named edits at.0 old.place made.once at.1 at.2 in
      (let q : no_edit ≡ Some at.0 = sym none ∙ found in cc)

  was_kept : (old : Placed) → Contains (records_used layout) old → edit_of edits old.place ≡ None → Contains kept old
  was_kept old c none = by (first_or_later layout.four old (layout.fives ++ flat_map records_in_set layout.sets) c)
    where
      P : List Placed → Type 0
      P = λ xs. Contains xs old

      set : (Contains kept old ⊎ Contains of_gone old) → Contains kept old
      set (inl a) = a
      set (inr b) = absurd (covered old (in_later layout.four old (layout.fives ++ of_gone) (in_back layout.fives of_gone old b)) none)

      behind : (Contains layout.fives old ⊎ Contains (flat_map records_in_set layout.sets) old) → Contains kept old
      behind (inl a) = absurd (covered old (in_later layout.four old (layout.fives ++ of_gone) (in_front layout.fives of_gone old a)) none)
      behind (inr b) = set (from_were old (subst P sets_before b))

      by : ((layout.four ≡ old) ⊎ Contains (layout.fives ++ flat_map records_in_set layout.sets) old) → Contains kept old
      by (inl same) = absurd (covered old (0, omega arith, same) none)
      by (inr later) = behind (Contains-append_cases layout.fives (flat_map records_in_set layout.sets) old later)

  rest_after : (placed : Placed) → Contains after placed → ¬ Contains used placed → format_of placed.bytes ≡ Free
  rest_after placed c unused = by (edit_of edits at.0.place) refl
    where
      at : (old : Placed) × Contains records old × (edited old ≡ placed)
      at = from_map edited records placed c

      stood : edit_of edits at.0.place ≡ None → format_of placed.bytes ≡ Free
      stood none =
          let same : at.0 ≡ placed = sym (ap (placed_with at.0) none) ∙ at.2 in
          let P : Placed → Type 0 = λ p. Contains used p in
          ap (λ (p : Placed). format_of p.bytes) (sym same) ∙ is.rest at.0 at.1 (λ was. unused (subst P same (used_kept at.0 (was_kept at.0 was none))))

      edit : (found : Placed) → edit_of edits at.0.place ≡ Some found → format_of placed.bytes ≡ Free
      edit found e =
          let there = edit_found edits at.0.place found e in
          let same : found ≡ placed = (λ i. record { place = there.1 i; bytes = found.bytes }) ∙ sym (ap (placed_with at.0) e) ∙ at.2 in
          end same (from_edits found there.0)
        where
          end : found ≡ placed → (Contains used found ⊎ (format_of found.bytes ≡ Free)) → format_of placed.bytes ≡ Free
          end same (inl a) = let P : Placed → Type 0 = λ p. Contains used p in absurd (unused (subst P same a))
          end same (inr zero) = ap (λ (p : Placed). format_of p.bytes) (sym same) ∙ zero

      by : (found : Option Placed) → edit_of edits at.0.place ≡ found → format_of placed.bytes ≡ Free
      by None e = stood e
      by (Some found) e = edit found e

  -- ---- the layout

  records_are : records_of (vtoc_after vtoc edits) ≡ after
  records_are = keeps_places edits vtoc.run.first vtoc.tracks

  pub layout_is : IsLayoutOf (vtoc_after vtoc edits) (layout_after front change back)
  layout_is = record {
    there = subst (λ (rs : List Placed). All (Contains rs) used) (sym records_are) (all_from (Contains after) used used_after);
    once = once_after;
    four_is = made.four_is;
    four_at = made.four_at;
    fives_are = made.fives_are;
    sets_are =
        subst (λ (rs : List Placed). All (AreSetRecords vtoc.heads rs) (front ++ (change.put ++ back))) (sym records_are)
        (all_from (AreSetRecords vtoc.heads after) (front ++ (change.put ++ back)) set_after);
    names = made.names;
    rest = λ placed c unused. rest_after placed (subst (λ (rs : List Placed). Contains rs placed) records_are c) unused;
  }

pub changes : ChangesHaveLayouts
changes vtoc layout front gone back change sized is made =
    (sized_after vtoc (edits_of change) sized, keeps_places (edits_of change) vtoc.run.first vtoc.tracks, layout_is vtoc layout front gone back change sized is made)
