-- In a VTOC with a layout each pointer of a data set leads to the next of its records.
use Rattle.std.proofs.Common.{◌≡◌, ◌⊎◌, ◌||◌, ◌&&◌, List, [], ◌++◌, length, map, filter, not, Bool, true, false, Contains, Some, None, refl, sym, ap, subst, ◌∙◌, arith, inl, inr}
use Rattle.std.specs.Option.{is_some}
use Rattle.std.proofs.lemmas.Bool.{both_ways, and_parts}
use Rattle.volume_model.specs.declared.format.Format.TheVariants.{F3}
use Rattle.volume_model.specs.declared.place.Placed.{Placed}
use Rattle.volume_model.specs.declared.place.Vtoc.{Vtoc}
use Rattle.volume_model.specs.declared.rule.VtocRule.TheVariants as rules
use Rattle.volume_model.specs.Dscbs.{format_of, is_f1, is_f3, pointer_in}
use Rattle.volume_model.specs.Directory.{same_place, chain_of}
use Rattle.volume_model.specs.Check.{breach, records_of, later_ones, namers_of, named_by, names_3, names_format, same_target, is_among, reached_3s, bad_pointers}
use Rattle.vtoc_check.specs.Sized.{IsSized}
use Rattle.vtoc_layout.specs.Layout.{AreDistinct, SetRecords, Layout, IsLayoutOf, records_in_set}
use Rattle.vtoc_layout.proofs.Distinct.{filter_nothing, from_filter, distinct_filter, from_map, in_flat, in_later, no_more, no_later_ones, one_of_flat, distinct_each}
use Rattle.vtoc_layout.proofs.Links.{Precedes, second_later, one_before, leads_to_next, chain_is}
use Rattle.vtoc_layout.proofs.Uses.{among, one_of, all_distinct, same_record, in_set_there, distinct_of_sets, set_is, three_format, is_one, is_three, ones, same_ones}
use Rattle.ckd_image.proofs.Lists.{contains_map}

module _ (vtoc : Vtoc) (layout : Layout) (sized : IsSized vtoc) (is : IsLayoutOf vtoc layout) where
  abbrev records : List Placed
  records = records_of vtoc

  -- the threes of a data set are its chain
  pub threes_are_chain : (set : SetRecords) → Contains layout.sets set → chain_of vtoc.heads records (length records) set.one.bytes ≡ set.threes
  threes_are_chain set c =
      let of = set_is vtoc layout sized is set c in
      let apart : AreDistinct (records_in_set set) = distinct_each records_in_set layout.sets set (distinct_of_sets vtoc layout sized is) c in
      chain_is vtoc.heads records (length records) set.one.bytes set.threes of.linked of.threes_are
      (no_more set.threes records apart.1 (λ placed there. in_set_there vtoc layout sized is set placed c (in_later set.one placed set.threes there)))

  -- ---- the records with pointers

  abbrev is_namer : Placed → Bool
  is_namer placed = (is_f1 (format_of placed.bytes) || is_f3 (format_of placed.bytes)) && is_some (pointer_in placed.bytes)

  -- such a record is one of a data set's
  abbrev InSet : Placed → Type 0
  InSet placed = (set : SetRecords) × Contains layout.sets set × Contains (records_in_set set) placed

  pub in_set : (placed : Placed) → Contains records placed → (is_f1 (format_of placed.bytes) || is_f3 (format_of placed.bytes)) ≡ true → InSet placed
  in_set placed c e = by (is_f1 (format_of placed.bytes)) refl e
    where
      by : (t : Bool) → is_f1 (format_of placed.bytes) ≡ t → (t || is_f3 (format_of placed.bytes)) ≡ true → InSet placed
      by true first whole = let at = from_map one_of layout.sets placed (is_one vtoc layout sized is placed c first) in (at.0, at.1, (0, omega arith, at.2))
      by false first whole = let at = is_three vtoc layout sized is placed c whole in (at.0, at.1, in_later at.0.one placed at.0.threes at.2)

  -- and its pointer leads to the next of them
  abbrev Leads : Placed → Type 0
  Leads placed = (set : SetRecords) × Contains layout.sets set × ((next : Placed) × (named_by vtoc placed ≡ Some next) × Precedes (records_in_set set) placed next)

  leads : (placed : Placed) → Contains (namers_of vtoc) placed → Leads placed
  leads placed c = by (in_set placed m.0 parts.0)
    where
      m : Contains records placed × (is_namer placed ≡ true)
      m = from_filter is_namer records placed c

      parts : ((is_f1 (format_of placed.bytes) || is_f3 (format_of placed.bytes)) ≡ true) × (is_some (pointer_in placed.bytes) ≡ true)
      parts = and_parts (is_f1 (format_of placed.bytes) || is_f3 (format_of placed.bytes)) (is_some (pointer_in placed.bytes)) m.1

      by : InSet placed → Leads placed
      by at = on (leads_to_next vtoc.heads records at.0.one at.0.threes placed (set_is vtoc layout sized is at.0 at.1).linked at.2)
        where
          on : ((pointer_in placed.bytes ≡ None) ⊎ ((next : Placed) × (named_by vtoc placed ≡ Some next) × Precedes (records_in_set at.0) placed next)) → Leads placed
          on (inl none) = absurd (both_ways (is_some (pointer_in placed.bytes)) (ap is_some none) parts.1)
          on (inr r) = (at.0, at.1, r)

  three_at : (set : SetRecords) → Contains layout.sets set → (a b : Placed) → Precedes (records_in_set set) a b → Contains set.threes b
  three_at set c a b p = second_later set.one set.threes a b p

  -- ---- no pointer is wrong

  none_lost : filter (λ placed. not (names_3 vtoc placed)) (namers_of vtoc) ≡ []
  none_lost = filter_nothing (λ placed. not (names_3 vtoc placed)) (namers_of vtoc) named
    where
      named : (placed : Placed) → Contains (namers_of vtoc) placed → not (names_3 vtoc placed) ≡ false
      named placed c =
          let at = leads placed c in
          let next : Placed = at.2.0 in
          let three : format_of next.bytes ≡ F3 = three_format vtoc layout sized is at.0 next at.1 (three_at at.0 at.1 placed next at.2.2) in
          ap not (ap (names_format (λ bytes. is_f3 (format_of bytes))) at.2.1 ∙ ap is_f3 three)

  abbrev related : Placed → Placed → Bool
  related later earlier = same_target (named_by vtoc later) (named_by vtoc earlier)

  one_namer : (a b : Placed) → Leads a → Leads b → related a b ≡ true → a ≡ b
  one_namer a b p q e = one_before (records_in_set q.0) a b next_b (distinct_each records_in_set layout.sets q.0 (distinct_of_sets vtoc layout sized is) q.1) there q.2.2
    where
      next_a : Placed
      next_a = p.2.0

      next_b : Placed
      next_b = q.2.0

      in_a : Contains (records_in_set p.0) next_a
      in_a = in_later p.0.one next_a p.0.threes (three_at p.0 p.1 a next_a p.2.2)

      in_b : Contains (records_in_set q.0) next_b
      in_b = in_later q.0.one next_b q.0.threes (three_at q.0 q.1 b next_b q.2.2)

      place : same_place next_a.place next_b.place ≡ true
      place = sym (λ i. same_target (p.2.1 i) (q.2.1 i)) ∙ e

      same : next_a ≡ next_b
      same = same_record vtoc layout sized is next_a next_b (in_set_there vtoc layout sized is p.0 next_a p.1 in_a) (in_set_there vtoc layout sized is q.0 next_b q.1 in_b) place

      sets : p.0 ≡ q.0
      sets = let P : Placed → Type 0 = λ x. Contains (records_in_set p.0) x in
          one_of_flat records_in_set layout.sets p.0 q.0 next_b (distinct_of_sets vtoc layout sized is) p.1 q.1 (subst P same in_a) in_b

      there : Precedes (records_in_set q.0) a next_b
      there =
          let P : Placed → Type 0 = λ x. Precedes (records_in_set p.0) a x in
          let Q : SetRecords → Type 0 = λ s. Precedes (records_in_set s) a next_b in
          subst Q sets (subst P same p.2.2)

  none_twice : later_ones related (filter (names_3 vtoc) (namers_of vtoc)) ≡ []
  none_twice =
      no_later_ones related (filter (names_3 vtoc) (namers_of vtoc))
      (distinct_filter (names_3 vtoc) (namers_of vtoc) (distinct_filter is_namer records (all_distinct vtoc layout sized is))) other
    where
      other : (a b : Placed) → Contains (filter (names_3 vtoc) (namers_of vtoc)) a → Contains (filter (names_3 vtoc) (namers_of vtoc)) b → ¬ (a ≡ b) → related a b ≡ false
      other a b p q differ = by (related a b) refl
        where
          by : (t : Bool) → related a b ≡ t → t ≡ false
          by false e = refl
          by true e =
              absurd (differ (one_namer a b (leads a (from_filter (names_3 vtoc) (namers_of vtoc) a p).0) (leads b (from_filter (names_3 vtoc) (namers_of vtoc) b q).0) e))

  reached : (placed : Placed) → Contains records placed → is_f3 (format_of placed.bytes) ≡ true → is_among (reached_3s vtoc) placed ≡ true
  reached placed c e =
      let at = is_three vtoc layout sized is placed c e in
      let chain : Placed → List Placed = λ one. chain_of vtoc.heads records (length records) one.bytes in
      let P : List Placed → Type 0 = λ threes. Contains threes placed in
      let there : Contains (ones vtoc layout sized is) at.0.one = (same_ones vtoc layout sized is).back at.0.one (contains_map one_of layout.sets at.0 at.1) in
      among (reached_3s vtoc) placed (in_flat chain (ones vtoc layout sized is) at.0.one placed there (subst P (sym (threes_are_chain at.0 at.1)) at.2))

  none_unreached : filter (λ placed. is_f3 (format_of placed.bytes) && not (is_among (reached_3s vtoc) placed)) records ≡ []
  none_unreached = filter_nothing (λ placed. is_f3 (format_of placed.bytes) && not (is_among (reached_3s vtoc) placed)) records each
    where
      each : (placed : Placed) → Contains records placed → (is_f3 (format_of placed.bytes) && not (is_among (reached_3s vtoc) placed)) ≡ false
      each placed c = by (is_f3 (format_of placed.bytes)) refl
        where
          by : (t : Bool) → is_f3 (format_of placed.bytes) ≡ t → (t && not (is_among (reached_3s vtoc) placed)) ≡ false
          by false e = refl
          by true e = ap not (reached placed c e)

  pub no_bad_pointers : bad_pointers vtoc ≡ []
  no_bad_pointers = ap (λ (found : List Placed). map (breach rules.Pointer) found) (λ i. none_lost i ++ none_twice i ++ none_unreached i)
