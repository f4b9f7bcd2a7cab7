-- The extents of a VTOC are those of its layout, and apart.
use Rattle.std.proofs.Common.{◌≡◌, ◌⊎◌, ℕ, ◌||◌, ◌==◌, List, [], ◌∷◌, ◌++◌, map, filter, not, Bool, true, false, Contains, refl, sym, ap, subst, ◌∙◌, inl, inr}
use Rattle.std.specs.List.{flat_map, list_any}
use Rattle.std.specs.List.Sorted.{IsPermutation}
use Rattle.std.proofs.lemmas.Bool.{both_ways}
use Rattle.std.proofs.lemmas.List.Elements.{All-contains}
use Rattle.free_map.specs.declared.run.Run.{Run}
use Rattle.volume_model.specs.declared.extent.ExtentField.{ExtentField}
use Rattle.volume_model.specs.declared.place.Placed.{Placed}
use Rattle.volume_model.specs.declared.place.Vtoc.{Vtoc}
use Rattle.volume_model.specs.declared.rule.VtocRule.TheVariants as rules
use Rattle.volume_model.specs.Dscbs.{format_of, extents_of, extent_at, extent_offsets}
use Rattle.volume_model.specs.Directory.{same_place}
use Rattle.volume_model.specs.Space.{overlap, is_run, run_of}
use Rattle.volume_model.specs.Check.{breach, records_of, later_ones, is_among, own_runs, track_0, any_overlap, overlap_within, bad_ranges, bad_overlaps, extents_in}
use Rattle.vtoc_check.specs.Sized.{IsSized}
use Rattle.vtoc_check.proofs.Marks.{any_passes}
use Rattle.vtoc_layout.specs.Layout.{AreApart, AreExtentsApart, Layout, IsLayoutOf, records_in_set, extents_in_set, extents_by, runs_by}
use Rattle.vtoc_layout.proofs.Distinct.{in_flat, from_flat, in_none, first_or_later, in_filter, from_filter, distinct_filter, filter_nothing, filter_all, any_nothing, no_later_ones, flat_permuted, HaveSame}
use Rattle.vtoc_layout.proofs.Apart.{NoneShared, none_overlap, none_within, apart_each, apart_two, map_flat, flat_flat, flat_same, flat_kept}
use Rattle.vtoc_layout.proofs.Uses.{among, all_distinct, same_record, set_there, of_sets, distinct_of_sets, in_set_or_bare}

abbrev extents_at : Placed → List ExtentField
extents_at placed = extents_of placed.bytes

-- the runs of a record's extents
abbrev pub runs_at : ℕ → Placed → List Run
runs_at heads placed = map (run_of heads) (extents_at placed)

-- the runs of a layout, by its records
pub runs_by_records : (heads : ℕ) (layout : Layout) → runs_by heads layout ≡ flat_map (runs_at heads) (flat_map records_in_set layout.sets)
runs_by_records heads layout = ap (map (run_of heads)) (flat_flat extents_at records_in_set layout.sets) ∙ map_flat (run_of heads) extents_at (flat_map records_in_set layout.sets)

module _ (vtoc : Vtoc) (layout : Layout) (sized : IsSized vtoc) (is : IsLayoutOf vtoc layout) where
  abbrev records : List Placed
  records = records_of vtoc

  abbrev in_sets : List Placed
  in_sets = of_sets vtoc layout sized is

  -- ---- the records that have extents

  bare : (placed : Placed) → Contains records placed → ¬ Contains in_sets placed → extents_at placed ≡ []
  bare placed c out = by (in_set_or_bare vtoc layout sized is placed c)
    where
      by : (Contains in_sets placed ⊎ (extent_offsets (format_of placed.bytes) ≡ [])) → extents_at placed ≡ []
      by (inl there) = absurd (out there)
      by (inr none) = ap (λ (offsets : List ℕ). filter (λ extent. not (extent.kind == 0)) (map (extent_at placed.bytes) offsets)) none

  -- whether a record is one of a data set's
  abbrev has_set : Placed → Bool
  has_set placed = is_among in_sets placed

  has_set_there : (placed : Placed) → Contains records placed → has_set placed ≡ true → Contains in_sets placed
  has_set_there placed c e =
      let found = any_passes (λ (other : Placed). same_place other.place placed.place) in_sets e in
      let same : found.0 ≡ placed = same_record vtoc layout sized is found.0 placed (set_there vtoc layout sized is found.0 found.1) c found.2 in
      let P : Placed → Type 0 = λ p. Contains in_sets p in
      subst P same found.1

  no_set_bare : (placed : Placed) → Contains records placed → has_set placed ≡ false → extents_at placed ≡ []
  no_set_bare placed c e = bare placed c (λ there. both_ways (has_set placed) e (among in_sets placed there))

  set_or_bare : (placed : Placed) → Contains records placed → Contains in_sets placed ⊎ (extents_at placed ≡ [])
  set_or_bare placed c = by (has_set placed) refl
    where
      by : (t : Bool) → has_set placed ≡ t → Contains in_sets placed ⊎ (extents_at placed ≡ [])
      by true e = inl (has_set_there placed c e)
      by false e = inr (no_set_bare placed c e)

  extent_there : (placed : Placed) → Contains records placed → (extent : ExtentField) → Contains (extents_at placed) extent → Contains (extents_by layout) extent
  extent_there placed c extent h = by (set_or_bare placed c)
    where
      by : (Contains in_sets placed ⊎ (extents_at placed ≡ [])) → Contains (extents_by layout) extent
      by (inl there) =
          let at = from_flat records_in_set layout.sets placed there in
          in_flat extents_in_set layout.sets at.0 extent at.1 (in_flat extents_at (records_in_set at.0) placed extent at.2 h)
      by (inr none) = let P : List ExtentField → Type 0 = λ xs. Contains xs extent in absurd (in_none extent (subst P none h))

  module _ (extents : AreExtentsApart vtoc layout) where
    pub extent_is_run : (placed : Placed) → Contains records placed → (extent : ExtentField) → Contains (extents_at placed) extent → is_run vtoc.heads vtoc.limit extent ≡ true
    extent_is_run placed c extent h = All-contains (λ (e : ExtentField). is_run vtoc.heads vtoc.limit e ≡ true) (extents_by layout) extent extents.ranges (extent_there placed c extent h)

    pub no_bad_ranges : bad_ranges vtoc ≡ []
    no_bad_ranges =
        ap (λ (found : List Placed). map (breach rules.Range) found)
        (filter_nothing (λ placed. list_any (λ extent. not (is_run vtoc.heads vtoc.limit extent)) (extents_of placed.bytes)) records
        (λ placed c. any_nothing (λ extent. not (is_run vtoc.heads vtoc.limit extent)) (extents_of placed.bytes) (λ extent h. ap not (extent_is_run placed c extent h))))

    own_are : (placed : Placed) → Contains records placed → own_runs vtoc placed ≡ runs_at vtoc.heads placed
    own_are placed c = ap (map (run_of vtoc.heads)) (filter_all (is_run vtoc.heads vtoc.limit) (extents_at placed) (extent_is_run placed c))

    -- ---- the runs of records

    abbrev runs_in : Placed → List Run
    runs_in placed = runs_at vtoc.heads placed

    parts_apart : AreApart (flat_map runs_in in_sets)
    parts_apart = let P : List Run → Type 0 = λ runs. AreApart runs in subst P (runs_by_records vtoc.heads layout) extents.apart

    run_there : (placed : Placed) → Contains records placed → (run : Run) → Contains (runs_in placed) run → Contains (runs_by vtoc.heads layout) run
    run_there placed c run h = by (set_or_bare placed c)
      where
        by : (Contains in_sets placed ⊎ (extents_at placed ≡ [])) → Contains (runs_by vtoc.heads layout) run
        by (inl there) = let P : List Run → Type 0 = λ runs. Contains runs run in subst P (sym (runs_by_records vtoc.heads layout)) (in_flat runs_in in_sets placed run there h)
        by (inr none) = let P : List ExtentField → Type 0 = λ xs. Contains (map (run_of vtoc.heads) xs) run in absurd (in_none run (subst P none h))

    each_apart : (placed : Placed) → Contains records placed → AreApart (runs_in placed)
    each_apart placed c = by (set_or_bare placed c)
      where
        by : (Contains in_sets placed ⊎ (extents_at placed ≡ [])) → AreApart (runs_in placed)
        by (inl there) = apart_each runs_in in_sets placed parts_apart there
        by (inr none) = let P : List ExtentField → Type 0 = λ xs. AreApart (map (run_of vtoc.heads) xs) in subst P (sym none) tt

    two_apart : (a b : Placed) → Contains records a → Contains records b → ¬ (a ≡ b) → NoneShared (runs_in a) (runs_in b)
    two_apart a b p q differ = by (set_or_bare a p) (set_or_bare b q)
      where
        P : Run → List ExtentField → Type 0
        P = λ run xs. Contains (map (run_of vtoc.heads) xs) run

        by : (Contains in_sets a ⊎ (extents_at a ≡ [])) → (Contains in_sets b ⊎ (extents_at b ≡ [])) → NoneShared (runs_in a) (runs_in b)
        by (inl s) (inl t) = apart_two runs_in in_sets a b parts_apart s t differ
        by (inl s) (inr none) = λ x y u v. absurd (in_none y (subst (P y) none v))
        by (inr none) t = λ x y u v. absurd (in_none x (subst (P x) none u))

    -- ---- no overlap

    off_both : (placed : Placed) → Contains records placed → NoneShared (runs_in placed) (track_0 ∷ vtoc.run ∷ [])
    off_both placed c a b p q = by (first_or_later track_0 b (vtoc.run ∷ []) q)
      where
        there : Contains (runs_by vtoc.heads layout) a
        there = run_there placed c a p

        second : ((vtoc.run ≡ b) ⊎ Contains [] b) → overlap a b ≡ false
        second (inl same) = ap (overlap a) (sym same) ∙ All-contains (λ (run : Run). overlap run vtoc.run ≡ false) (runs_by vtoc.heads layout) a extents.off_vtoc there
        second (inr none) = absurd (in_none b none)

        by : ((track_0 ≡ b) ⊎ Contains (vtoc.run ∷ []) b) → overlap a b ≡ false
        by (inl same) = ap (overlap a) (sym same) ∙ All-contains (λ (run : Run). overlap run track_0 ≡ false) (runs_by vtoc.heads layout) a extents.off_track_0 there
        by (inr later) = second (first_or_later vtoc.run b [] later)

    none_alone : filter (λ placed. any_overlap (own_runs vtoc placed) (track_0 ∷ vtoc.run ∷ []) || overlap_within (own_runs vtoc placed)) records ≡ []
    none_alone = filter_nothing (λ placed. any_overlap (own_runs vtoc placed) (track_0 ∷ vtoc.run ∷ []) || overlap_within (own_runs vtoc placed)) records each
      where
        each : (placed : Placed) → Contains records placed → (any_overlap (own_runs vtoc placed) (track_0 ∷ vtoc.run ∷ []) || overlap_within (own_runs vtoc placed)) ≡ false
        each placed c =
            ap (λ (runs : List Run). any_overlap runs (track_0 ∷ vtoc.run ∷ []) || overlap_within runs) (own_are placed c)
            ∙ (λ i. none_overlap (runs_in placed) (track_0 ∷ vtoc.run ∷ []) (off_both placed c) i || none_within (runs_in placed) (each_apart placed c) i)

    abbrev related : Placed → Placed → Bool
    related later earlier = any_overlap (own_runs vtoc later) (own_runs vtoc earlier)

    none_twice : later_ones related records ≡ []
    none_twice = no_later_ones related records (all_distinct vtoc layout sized is)
        (λ a b p q differ. (λ i. any_overlap (own_are a p i) (own_are b q i)) ∙ none_overlap (runs_in a) (runs_in b) (two_apart a b p q differ))

    pub no_bad_overlaps : bad_overlaps vtoc ≡ []
    no_bad_overlaps = ap (λ (found : List Placed). map (breach rules.Overlap) found) (λ i. none_alone i ++ none_twice i)

    -- ---- all extents

    same_records : HaveSame (filter has_set records) in_sets
    same_records = record {
      there = λ placed c. let m = from_filter has_set records placed c in has_set_there placed m.0 m.1;
      back = λ placed c. in_filter has_set records placed (set_there vtoc layout sized is placed c) (among in_sets placed c);
    }

    pub extents_permuted : IsPermutation (extents_in vtoc) (runs_by vtoc.heads layout)
    extents_permuted =
        let kept : List Placed = filter has_set records in
        let own : extents_in vtoc ≡ flat_map runs_in records = flat_same (own_runs vtoc) runs_in records own_are in
        let found : flat_map runs_in records ≡ flat_map runs_in kept =
        flat_kept runs_in has_set records (λ placed c e. ap (map (run_of vtoc.heads)) (no_set_bare placed c e)) in
        let moved : IsPermutation (flat_map runs_in kept) (flat_map runs_in in_sets) =
        flat_permuted runs_in kept in_sets (distinct_filter has_set records (all_distinct vtoc layout sized is)) (distinct_of_sets vtoc layout sized is) same_records in
        let P : List Run → Type 0 = λ runs. IsPermutation runs (runs_by vtoc.heads layout) in
        let Q : List Run → Type 0 = λ runs. IsPermutation (flat_map runs_in kept) runs in
        subst P (sym (own ∙ found)) (subst Q (sym (runs_by_records vtoc.heads layout)) moved)
