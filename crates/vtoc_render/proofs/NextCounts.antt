-- The records that are used before and after a change.
use Rattle.std.proofs.Common.{◌≡◌, ℕ, suc, ◌+◌, ◌≤◌, List, [], ◌∷◌, ◌++◌, length, map, take, drop, Contains, Bool, true, false, Option, Some, None, refl, sym, ap, subst, ◌∙◌, arith}
use Rattle.std.specs.Prelude.{option_to_list, sum_by, is_some}
use Rattle.std.specs.List.{flat_map}
use Rattle.std.specs.List.Sorted.{IsPermutation}
use Rattle.std.proofs.lemmas.List.{length-map}
use Rattle.std.proofs.lemmas.List.Sums.{sum_by-append}
use Rattle.std.proofs.lemmas.List.Sorted.{IsPermutation-sym, IsPermutation-trans, Contains-permutation}
use Rattle.ckd_image.specs.declared.head.Head.{Head}
use Rattle.free_map.specs.Free.{Free}
use Rattle.vol_label.specs.declared.label.Label.{Label}
use Rattle.volume_model.specs.declared.place.Place.{Place}
use Rattle.volume_model.specs.declared.place.Placed.{Placed}
use Rattle.volume_model.specs.declared.place.Vtoc.{Vtoc}
use Rattle.volume_model.specs.Check.{records_of, same_bytes}
use Rattle.volume_model.specs.Directory.{DirectoryRow, rows_of}
use Rattle.volume_model.specs.Sound.{Slots}
use Rattle.vtoc_check.specs.Sized.{IsSized}
use Rattle.vtoc_core.specs.declared.volume.Row.{Row}
use Rattle.vtoc_core.specs.declared.volume.Volume.{Volume}
use Rattle.vtoc_core.specs.Loaded.{row_in, records_for, HasItsName}
use Rattle.vtoc_layout.specs.Layout.{SetRecords, Layout, IsLayoutOf, name_of, row_by, sets_of, layout_of}
use Rattle.vtoc_layout.proofs.Distinct.{from_map, one_of_map, no_more, distinct_filter, from_filter, in_filter}
use Rattle.vtoc_layout.proofs.Uses.{all_distinct, is_four, four_there}
use Rattle.vtoc_load.specs.Counted.{fours_of}
use Rattle.vtoc_load.proofs.Counting.{counted}
use Rattle.volume_model.specs.Dscbs.{format_of, is_f4}
use Rattle.vtoc_layout.proofs.Layouts.{rows}
use Rattle.vtoc_layout.proofs.Finds.{found_passes, none_passes}
use Rattle.layout_found.specs.Sets.{set_named}
use Rattle.layout_edit.specs.Change.{place_of}
use Rattle.vtoc_allot.specs.declared.held.Held.{Held}
use Rattle.vtoc_allot.specs.Allotted.{listed, one_if, held_count, wanted_count}
use Rattle.volume_change.specs.declared.spot.Spot.{Spot}
use Rattle.volume_change.specs.Spot.{behind, IsSpot, rows_with}
use Rattle.render_laws.specs.Rendered.{WasLoaded}
use Rattle.render_laws.proofs.Before.{has_layout}
use Rattle.render_laws.proofs.LayoutAfter.{length_fives}
use Rattle.vtoc_render.specs.Loads.{HoldsNamed}
use Rattle.vtoc_render.specs.Next.{used_by}
use Rattle.vtoc_render.specs.Steps.{IsSpotFor, gone_from, has_three, wanted_for}
use Rattle.vtoc_render.specs.Written.{volume_with}
use Rattle.vtoc_render.proofs.NextRows.{going, staying, found_goes, none_goes, IsPutAs}
use Rattle.ckd_image.proofs.Lists.{contains_map}
use Rattle.volume_model.proofs.Numbers.{bytes_itself, bytes_equal}

-- ---- a data set's row and its records

module _ {head : Head} {label : Label} {unit : Slots} {before : Bool} {slots : List ℕ} {volume : Volume} {vtoc : Vtoc} {four : Placed}
    (was : WasLoaded head label unit before slots volume vtoc four) where
  pub sets_and_rows : IsPermutation (map row_by (sets_of vtoc)) (map row_in volume.rows)
  sets_and_rows =
      let found = rows_of vtoc.heads (records_of vtoc) in
      let sets = map row_by (sets_of vtoc) in
      IsPermutation-trans sets found (map row_in volume.rows) (IsPermutation-sym found sets (rows vtoc (layout_of vtoc four) was.sized (has_layout was))) was.volume_is.rows_are.same

  pub record IsRowOf (set : SetRecords) : Type 0 where
    pub row : Row
    pub there : Contains volume.rows row
    pub same : row_in row ≡ row_by set
    pub named : row.name ≡ name_of set

  named_row : (row : Row) → Contains volume.rows row → row.name ≡ take 44 row.f1
  named_row row c = subst HasItsName c.2 (was.volume_is.names_are c.0 row c.1)

  pub row_of_set : (set : SetRecords) → Contains (sets_of vtoc) set → IsRowOf set
  row_of_set set c =
      let got = from_map row_in volume.rows (row_by set)
      (Contains-permutation (map row_by (sets_of vtoc)) (map row_in volume.rows) (row_by set) sets_and_rows (contains_map row_by (sets_of vtoc) set c)) in
      record {
        row = got.0;
        there = got.1;
        same = got.2;
        named = named_row got.0 got.1 ∙ ap (λ (d : DirectoryRow). take 44 d.format_1) got.2;
      }

  pub record IsSetOf (row : Row) : Type 0 where
    pub set : SetRecords
    pub there : Contains (sets_of vtoc) set
    pub same : row_by set ≡ row_in row
    pub named : name_of set ≡ row.name

  pub set_of_row : (row : Row) → Contains volume.rows row → IsSetOf row
  set_of_row row c =
      let got = from_map row_by (sets_of vtoc) (row_in row)
      (Contains-permutation (map row_in volume.rows) (map row_by (sets_of vtoc)) (row_in row) (IsPermutation-sym (map row_by (sets_of vtoc)) (map row_in volume.rows) sets_and_rows)
      (contains_map row_in volume.rows row c)) in
      record {
        set = got.0;
        there = got.1;
        same = got.2;
        named = ap (λ (d : DirectoryRow). take 44 d.format_1) got.2 ∙ sym (named_row row c);
      }

  -- the row that goes and the set that goes
  abbrev pub IsGone : Option Row → Option SetRecords → Type 0
  IsGone None None = Unit {0}
  IsGone (Some row) (Some set) = (Contains volume.rows row) × (row_by set ≡ row_in row)
  IsGone _ _ = ⊥

  pub gone_named : (name : List ℕ) (spot : Spot) → IsSpot volume.rows name spot → IsGone (gone_from volume.rows spot) (set_named vtoc name)
  gone_named name spot is = by (set_named vtoc name) refl
    where
      test : SetRecords → Bool
      test set = same_bytes (name_of set) name

      by : (found : Option SetRecords) → set_named vtoc name ≡ found → IsGone (gone_from volume.rows spot) found
      by None e =
          let stays = none_goes volume.rows name spot is
          (λ old c named. let s = set_of_row old c in
          none_passes test (sets_of vtoc) s.set e s.there (ap (λ (n : List ℕ). same_bytes n name) (s.named ∙ named) ∙ bytes_itself name)) in
          subst (λ (row : Option Row). IsGone row None) (sym (staying volume.rows spot stays).gone_is) tt
      by (Some set) e =
          let found = found_passes test (sets_of vtoc) set e in
          let named : name_of set ≡ name = bytes_equal (name_of set) name found.1 in
          let r = row_of_set set found.0 in
          let g = going volume.rows name spot is (found_goes volume.rows name spot is r.row r.there (r.named ∙ named)) in
          let s = set_of_row g.before g.there in
          let one : s.set ≡ set = one_of_map name_of (sets_of vtoc) s.set set (has_layout was).names s.there found.0 (s.named ∙ g.named ∙ sym named) in
          subst (λ (row : Option Row). IsGone row (Some set)) (sym g.gone_is) (g.there, ap row_by (sym one) ∙ s.same)

  -- ---- so many records

  gone_uses : (row : Option Row) (set : Option SetRecords) → IsGone row set
      → sum_by records_for (option_to_list row) ≡ length (map (λ (set : SetRecords). place_of set.one) (option_to_list set)) + length (flat_map (λ (set : SetRecords). map place_of set.threes) (option_to_list set))
  gone_uses None None gone = refl
  gone_uses None (Some set) gone = absurd gone
  gone_uses (Some row) None gone = absurd gone
  gone_uses (Some row) (Some set) gone =
      omega (arith, ap (λ (d : DirectoryRow). d.threes) gone.1, length-map set.threes place_of, nothing_more (map place_of set.threes))
    where
      nothing_more : (xs : List Place) → length (xs ++ []) ≡ length xs
      nothing_more [] = refl
      nothing_more (x ∷ xs) = ap suc (nothing_more xs)

  pub gone_held : (name : Option (List ℕ)) (spot : Spot) (held : Held) → IsSpotFor volume.rows name spot → HoldsNamed name held vtoc four
      → sum_by records_for (option_to_list (gone_from volume.rows spot)) ≡ length (listed held.one) + length held.threes
  gone_held None spot held is holds =
      omega (arith, ap length holds.one_is, ap length holds.threes_are, ap (λ (row : Option Row). sum_by records_for (option_to_list row)) (staying volume.rows spot is.1).gone_is)
  gone_held (Some name) spot held is holds =
      omega (arith, ap length holds.one_is, ap length holds.threes_are, gone_uses (gone_from volume.rows spot) (set_named vtoc name) (gone_named name spot is))

  pub fives_held : (name : Option (List ℕ)) (held : Held) → HoldsNamed name held vtoc four → length held.fives ≡ volume.fives
  fives_held name held holds =
      ap length holds.fives_are ∙ length-map (layout_of vtoc four).fives place_of ∙ sym (length_fives vtoc (layout_of vtoc four) was.sized (has_layout was)) ∙ sym was.volume_is.fives_are

-- ---- a VTOC's records are free or used

pub one_four : (vtoc : Vtoc) (layout : Layout) → IsSized vtoc → IsLayoutOf vtoc layout → length (fours_of vtoc) ≡ 1
one_four vtoc layout sized is =
    let is_here : Placed → Bool = λ placed. is_f4 (format_of placed.bytes) in
    let records = records_of vtoc in
    let most : length (fours_of vtoc) ≤ 1 =
    no_more (fours_of vtoc) (layout.four ∷ []) (distinct_filter is_here records (all_distinct vtoc layout sized is))
    (λ placed c. let from = from_filter is_here records placed c in (0, omega arith, sym (is_four vtoc layout sized is placed from.0 from.1))) in
    let there : Contains (fours_of vtoc) layout.four = in_filter is_here records layout.four (four_there vtoc layout sized is) (ap is_f4 is.four_is) in
    omega (arith, most, there.1)

module _ {head : Head} {label : Label} {unit : Slots} {before : Bool} {slots : List ℕ} {volume : Volume} {vtoc : Vtoc} {four : Placed}
    (was : WasLoaded head label unit before slots volume vtoc four) where
  pub count_before : volume.free_dscbs + used_by volume ≡ volume.dscbs
  count_before =
      omega (
        arith,
        counted vtoc volume.rows was.sized.short was.sound was.volume_is.rows_are,
        one_four vtoc (layout_of vtoc four) was.sized (has_layout was),
        was.volume_is.fives_are,
        was.volume_is.dscbs_are,
        was.volume_is.free_dscbs_are,
      )

-- ---- the rows use so many

put_uses : (put row : Option Row) → IsPutAs put row → sum_by records_for (option_to_list row) ≡ one_if (is_some put) + one_if (has_three put)
put_uses None None as_put = refl
put_uses None (Some row) as_put = absurd as_put
put_uses (Some given) None as_put = absurd as_put
put_uses (Some given) (Some row) as_put = omega (arith, as_put.0.threes_are)

sum_with : (rows : List Row) (spot : Spot) (row : Option Row)
    → sum_by records_for (rows_with rows spot row) ≡ sum_by records_for (take spot.place rows) + (sum_by records_for (option_to_list row) + sum_by records_for (drop (behind spot) rows))
sum_with rows spot row =
    omega (
      arith,
      sum_by-append records_for (take spot.place rows) (option_to_list row ++ drop (behind spot) rows),
      sum_by-append records_for (option_to_list row) (drop (behind spot) rows),
    )

pub same_with : (rows : List Row) (name : Option (List ℕ)) (spot : Spot) → IsSpotFor rows name spot → rows ≡ rows_with rows spot (gone_from rows spot)
same_with rows None spot is =
    let s = staying rows spot is.1 in
    s.rows_are ∙ ap (λ (row : Option Row). rows_with rows spot row) (sym s.gone_is)
same_with rows (Some name) spot is = by spot.goes refl
  where
    by : (b : Bool) → spot.goes ≡ b → rows ≡ rows_with rows spot (gone_from rows spot)
    by true e = let g = going rows name spot is e in g.rows_are ∙ ap (λ (row : Option Row). rows_with rows spot row) (sym g.gone_is)
    by false e = let s = staying rows spot e in s.rows_are ∙ ap (λ (row : Option Row). rows_with rows spot row) (sym s.gone_is)

module _ {head : Head} {label : Label} {unit : Slots} {before : Bool} {slots : List ℕ} {volume : Volume} {vtoc : Vtoc} {four : Placed}
    (was : WasLoaded head label unit before slots volume vtoc four) where
  pub used_after : (name : Option (List ℕ)) (spot : Spot) (held : Held) (put row : Option Row) (free : Free) (left : ℕ) → IsSpotFor volume.rows name spot → HoldsNamed name held vtoc four
      → IsPutAs put row
      → used_by (volume_with volume spot row free left) + held_count held ≡ used_by volume + wanted_count (wanted_for put (length free.runs))
  used_after name spot held put row free left is holds as_put =
      omega (
        arith,
        gone_held was name spot held is holds,
        fives_held was name held holds,
        put_uses put row as_put,
        sum_with volume.rows spot row,
        sum_with volume.rows spot (gone_from volume.rows spot),
        ap (sum_by records_for) (same_with volume.rows name spot is),
      )
