-- On a volume that passes the VTOC check one extent at most has given tracks.
use Rattle.std.proofs.Common.{◌≡◌, ℕ, ◌+◌, ◌≤◌, ◌==◌, ◌&&◌, List, [], ◌∷◌, ◌++◌, map, filter, Bool, true, false, if◌then◌else◌, Contains, inl, inr, refl, sym, ap, subst, ◌∙◌, arith}
use Rattle.std.specs.List.{AllByRecursion, flat_map, sum_by}
use Rattle.std.proofs.lemmas.Bool.{and_parts, both_ways, cases_Bool, eqb-true, lt-ltb}
use Rattle.std.proofs.lemmas.List.Elements.{All-contains, recursion_from_All}
use Rattle.std.proofs.lemmas.List.Sorted.{sum_by-IsPermutation}
use Rattle.std.proofs.lemmas.List.Sums.{sum_by-cons, sum_by-append}
use Rattle.ckd_image.specs.declared.head.Head.{Head}
use Rattle.ckd_image.specs.declared.track.Cchhr.{Cchhr}
use Rattle.ckd_image.specs.Device.{heads_of}
use Rattle.free_map.specs.declared.run.Run.{Run}
use Rattle.volume_model.specs.declared.extent.ExtentField.{ExtentField}
use Rattle.volume_model.specs.declared.place.Placed.{Placed}
use Rattle.volume_model.specs.declared.place.Vtoc.{Vtoc}
use Rattle.volume_model.specs.Check.{records_of}
use Rattle.volume_model.specs.Directory.{DirectoryRow, row_of, rows_of}
use Rattle.volume_model.specs.Dscbs.{format_of, is_f1}
use Rattle.volume_model.specs.Reads.{extent_in, AreDataSets, IsOnline}
use Rattle.volume_model.specs.Sound.{Slots, IsVtoc}
use Rattle.volume_model.specs.Space.{end_of, overlap, is_run, run_of, track_at}
use Rattle.volume_model.specs.Unit.{Extent, DataSet, OnlineVolume}
use Rattle.vtoc_check.proofs.Overlapping.{run_facts}
use Rattle.vtoc_check.proofs.Readings.{are_short}
use Rattle.vtoc_layout.specs.Layout.{IsLayoutOf, AreApart, AreExtentsApart, extents_in_set, extents_by, records_in_set, records_used, fives_in_order, set_of, sets_of, layout_of}
use Rattle.vtoc_layout.proofs.Distinct.{in_later, in_back, distinct_back}
use Rattle.layout_found.proofs.Extents.{extents_apart}
use Rattle.layout_found.proofs.Uses.{layout_right}
use Rattle.volume_model.proofs.OneText.{one_text_on}
use Rattle.unit_change.proofs.FormatFour.{four_there}

module _ (from len : ℕ) where
  -- ---- runs

  abbrev is_this : Run → Bool
  is_this run = (run.first == from) && (run.len == len)

  -- 1 where a run has these tracks, else 0
  abbrev counted : Run → ℕ
  counted run = if is_this run then 1 else 0

  not_counted : (run : Run) → is_this run ≡ false → counted run ≡ 0
  not_counted run not = ap (λ (b : Bool). if b then 1 else 0) not

  is_counted : (run : Run) → is_this run ≡ true → counted run ≡ 1
  is_counted run is = ap (λ (b : Bool). if b then 1 else 0) is

  -- two that have them overlap
  both_overlap : (run other : Run) → 1 ≤ run.len → is_this run ≡ true → is_this other ≡ true → overlap run other ≡ true
  both_overlap run other some is too =
      let p = and_parts (run.first == from) (run.len == len) is in
      let q = and_parts (other.first == from) (other.len == len) too in
      let first : run.first ≡ from = eqb-true run.first from p.0 in
      let long : run.len ≡ len = eqb-true run.len len p.1 in
      let other_first : other.first ≡ from = eqb-true other.first from q.0 in
      let other_long : other.len ≡ len = eqb-true other.len len q.1 in
      (λ i. lt-ltb run.first (end_of other) (omega (arith, some, first, long, other_first, other_long)) i
      && lt-ltb other.first (end_of run) (omega (arith, some, first, long, other_first, other_long)) i)

  abbrev pub extent_counted : Extent → ℕ
  extent_counted extent = counted extent.run

  abbrev pub set_counted : DataSet → ℕ
  set_counted set = sum_by extent_counted set.extents

  -- ---- extents of records

  module _ (heads : ℕ) where
    abbrev field_counted : ExtentField → ℕ
    field_counted field = counted (run_of heads field)

    none_counted : (run : Run) (fields : List ExtentField) → 1 ≤ run.len → is_this run ≡ true → AllByRecursion (λ other. overlap run other ≡ false) (map (run_of heads) fields)
        → sum_by field_counted fields ≡ 0
    none_counted run [] some is apart = refl
    none_counted run (field ∷ fields) some is apart = elim (cases_Bool (is_this (run_of heads field))) [
      | inl too ↦ absurd (both_ways (overlap run (run_of heads field)) apart.0 (both_overlap run (run_of heads field) some is too))
      | inr not ↦ omega (arith, sum_by-cons field_counted field fields, not_counted (run_of heads field) not, none_counted run fields some is apart.1)
    ]

    fields_once : (limit : ℕ) (fields : List ExtentField) → AllByRecursion (λ field. is_run heads limit field ≡ true) fields → AreApart (map (run_of heads) fields)
        → sum_by field_counted fields ≤ 1
    fields_once limit [] runs apart = omega arith
    fields_once limit (field ∷ fields) runs apart =
        let run = run_of heads field in
        elim (cases_Bool (is_this run)) [
          | inl is ↦
              (let none =
              none_counted run fields (run_facts heads limit field runs.0).1 is (recursion_from_All (λ (other : Run). overlap run other ≡ false) (map (run_of heads) fields) apart.0) in
              omega (arith, sum_by-cons field_counted field fields, is_counted run is, none))
          | inr not ↦ omega (arith, sum_by-cons field_counted field fields, not_counted run not, fields_once limit fields runs.1 apart.1)
        ]

    -- ---- rows

    abbrev row_counted : DirectoryRow → ℕ
    row_counted row = sum_by field_counted row.extents

    rows_of_sets : (vtoc : Vtoc) (ones : List Placed)
        → sum_by field_counted (flat_map extents_in_set (map (set_of vtoc) ones)) ≡ sum_by row_counted (map (row_of vtoc.heads (records_of vtoc)) ones)
    rows_of_sets vtoc [] = refl
    rows_of_sets vtoc (one ∷ ones) =
        let row = row_of vtoc.heads (records_of vtoc) one in
        sum_by-append field_counted row.extents (flat_map extents_in_set (map (set_of vtoc) ones))
        ∙ (λ i. row_counted row + rows_of_sets vtoc ones i)
        ∙ sym (sum_by-cons row_counted row (map (row_of vtoc.heads (records_of vtoc)) ones))

    -- ---- data sets

    extents_of_fields : (fields : List ExtentField) → sum_by extent_counted (map (extent_in heads) fields) ≡ sum_by field_counted fields
    extents_of_fields [] = refl
    extents_of_fields (field ∷ fields) =
        sum_by-cons extent_counted (extent_in heads field) (map (extent_in heads) fields)
        ∙ (λ i. field_counted field + extents_of_fields fields i)
        ∙ sym (sum_by-cons field_counted field fields)

    sets_of_rows : (place : ℕ → ℕ) (slots : Slots) (rows : List DirectoryRow) (sets : List DataSet) → AreDataSets heads place slots rows sets → sum_by set_counted sets ≡ sum_by row_counted rows
    sets_of_rows place slots [] [] are = refl
    sets_of_rows place slots [] (set ∷ sets) are = absurd are
    sets_of_rows place slots (row ∷ rows) [] are = absurd are
    sets_of_rows place slots (row ∷ rows) (set ∷ sets) are =
        let here : set_counted set ≡ row_counted row = ap (sum_by extent_counted) are.0.extents_are ∙ extents_of_fields row.extents in
        sum_by-cons set_counted set sets ∙ (λ i. here i + sets_of_rows place slots rows sets are.1 i) ∙ sym (sum_by-cons row_counted row rows)

-- ---- a volume

module _ (sliding : Bool) (place : ℕ → ℕ) (head : List ℕ) (blocks : ℕ) (slots : Slots) (volume : OnlineVolume) (on : IsOnline sliding place head blocks slots volume) where
  abbrev image : Head
  image = on.stands.image

  abbrev pointer : Cchhr
  pointer = on.found.label.vtoc

  abbrev vtoc : Vtoc
  vtoc = on.stands.vtoc

  abbrev is : IsVtoc image slots pointer sliding vtoc
  is = on.stands.vtoc_stands

  abbrev four : Placed
  four = record { place = vtoc.format_4; bytes = is.bytes }

  four_here : Contains (records_of vtoc) four
  four_here =
      let home = track_at (heads_of image.device) pointer.at in
      four_there image slots pointer sliding vtoc is on.stands.sound (omega (arith, on.stands.tracks_are, on.stands.head_stands.cylinders.1)) (one_text_on image.device home (slots home))

  laid_out : IsLayoutOf vtoc (layout_of vtoc four)
  laid_out = layout_right vtoc four (are_short (heads_of image.device) slots vtoc.run vtoc.tracks is.reading) four_here is.format_4.format refl on.stands.sound

  apart : AreExtentsApart vtoc (layout_of vtoc four)
  apart =
      let fives = fives_in_order vtoc in
      let in_sets : List Placed = flat_map records_in_set (sets_of vtoc) in
      extents_apart vtoc (layout_of vtoc four) on.stands.sound (distinct_back fives in_sets laid_out.once.1)
      (λ placed c.
      All-contains (Contains (records_of vtoc)) (records_used (layout_of vtoc four)) placed laid_out.there (in_later four placed (fives ++ in_sets) (in_back fives in_sets placed c)))

  heads_are : heads_of on.found.device ≡ vtoc.heads
  heads_are = ap heads_of on.stands.device_is ∙ sym is.heads_are

  pub sets_once : (from len : ℕ) → sum_by (set_counted from len) volume.sets ≤ 1
  sets_once from len =
      let heads = vtoc.heads in
      let found = rows_of heads (records_of vtoc) in
      let extents = extents_by (layout_of vtoc four) in
      let ones : List Placed = filter (λ placed. is_f1 (format_of placed.bytes)) (records_of vtoc) in
      let once : sum_by (field_counted from len heads) extents ≤ 1 =
      fields_once from len heads vtoc.limit extents (recursion_from_All (λ (field : ExtentField). is_run heads vtoc.limit field ≡ true) extents apart.ranges) apart.apart in
      let are : AreDataSets heads place slots on.found.rows volume.sets = subst (λ (n : ℕ). AreDataSets n place slots on.found.rows volume.sets) heads_are on.sets_are in
      omega (
        arith,
        once,
        rows_of_sets from len heads vtoc ones,
        sum_by-IsPermutation (row_counted from len heads) found on.found.rows on.stands.rows_are.same,
        sets_of_rows from len heads place slots on.found.rows volume.sets are,
      )
