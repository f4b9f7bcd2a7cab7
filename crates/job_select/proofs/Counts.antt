-- How many tracks and extents a data set of a loaded volume has, and several have together.
use Rattle.std.proofs.Common.{◌≡◌, ◌≢◌, inl, inr, ℕ, zero, suc, ◌+◌, ◌<◌, ◌≤◌, ◌&&◌, List, [], ◌∷◌, ◌++◌, length, map, sum_by, All, Contains, false, true, refl, sym, ap, subst, ◌∙◌, arith}
use Rattle.std.specs.List.{flat_map}
use Rattle.std.proofs.lemmas.Bool.{both_ways, cases_eq, lt-ltb}
use Rattle.std.proofs.lemmas.List.{length-append, length-map}
use Rattle.std.proofs.lemmas.List.Elements.{All-contains, All-head, All-tail}
use Rattle.std.proofs.lemmas.List.Sums.{sum_by-cons}
use Rattle.std.proofs.lemmas.Grind.{flat_map-append}
use Rattle.ckd_image.specs.Device.{heads_of}
use Rattle.dscb_rec.specs.declared.field.Extent.{Extent as Field}
use Rattle.free_map.specs.declared.run.Run.{Run}
use Rattle.volume_model.specs.Dscbs.{numbers_below}
use Rattle.volume_model.specs.Space.{end_of, overlap, is_run, run_of}
use Rattle.volume_model.specs.Unit.{Extent, run_in, tracks_in, tracks_of}
use Rattle.vtoc_check.proofs.Overlapping.{run_facts}
use Rattle.vtoc_core.specs.declared.volume.Row.{Row}
use Rattle.vtoc_core.specs.declared.volume.Volume.{Volume}
use Rattle.vtoc_core.specs.Loaded.{field_of}
use Rattle.vtoc_layout.specs.Layout.{AreDistinct, AreApart}
use Rattle.vtoc_layout.proofs.Apart.{NoneShared, all_from, apart_flat, map_flat}
use Rattle.volume_change.specs.Runs.{runs_in}
use Rattle.vtoc_layout.proofs.Distinct.{at_first, in_front, in_back, from_map, from_flat, distinct_append, no_more, in_below, below_distinct, shifted_distinct}
use Rattle.step_plans.proofs.vtoc_render.Known.{usable_small}
use Rattle.step_plans.proofs.unit_change.Describing.{runs_in_row}
use Rattle.step_plans.proofs.unit_steps.Blocks.{from_slots}
use Rattle.step_plans.specs.Plans.{IsSound, extents_from}
use Rattle.step_plans.proofs.LoadedRows.{IsLoadedRow, sound_apart, sound_row}
use Rattle.job_select.proofs.Wholes.{on}
use Rattle.ckd_image.proofs.Lists.{contains_map}
use Rattle.volume_model.proofs.Numbers.{numbers_long}

-- ---- the tracks of a run

below_in : (n k : ℕ) → k < n → Contains (numbers_below n) k
below_in zero k less = absurd (omega (arith, less))
below_in (suc n) k less = elim (cases_eq n k) [
  | inl same ↦ in_back (numbers_below n) (n ∷ []) k (subst (Contains (n ∷ [])) same (at_first n []))
  | inr apart ↦ in_front (numbers_below n) (n ∷ []) k (below_in n k (omega (arith, less, apart)))
]

pub tracks_long : (run : Run) → length (tracks_in run) ≡ run.len
tracks_long run = length-map (numbers_below run.len) (λ place. run.first + place) ∙ numbers_long run.len

in_run : (run : Run) (track : ℕ) → Contains (tracks_in run) track → (run.first ≤ track) × (track < end_of run)
in_run run track there =
    let found = from_map (λ (place : ℕ). run.first + place) (numbers_below run.len) track there in
    let less : found.0 < run.len = in_below run.len found.0 found.1 in
    let is : run.first + found.0 ≡ track = found.2 in
    (omega (arith, is), omega (arith, is, less))

none_shared : (a b : Run) (track : ℕ) → overlap a b ≡ false → (a.first ≤ track) × (track < end_of a) → (b.first ≤ track) × (track < end_of b) → ⊥
none_shared a b track none here there =
    both_ways (overlap a b) none (λ i. lt-ltb a.first (end_of b) (omega (arith, here.0, there.1)) i && lt-ltb b.first (end_of a) (omega (arith, there.0, here.1)) i)

-- ---- the tracks of extents

tracks_distinct : (extents : List Extent) → AreApart (map run_in extents) → AreDistinct (tracks_of extents)
tracks_distinct [] apart = tt
tracks_distinct (extent ∷ extents) apart =
    distinct_append (tracks_in extent.run) (tracks_of extents) (shifted_distinct extent.run.first (numbers_below extent.run.len) (below_distinct extent.run.len)) (tracks_distinct extents apart.1)
    (λ track here there. let found = from_flat (λ (e : Extent). tracks_in e.run) extents track there in
    none_shared extent.run found.0.run track
    (All-contains (λ (run : Run). overlap extent.run run ≡ false) (map run_in extents) found.0.run apart.0 (contains_map run_in extents found.0 found.1))
    (in_run extent.run track here) (in_run found.0.run track found.2))

-- runs that are apart and end below some track have no more tracks than there are below it
tracks_few : (limit : ℕ) (extents : List Extent) → AreApart (map run_in extents) → All (λ extent. end_of extent.run ≤ limit) extents → length (tracks_of extents) ≤ limit
tracks_few limit extents apart below =
    omega (
      arith,
      no_more (tracks_of extents) (numbers_below limit) (tracks_distinct extents apart)
          (λ track there. let found = from_flat (λ (e : Extent). tracks_in e.run) extents track there in
          below_in limit track (omega (arith, (in_run found.0.run track found.2).1, All-contains (λ (e : Extent). end_of e.run ≤ limit) extents found.0 below found.1))),
      numbers_long limit,
    )

-- extents of at least one track are no more than their tracks
extents_few : (extents : List Extent) → All (λ extent. 1 ≤ extent.run.len) extents → length extents ≤ length (tracks_of extents)
extents_few [] some = omega arith
extents_few (extent ∷ extents) some =
    omega (
      arith,
      All-head (λ (e : Extent). 1 ≤ e.run.len) extent extents some,
      extents_few extents (All-tail (λ (e : Extent). 1 ≤ e.run.len) extent extents some),
      tracks_long extent.run,
      length-append (tracks_in extent.run) (tracks_of extents),
    )

-- ---- a row

module _ (volume : Volume) (sound : IsSound volume) (row : Row) (there : Contains volume.rows row) where
  known : IsLoadedRow volume row
  known = sound_row volume sound row there

  facts : (extent : Field) → Contains row.extents extent → (end_of (run_of (heads_of volume.device) (field_of extent)) ≤ 65535) × (1 ≤ (run_of (heads_of volume.device) (field_of extent)).len)
  facts extent c =
      let is = run_facts (heads_of volume.device) volume.usable (field_of extent) (All-contains (λ (e : Field). is_run (heads_of volume.device) volume.usable (field_of e) ≡ true) row.extents extent known.ranges c) in
      (omega (arith, is.0, usable_small (from_slots sound.3)), is.1)

  each : (P : Extent → Type 0) → ((extent : Field) → Contains row.extents extent → P (on volume.device extent)) → All P (extents_from volume.device row.extents)
  each P h = all_from P (extents_from volume.device row.extents) (λ e c. let found = from_map (on volume.device) row.extents e c in subst P found.2 (h found.0 found.1))

  pub row_tracks_few : length (tracks_of (extents_from volume.device row.extents)) ≤ 65535
  row_tracks_few =
      tracks_few 65535 (extents_from volume.device row.extents) (subst AreApart (sym (runs_in_row (heads_of volume.device) row.extents)) known.apart)
      (each (λ e. end_of e.run ≤ 65535) (λ extent c. (facts extent c).0))

  pub row_extents_few : length row.extents ≤ 65535
  row_extents_few =
      omega (
        arith,
        row_tracks_few,
        extents_few (extents_from volume.device row.extents) (each (λ e. 1 ≤ e.run.len) (λ extent c. (facts extent c).1)),
        length-map row.extents (on volume.device),
      )

-- ---- several data sets

tracks_append : (xs ys : List Extent) → tracks_of (xs ++ ys) ≡ tracks_of xs ++ tracks_of ys
tracks_append xs ys = flat_map-append (λ (extent : Extent). tracks_in extent.run) xs ys

module _ (volume : Volume) (sound : IsSound volume) where
  abbrev extents : Row → List Extent
  extents row = extents_from volume.device row.extents

  abbrev count : Row → ℕ
  count row = length (tracks_of (extents row))

  abbrev runs_of : Row → List Run
  runs_of row = map run_in (extents row)

  counted : (rows : List Row) → length (tracks_of (flat_map extents rows)) ≡ sum_by count rows
  counted [] = refl
  counted (row ∷ rows) =
      ap length (tracks_append (extents row) (flat_map extents rows)) ∙ length-append (tracks_of (extents row)) (tracks_of (flat_map extents rows))
      ∙ ap (λ (n : ℕ). count row + n) (counted rows) ∙ sym (sum_by-cons count row rows)

  runs_apart : (rows : List Row) → AreDistinct rows → ((row : Row) → Contains rows row → Contains volume.rows row)
      → ((row other : Row) → Contains rows row → Contains rows other → row ≢ other → row.name ≢ other.name) → AreApart (map run_in (flat_map extents rows))
  runs_apart rows once there names =
      subst AreApart (sym (map_flat run_in extents rows))
      (apart_flat runs_of rows once
      (λ row c. subst AreApart (sym (runs_in_row (heads_of volume.device) row.extents)) (sound_row volume sound row (there row c)).apart)
      (λ row other c d differ.
      subst (λ (runs : List Run). NoneShared runs (runs_of other)) (sym (runs_in_row (heads_of volume.device) row.extents))
      (subst (NoneShared (runs_in (heads_of volume.device) row.extents)) (sym (runs_in_row (heads_of volume.device) other.extents))
      (sound_apart volume sound row other (there row c) (there other d) (names row other c d differ)))))

  ends_below : (rows : List Row) → ((row : Row) → Contains rows row → Contains volume.rows row) → All (λ extent. end_of extent.run ≤ 65535) (flat_map extents rows)
  ends_below rows there =
      all_from (λ (extent : Extent). end_of extent.run ≤ 65535) (flat_map extents rows)
      (λ extent c. let found = from_flat extents rows extent c in
      let known = sound_row volume sound found.0 (there found.0 found.1) in
      let field = from_map (on volume.device) found.0.extents extent found.2 in
      let is = run_facts (heads_of volume.device) volume.usable (field_of field.0)
      (All-contains (λ (e : Field). is_run (heads_of volume.device) volume.usable (field_of e) ≡ true) found.0.extents field.0 known.ranges field.1) in
      omega (arith, is.0, usable_small (from_slots sound.3), ap (λ (e : Extent). end_of e.run) field.2))

  -- data sets of different names have no more tracks together than a volume has
  pub rows_tracks_few : (rows : List Row) → AreDistinct rows → ((row : Row) → Contains rows row → Contains volume.rows row)
      → ((row other : Row) → Contains rows row → Contains rows other → row ≢ other → row.name ≢ other.name)
      → sum_by (λ row. length (tracks_of (extents_from volume.device row.extents))) rows ≤ 65535
  rows_tracks_few rows once there names = omega (arith, counted rows, tracks_few 65535 (flat_map extents rows) (runs_apart rows once there names) (ends_below rows there))
