-- The tracks and records of a volume that is loaded.
use Rattle.std.proofs.Common.{◌≡◌, ℕ, ◌+◌, ◌≤◌, ◌==◌, ◌&&◌, ◌||◌, not, nat_lt, List, [], ◌∷◌, length, map, Contains, Bool, false, refl, sym, ap, subst, ◌∙◌, arith}
use Rattle.std.specs.List.{flat_map, list_any}
use Rattle.std.specs.List.Sorted.{IsPermutation}
use Rattle.std.proofs.lemmas.List.Elements.{All-contains}
use Rattle.std.proofs.lemmas.List.Folds.{flat_map-map}
use Rattle.std.proofs.lemmas.List.Sorted.{list_any-IsPermutation, Contains-permutation, IsPermutation-sym, IsPermutation-trans, IsPermutation-map}
use Rattle.ckd_image.specs.declared.head.Head.{Head}
use Rattle.ckd_image.specs.Address.{address_of}
use Rattle.ckd_image.specs.Device.{heads_of}
use Rattle.free_map.specs.declared.run.Run.{Run}
use Rattle.free_map.specs.Free.{IsFree}
use Rattle.free_map.specs.Runs.{HasTrack, InRuns}
use Rattle.vol_label.specs.declared.label.Label.{Label}
use Rattle.volume_model.specs.declared.format.Format.TheVariants.{F4}
use Rattle.volume_model.specs.declared.place.Placed.{Placed}
use Rattle.volume_model.specs.declared.place.Vtoc.{Vtoc}
use Rattle.volume_model.specs.Check.{track_0, records_of, extents_in, usable_in}
use Rattle.volume_model.specs.Directory.{DirectoryRow, rows_of}
use Rattle.volume_model.specs.Dscbs.{format_of}
use Rattle.volume_model.specs.Sound.{Slots}
use Rattle.volume_model.specs.Space.{end_of, has_track, overlap, run_of, is_free}
use Rattle.vtoc_core.specs.declared.volume.Row.{Row}
use Rattle.vtoc_core.specs.declared.volume.Volume.{Volume}
use Rattle.vtoc_core.specs.Loaded.{row_in}
use Rattle.vtoc_layout.specs.Layout.{SetRecords, IsLayoutOf, AreExtentsApart, AreDistinct, layout_of, sets_of, row_by, name_of, extents_in_set}
use Rattle.vtoc_layout.proofs.Apart.{map_flat}
use Rattle.vtoc_layout.proofs.Distinct.{at_first, in_later, in_flat, from_flat}
use Rattle.vtoc_layout.proofs.FreeRules.{held_in, held_by}
use Rattle.vtoc_layout.proofs.ExtentRules.{extents_permuted}
use Rattle.vtoc_layout.proofs.Layouts.{rows}
use Rattle.vtoc_load.specs.LoadedVtoc.{IsLoadedVtoc}
use Rattle.vtoc_load.proofs.Counting.{counted}
use Rattle.vtoc_load.proofs.Usable.{usable_least}
use Rattle.layout_found.proofs.Found.{found_layout}
use Rattle.layout_edit.specs.Space.{runs_in_sets}
use Rattle.volume_change.specs.Runs.{runs_in}
use Rattle.vtoc_render.specs.Next.{runs_of_rows, used_by}
use Rattle.vtoc_render.proofs.LoadsPlan.{nothing_more}
use Rattle.vtoc_render.proofs.NextCounts.{one_four}
use Rattle.vtoc_render.proofs.PlacedTracks.{IsUnused, unused_free, free_unused, none_shared}
use Rattle.volume_model.proofs.Addresses.{one_text_anywhere}
use Rattle.unit_change.proofs.FormatFour.{home_of, four_there}
use Rattle.unit_change.proofs.OneOrder.{name_in, distinct_moved}

-- ---- tracks of lists of runs

-- the runs of elements in another order have the same tracks
moved : {X : Type 0} (f : X → List Run) (xs ys : List X) (track : ℕ) → IsPermutation xs ys → InRuns (flat_map f xs) track → InRuns (flat_map f ys) track
moved f xs ys track same h =
    let run = held_by (flat_map f xs) track h in
    let x = from_flat f xs run.0 run.1 in
    held_in (flat_map f ys) run.0 track (in_flat f ys x.0 run.0 (Contains-permutation xs ys x.0 same x.1) x.2) run.2

abbrev runs_of_row : ℕ → DirectoryRow → List Run
runs_of_row heads row = map (run_of heads) row.extents

same_runs : (volume : Volume) (rows : List Row) → runs_of_rows volume rows ≡ flat_map (runs_of_row (heads_of volume.device)) (map row_in rows)
same_runs volume rows = sym (flat_map-map (runs_of_row (heads_of volume.device)) row_in rows)

same_in_sets : (heads : ℕ) (sets : List SetRecords) → runs_in_sets heads sets ≡ flat_map (runs_of_row heads) (map row_by sets)
same_in_sets heads sets = map_flat (run_of heads) extents_in_set sets ∙ sym (flat_map-map (runs_of_row heads) row_by sets)

names_of : (sets : List SetRecords) → map name_in (map row_by sets) ≡ map name_of sets
names_of [] = refl
names_of (set ∷ sets) = (λ i. name_of set ∷ names_of sets i)

-- ---- a loaded volume

module _ {head : Head} {label : Label} {slots : Slots} {sliding : Bool} {loaded : Volume} (is : IsLoadedVtoc head label slots sliding loaded)
    (small : head.tracks ≤ 65535) (short : length (slots (home_of head label.vtoc)) ≤ 65536) where
  abbrev vtoc : Vtoc
  vtoc = is.vtoc

  abbrev pub four : Placed
  four = record { place = is.vtoc.format_4; bytes = is.four }

  pub four_here : Contains (records_of is.vtoc) four
  four_here =
      subst (λ (bytes : List ℕ). Contains (records_of vtoc) (record { place = vtoc.format_4; bytes = bytes })) (sym is.stands.four_is)
      (four_there head slots label.vtoc sliding vtoc is.stands.stands is.sound small
      (λ a b one other. one_text_anywhere (address_of (heads_of head.device) (home_of head label.vtoc)) (slots (home_of head label.vtoc)) a b short one other))

  four_format : format_of is.four ≡ F4
  four_format = ap format_of is.stands.four_is ∙ is.stands.stands.format_4.format

  laid_out : IsLayoutOf vtoc (layout_of vtoc four)
  laid_out = (found_layout vtoc four is.sized four_here four_format refl is.sound).0

  apart : AreExtentsApart vtoc (layout_of vtoc four)
  apart = (found_layout vtoc four is.sized four_here four_format refl is.sound).2

  -- ---- its rows

  found_and_sets : IsPermutation (rows_of vtoc.heads (records_of vtoc)) (map row_by (sets_of vtoc))
  found_and_sets = rows vtoc (layout_of vtoc four) is.sized laid_out

  pub own_names : AreDistinct (map name_in (rows_of is.vtoc.heads (records_of is.vtoc)))
  own_names =
      let found = rows_of vtoc.heads (records_of vtoc) in
      let sets = map row_by (sets_of vtoc) in
      distinct_moved (map name_in found) (map name_in sets) (subst AreDistinct (sym (names_of (sets_of vtoc))) laid_out.names)
      (IsPermutation-map name_in sets found (IsPermutation-sym found sets found_and_sets))

  sets_and_rows : IsPermutation (map row_by (sets_of vtoc)) (map row_in loaded.rows)
  sets_and_rows =
      let found = rows_of vtoc.heads (records_of vtoc) in
      let sets = map row_by (sets_of vtoc) in
      IsPermutation-trans sets found (map row_in loaded.rows) (IsPermutation-sym found sets found_and_sets) is.volume.rows_are.same

  -- ---- its tracks

  pub heads_same : heads_of loaded.device ≡ is.vtoc.heads
  heads_same = ap heads_of is.volume.device_is ∙ sym is.stands.stands.heads_are

  abbrev by_rows : List Run
  by_rows = runs_of_rows loaded loaded.rows

  abbrev by_sets : List Run
  by_sets = runs_in_sets vtoc.heads (sets_of vtoc)

  rows_are : by_rows ≡ flat_map (runs_of_row vtoc.heads) (map row_in loaded.rows)
  rows_are = same_runs loaded loaded.rows ∙ ap (λ (heads : ℕ). flat_map (runs_of_row heads) (map row_in loaded.rows)) heads_same

  to_sets : (track : ℕ) → InRuns by_rows track → InRuns by_sets track
  to_sets track h =
      let sets = map row_by (sets_of vtoc) in
      let found = map row_in loaded.rows in
      subst (λ (runs : List Run). InRuns runs track) (sym (same_in_sets vtoc.heads (sets_of vtoc)))
      (moved (runs_of_row vtoc.heads) found sets track (IsPermutation-sym sets found sets_and_rows) (subst (λ (runs : List Run). InRuns runs track) rows_are h))

  from_sets : (track : ℕ) → InRuns by_sets track → InRuns by_rows track
  from_sets track h =
      subst (λ (runs : List Run). InRuns runs track) (sym rows_are)
      (moved (runs_of_row vtoc.heads) (map row_by (sets_of vtoc)) (map row_in loaded.rows) track sets_and_rows
      (subst (λ (runs : List Run). InRuns runs track) (same_in_sets vtoc.heads (sets_of vtoc)) h))

  permuted : IsPermutation (extents_in vtoc) by_sets
  permuted = extents_permuted vtoc (layout_of vtoc four) is.sized laid_out apart

  -- whether a track is free, by the data sets
  same_free : (track : ℕ) → is_free loaded.usable vtoc.run (extents_in vtoc) track ≡ is_free loaded.usable vtoc.run by_sets track
  same_free track = by (list_any-IsPermutation (has_track track) (extents_in vtoc) by_sets permuted)
    where
      by : list_any (has_track track) (extents_in vtoc) ≡ list_any (has_track track) by_sets
          → is_free loaded.usable vtoc.run (extents_in vtoc) track ≡ is_free loaded.usable vtoc.run by_sets track
      by same = ap (λ (b : Bool). nat_lt track loaded.usable && not ((track == 0) || has_track track vtoc.run || b)) same

  pub free_unused_by_rows : (track : ℕ) → IsFree loaded.free track → IsUnused loaded.usable is.vtoc.run (runs_of_rows loaded loaded.rows) track
  free_unused_by_rows track h =
      let unused = unused_free loaded.usable vtoc.run by_sets track (sym (same_free track) ∙ (is.volume.space.free_are.exact track).1 h) in
      record { below = unused.below; some = unused.some; off = unused.off; none = λ held. unused.none (to_sets track held) }

  pub unused_by_rows_free : (track : ℕ) → IsUnused loaded.usable is.vtoc.run (runs_of_rows loaded loaded.rows) track → IsFree loaded.free track
  unused_by_rows_free track unused =
      let by_layout : IsUnused loaded.usable vtoc.run by_sets track = record { below = unused.below; some = unused.some; off = unused.off; none = λ held. unused.none (from_sets track held) } in
      (is.volume.space.free_are.exact track).0 (same_free track ∙ free_unused loaded.usable vtoc.run by_sets track by_layout)

  -- a track of a data set isn't one of the VTOC
  pub rows_off_vtoc : (track : ℕ) → InRuns (runs_of_rows loaded loaded.rows) track → ¬ HasTrack is.vtoc.run track
  rows_off_vtoc track h held =
      let run = held_by by_sets track (to_sets track h) in
      none_shared run.0 vtoc.run track (All-contains (λ (r : Run). overlap r vtoc.run ≡ false) by_sets run.0 apart.off_vtoc run.1) run.2 held

  -- the tracks of the VTOC are usable
  pub vtoc_usable : end_of is.vtoc.run ≤ loaded.usable
  vtoc_usable =
      omega (
        arith,
        is.volume.space.usable_is,
        All-contains (λ (r : Run). end_of r ≤ usable_in vtoc) (track_0 ∷ vtoc.run ∷ extents_in vtoc) vtoc.run (usable_least vtoc)
            (in_later track_0 vtoc.run (vtoc.run ∷ extents_in vtoc) (at_first vtoc.run (extents_in vtoc))),
      )

  -- ---- its records

  pub all_counted : loaded.free_dscbs + used_by loaded ≡ loaded.dscbs
  all_counted =
      omega (
        arith,
        counted vtoc loaded.rows is.sized.short is.sound is.volume.rows_are,
        one_four vtoc (layout_of vtoc four) is.sized laid_out,
        is.volume.fives_are,
        is.volume.dscbs_are,
        is.volume.free_dscbs_are,
      )

-- ---- tracks of one row

-- the tracks of one row are tracks of all
pub in_all_rows : (volume : Volume) (row : Row) (track : ℕ) → Contains volume.rows row → InRuns (runs_of_rows volume (row ∷ [])) track → InRuns (runs_of_rows volume volume.rows) track
in_all_rows volume row track there h =
    let f : Row → List Run = λ row. runs_in (heads_of volume.device) row.extents in
    let run = held_by (f row) track (subst (λ (runs : List Run). InRuns runs track) (nothing_more (f row)) h) in
    held_in (flat_map f volume.rows) run.0 track (in_flat f volume.rows row run.0 there run.1) run.2
