-- The rows of a volume as it was loaded: no two have one name, or a track in common.
use Rattle.std.proofs.Common.{◌≡◌, ◌≢◌, ℕ, ◌<◌, ◌≤◌, ◌==◌, not, nat_lt, List, [], ◌∷◌, ◌++◌, length, map, Bool, Contains, true, false, refl, sym, ap, subst, ◌∙◌, arith}
use Rattle.std.specs.Prelude.{if◌then◌else◌}
use Rattle.std.specs.List.{flat_map}
use Rattle.std.proofs.lemmas.Bool.{le-ltb}
use Rattle.std.proofs.lemmas.List.{length-append, length-map}
use Rattle.std.proofs.lemmas.List.Elements.{All-contains}
use Rattle.std.proofs.lemmas.List.Sums.{length-filter, count_by-le-length}
use Rattle.ckd_image.specs.declared.head.Head.{Head}
use Rattle.ckd_image.specs.Device.{heads_of}
use Rattle.free_map.specs.declared.run.Run.{Run}
use Rattle.free_map.specs.Free.{IsFree}
use Rattle.free_map.specs.Runs.{HasTrack, InRuns}
use Rattle.vol_label.specs.declared.label.Label.{Label}
use Rattle.volume_model.specs.declared.extent.ExtentField.{ExtentField}
use Rattle.volume_model.specs.declared.format.Format.{Format}
use Rattle.volume_model.specs.declared.format.Format.TheVariants.{F1}
use Rattle.volume_model.specs.declared.place.Placed.{Placed}
use Rattle.volume_model.specs.declared.place.Vtoc.{Vtoc}
use Rattle.volume_model.specs.Changed.{threes_for}
use Rattle.volume_model.specs.Check.{track_0, records_of, extents_in}
use Rattle.volume_model.specs.Directory.{DirectoryRow}
use Rattle.volume_model.specs.Dscbs.{format_of, extents_of, extent_at, extent_offsets}
use Rattle.volume_model.specs.Sound.{Slots}
use Rattle.volume_model.specs.Space.{end_of, overlap, run_of}
use Rattle.vtoc_core.specs.declared.volume.Row.{Row}
use Rattle.vtoc_core.specs.declared.volume.Volume.{Volume}
use Rattle.vtoc_core.specs.Loaded.{field_of}
use Rattle.vtoc_layout.specs.Layout.{SetRecords, AreSetRecords, AreApart, layout_of, sets_of, extents_in_set, runs_by, name_of}
use Rattle.vtoc_layout.proofs.Apart.{NoneShared, apart_two, map_flat}
use Rattle.vtoc_layout.proofs.Distinct.{from_flat, in_flat, in_later, one_of_map}
use Rattle.vtoc_layout.proofs.FreeRules.{held_in, held_by}
use Rattle.volume_change.specs.Runs.{runs_in}
use Rattle.step_plans.specs.render_laws.Rendered.{WasLoaded}
use Rattle.step_plans.proofs.render_laws.Before.{has_layout, apart, ends, extent_there}
use Rattle.step_plans.specs.vtoc_render.Next.{runs_of_rows}
use Rattle.step_plans.proofs.vtoc_render.NextCounts.{set_of_row}
use Rattle.step_plans.proofs.vtoc_render.PlacedTakes.{heads_same}
use Rattle.step_plans.proofs.vtoc_render.PlacedTracks.{none_shared}
use Rattle.step_plans.proofs.unit_change.LoadedTracks.{free_unused_by_rows, in_all_rows}
use Rattle.step_plans.proofs.unit_steps.Blocks.{few, from_slots, home_short}
use Rattle.step_plans.specs.Plans.{IsSound}
use Rattle.step_plans.proofs.RowNames.{named, names_differ}

-- ---- names

pub one_row : (volume : Volume) → IsSound volume → (a b : Row) → Contains volume.rows a → Contains volume.rows b → a.name ≡ b.name → a ≡ b
one_row volume sound a b here there same = one_of_map named volume.rows a b (names_differ volume sound) here there same

-- ---- tracks

abbrev pub runs_for : Volume → Row → List Run
runs_for volume row = runs_in (heads_of volume.device) row.extents

-- a track of rows is one of some row
pub row_with : (volume : Volume) (rows : List Row) (track : ℕ) → InRuns (runs_of_rows volume rows) track → (row : Row) × Contains rows row × InRuns (runs_for volume row) track
row_with volume rows track h =
    let run = held_by (runs_of_rows volume rows) track h in
    let row = from_flat (λ (row : Row). runs_in (heads_of volume.device) row.extents) rows run.0 run.1 in
    (row.0, row.1, held_in (runs_for volume row.0) run.0 track row.2 run.2)

-- a usable track that isn't one of the volume's own
pub record IsSetTrack (volume : Volume) (track : ℕ) : Type 0 where
  pub usable : track < volume.usable
  pub not_0 : track ≢ 0
  pub not_vtoc : ¬ HasTrack volume.vtoc track

module _ {head : Head} {label : Label} {unit : Slots} {before : Bool} {slots : List ℕ} {volume : Volume} {vtoc : Vtoc} {four : Placed}
    (was : WasLoaded head label unit before slots volume vtoc four) where
  abbrev runs_with : SetRecords → List Run
  runs_with set = map (run_of vtoc.heads) (extents_in_set set)

  runs_are : (row : Row) (c : Contains volume.rows row) → runs_for volume row ≡ runs_with (set_of_row was row c).set
  runs_are row c =
      let fields : map field_of row.extents ≡ extents_in_set (set_of_row was row c).set = ap (λ (d : DirectoryRow). d.extents) (sym (set_of_row was row c).same) in
      (λ i. map (run_of (heads_same was i)) (fields i))

  all_runs : runs_by vtoc.heads (layout_of vtoc four) ≡ flat_map runs_with (sets_of vtoc)
  all_runs = map_flat (run_of vtoc.heads) extents_in_set (sets_of vtoc)

  run_there : (row : Row) → Contains volume.rows row → (run : Run) → Contains (runs_for volume row) run → Contains (runs_by vtoc.heads (layout_of vtoc four)) run
  run_there row c run in_row =
      let set = set_of_row was row c in
      subst (λ (runs : List Run). Contains runs run) (sym all_runs)
      (in_flat runs_with (sets_of vtoc) set.set run set.there (subst (λ (runs : List Run). Contains runs run) (runs_are row c) in_row))

  row_track : (row : Row) → Contains volume.rows row → (track : ℕ) → InRuns (runs_for volume row) track → IsSetTrack volume track
  row_track row c track h =
      let at = held_by (runs_for volume row) track h in
      let run = at.0 in
      let there = run_there row c run at.1 in
      let within : end_of run ≤ volume.usable =
      ends was run (in_later track_0 run (vtoc.run ∷ extents_in vtoc) (in_later vtoc.run run (extents_in vtoc) (extent_there was run there))) in
      let all = runs_by vtoc.heads (layout_of vtoc four) in
      record {
        usable = omega (arith, within, at.2.1);
        not_0 = λ same. none_shared run track_0 track (All-contains (λ (r : Run). overlap r track_0 ≡ false) all run (apart was).off_track_0 there) at.2 (omega arith, omega (arith, same));
        not_vtoc =
            λ held. none_shared run vtoc.run track (All-contains (λ (r : Run). overlap r vtoc.run ≡ false) all run (apart was).off_vtoc there) at.2
            (subst (λ (r : Run). HasTrack r track) was.volume_is.vtoc_is held);
      }

  none_in_two : (a b : Row) → Contains volume.rows a → Contains volume.rows b → a.name ≢ b.name → (track : ℕ) → InRuns (runs_for volume a) track → ¬ InRuns (runs_for volume b) track
  none_in_two a b p q differ track here there =
      let one = set_of_row was a p in
      let other = set_of_row was b q in
      let two : ¬ (one.set ≡ other.set) = λ same. differ (sym one.named ∙ ap (λ (s : SetRecords). name_of s) same ∙ other.named) in
      let shared : NoneShared (runs_with one.set) (runs_with other.set) =
      apart_two runs_with (sets_of vtoc) one.set other.set (subst (λ (runs : List Run). AreApart runs) all_runs (apart was).apart) one.there other.there two in
      let mine = held_by (runs_for volume a) track here in
      let its = held_by (runs_for volume b) track there in
      none_shared mine.0 its.0 track
      (shared mine.0 its.0 (subst (λ (runs : List Run). Contains runs mine.0) (runs_are a p) mine.1) (subst (λ (runs : List Run). Contains runs its.0) (runs_are b q) its.1)) mine.2 its.2

-- ---- format 3s

one_at_most : (b : Bool) → (if b then 1 else 0) ≤ 1
one_at_most true = omega arith
one_at_most false = omega arith

-- a format 1 has room for three extents
three_in_one : (bytes : List ℕ) → format_of bytes ≡ F1 → length (extents_of bytes) ≤ 3
three_in_one bytes is =
    let some = map (extent_at bytes) (extent_offsets (format_of bytes)) in
    let kept : ExtentField → Bool = λ extent. not (extent.kind == 0) in
    omega (
      arith,
      length-filter kept some,
      count_by-le-length kept some,
      length-map (extent_offsets (format_of bytes)) (extent_at bytes),
      ap (λ (format : Format). length (extent_offsets format)) is,
    )

module _ {head : Head} {label : Label} {unit : Slots} {before : Bool} {slots : List ℕ} {volume : Volume} {vtoc : Vtoc} {four : Placed}
    (was : WasLoaded head label unit before slots volume vtoc four) (row : Row) (c : Contains volume.rows row) where
  abbrev set : SetRecords
  set = (set_of_row was row c).set

  is_set : AreSetRecords vtoc.heads (records_of vtoc) set
  is_set = All-contains (AreSetRecords vtoc.heads (records_of vtoc)) (sets_of vtoc) set (has_layout was).sets_are (set_of_row was row c).there

  as_long : length row.extents ≡ length (extents_in_set set)
  as_long = omega (arith, length-map row.extents field_of, ap (λ (d : DirectoryRow). length d.extents) (set_of_row was row c).same)

  as_many : length set.threes ≡ row.threes
  as_many = ap (λ (d : DirectoryRow). d.threes) (set_of_row was row c).same

  pub no_threes_more : threes_for (length row.extents) ≤ row.threes
  no_threes_more = by set.threes refl
    where
      by : (threes : List Placed) → set.threes ≡ threes → threes_for (length row.extents) ≤ row.threes
      by [] none =
          let alone : length (extents_in_set set) ≡ length (extents_of set.one.bytes ++ []) =
          ap (λ (threes : List Placed). length (extents_in_set (record { one = set.one; threes = threes }))) none in
          let no_three : threes_for (length row.extents) ≡ 0 =
          ap (λ (b : Bool). if b then 1 else 0)
          (le-ltb 3 (length row.extents) (omega (arith, as_long, alone, three_in_one set.one.bytes is_set.one_is, length-append (extents_of set.one.bytes) []))) in
          omega (arith, no_three)
      by (three ∷ more) some = omega (arith, as_many, ap length some, one_at_most (nat_lt 3 (length row.extents)))

-- ---- a volume that was loaded

pub sound_track : (volume : Volume) → IsSound volume → (row : Row) → Contains volume.rows row → (track : ℕ) → InRuns (runs_for volume row) track → IsSetTrack volume track
sound_track volume sound row there track h = row_track (from_slots sound.3) row there track h

sound_apart : (volume : Volume) → IsSound volume → (a b : Row) → Contains volume.rows a → Contains volume.rows b → a.name ≢ b.name → (track : ℕ)
    → InRuns (runs_for volume a) track → ¬ InRuns (runs_for volume b) track
sound_apart volume sound a b p q differ track here there = none_in_two (from_slots sound.3) a b p q differ track here there

-- the tracks of rows that stand apart are apart
pub sound_parts : (volume : Volume) → IsSound volume → (xs ys : List Row) → ((row : Row) → Contains xs row → Contains volume.rows row) → ((row : Row) → Contains ys row → Contains volume.rows row)
    → ((a b : Row) → Contains xs a → Contains ys b → a.name ≢ b.name) → (track : ℕ) → InRuns (runs_of_rows volume xs) track → ¬ InRuns (runs_of_rows volume ys) track
sound_parts volume sound xs ys in_xs in_ys differ track here there =
    let a = row_with volume xs track here in
    let b = row_with volume ys track there in
    sound_apart volume sound a.0 b.0 (in_xs a.0 a.1) (in_ys b.0 b.1) (differ a.0 b.0 a.1 b.1) track a.2 b.2

-- no track of a row is free
pub sound_taken : (volume : Volume) → IsSound volume → (row : Row) → Contains volume.rows row → (track : ℕ) → IsFree volume.free track
    → ¬ InRuns (runs_of_rows volume (row ∷ [])) track
sound_taken volume sound row there track free held =
    (free_unused_by_rows sound.3.loaded (few sound.3) (home_short sound.3) track free).none (in_all_rows volume row track there held)

-- its format 3s are no fewer than those that a change would give it
pub sound_threes : (volume : Volume) → IsSound volume → (row : Row) → Contains volume.rows row → threes_for (length row.extents) ≤ row.threes
sound_threes volume sound row there = no_threes_more (from_slots sound.3) row there
