-- The tracks of loaded rows, and of those that a plan puts.
use Rattle.std.proofs.Common.{◌≡◌, ◌⊎◌, inl, inr, ◌==◌, ℕ, ◌<◌, ◌≤◌, List, [], ◌∷◌, length, map, take, Contains, Bool, true, false, Some, refl, sym, ap, subst, ◌∙◌, arith}
use Rattle.std.specs.Prelude.{slice_get, ◌*◌, if◌then◌else◌}
use Rattle.std.specs.List.{flat_map}
use Rattle.std.proofs.lemmas.List.Elements.{All-contains}
use Rattle.std.proofs.lemmas.List.Folds.{flat_map-map}
use Rattle.std.proofs.lemmas.List.Sorted.{IsPermutation-map}
use Rattle.std.proofs.lemmas.Option.{slice_get_within}
use Rattle.std.proofs.lemmas.Simd.{map-map}
use Rattle.ckd_image.specs.declared.device.Device.{Device}
use Rattle.ckd_image.specs.declared.device.Device.TheVariants.{D3390, D3380, D3350}
use Rattle.ckd_image.specs.Device.{heads_of, ceil_div}
use Rattle.dasd_pool.specs.Disk.{Shape}
use Rattle.dsn_filter.specs.declared.dsn.Dsn.{Dsn}
use Rattle.free_map.specs.declared.run.Run.{Run}
use Rattle.free_map.specs.Free.{IsFree}
use Rattle.free_map.specs.Runs.{InRuns}
use Rattle.volume_model.specs.declared.extent.ExtentField.{ExtentField}
use Rattle.volume_model.specs.Check.{track_0, records_of, extents_in}
use Rattle.volume_model.specs.Directory.{DirectoryRow, rows_of}
use Rattle.volume_model.specs.Space.{end_of, run_of}
use Rattle.volume_model.specs.Unit as models
use Rattle.vtoc_check.proofs.VtocRead.{limit_most}
use Rattle.vtoc_core.specs.declared.volume.Row.{Row}
use Rattle.vtoc_core.specs.declared.volume.Volume.{Volume}
use Rattle.vtoc_core.specs.Loaded.{field_of, row_in, HasItsName}
use Rattle.vtoc_layout.specs.Layout.{AreDistinct, extents_by, extents_in_set, layout_of, runs_by, sets_of}
use Rattle.vtoc_layout.proofs.Distinct.{at_first, from_map, in_flat, in_later, one_of_map}
use Rattle.volume_change.specs.declared.change.Change.{Change}
use Rattle.volume_change.specs.declared.change.Change.TheVariants.{Swap, Remove}
use Rattle.volume_change.specs.Runs.{runs_in}
use Rattle.volume_change.proofs.Names.{one_text}
use Rattle.unit_steps.specs.render_laws.Rendered.{WasLoaded}
use Rattle.unit_steps.proofs.render_laws.Before.{ends, extent_there, usable_within}
use Rattle.unit_steps.specs.vtoc_render.Next.{MayChange, MayPut}
use Rattle.unit_steps.proofs.vtoc_render.NextCounts.{set_of_row}
use Rattle.unit_steps.proofs.vtoc_render.PlacedTakes.{heads_same}
use Rattle.unit_steps.specs.unit_change.Changed.{extents_of}
use Rattle.unit_steps.proofs.unit_change.LoadedTracks.{four, free_unused_by_rows, in_all_rows, own_names}
use Rattle.unit_steps.proofs.unit_change.OneOrder.{distinct_moved, name_in}
use Rattle.unit_load.specs.declared.state.UnitState.{UnitState}
use Rattle.unit_load.specs.declared.state.UnitState.TheVariants.{Online}
use Rattle.unit_load.specs.Kept.{IsFromSlots}
use Rattle.move_core.specs.declared.steps.Origin.TheVariants as origins
use Rattle.move_core.specs.declared.steps.Step.{Step}
use Rattle.move_core.specs.declared.steps.Step.TheVariants as steps
use Rattle.move_core.specs.Steps.{tracks_for}
use Rattle.unit_steps.specs.declared.plan.Tracks.{Tracks}
use Rattle.unit_steps.specs.declared.plan.Tracks.TheVariants as texts
use Rattle.unit_steps.specs.Copied.{IsPutBy}
use Rattle.unit_steps.specs.Loaded.{HaveStates, KeepVtocs}
use Rattle.unit_steps.specs.Plans.{IsLoadedAt, HasRow, Plans, PlansCopy, PlansMove, putting, tracks_in}
use Rattle.unit_steps.proofs.Blocks.{few, from_slots, home_short}
use Rattle.unit_steps.proofs.Rows.{runs_of_extents, runs_of_one, runs_on}
use Rattle.unit_session.proofs.CopyTargets.{get_contains, get_there, in_runs, runs_distinct}
use Rattle.ckd_image.proofs.Lists.{contains_map}
use Rattle.unit_steps.proofs.OneChange.{same_volume}
use Rattle.unit_steps.proofs.Putting.{may_put}

-- ---- the tracks of a row

tracks_are : (volume : Volume) (row : Row) → tracks_in volume row ≡ flat_map models.tracks_in (runs_in (heads_of volume.device) row.extents)
tracks_are volume row =
    let heads = heads_of volume.device in
    sym (flat_map-map models.tracks_in models.run_in (extents_of heads row)) ∙ ap (flat_map models.tracks_in) (runs_of_extents heads row)

pub track_in_runs : (volume : Volume) (row : Row) (track : ℕ) → Contains (tracks_in volume row) track → InRuns (runs_in (heads_of volume.device) row.extents) track
track_in_runs volume row track there =
    in_runs (runs_in (heads_of volume.device) row.extents) track (subst (λ (l : List ℕ). Contains l track) (tracks_are volume row) there)

pub put_distinct : (volume : Volume) (gone : List Row) (row : Row) → MayPut volume gone row → AreDistinct (tracks_in volume row)
put_distinct volume gone row may = subst (λ (l : List ℕ). AreDistinct l) (sym (tracks_are volume row)) (runs_distinct (runs_in (heads_of volume.device) row.extents) may.apart)

-- ---- a loaded volume

module _ {head : List ℕ} {blocks : ℕ} {volume : Volume} {slots : List ℕ} (from : IsFromSlots false head blocks volume slots) where
  was : WasLoaded from.image from.label from.unit false slots volume from.loaded.vtoc (four from.loaded (few from) (home_short from))
  was = from_slots from

  usable_blocks : volume.usable ≤ blocks
  usable_blocks =
      let is = from.loaded.stands.stands in
      let limit : from.loaded.vtoc.limit ≤ from.image.tracks = omega (arith, is.limit_is, limit_most from.image is.bytes) in
      omega (arith, usable_within was, limit, from.image_is.tracks_are)

  pub few_blocks : blocks ≤ 65535
  few_blocks = omega (arith, few from, from.image_is.tracks_are)

  pub free_below : (track : ℕ) → IsFree volume.free track → track < blocks
  free_below track free = omega (arith, (free_unused_by_rows from.loaded (few from) (home_short from) track free).below, usable_blocks)

  pub not_free : (row : Row) → Contains volume.rows row → (track : ℕ) → Contains (tracks_in volume row) track → ¬ IsFree volume.free track
  not_free row there track held free =
      (free_unused_by_rows from.loaded (few from) (home_short from) track free).none
      (in_all_rows volume row track there (subst (λ (runs : List Run). InRuns runs track) (sym (runs_of_one volume row)) (track_in_runs volume row track held)))

  row_run : (row : Row) → Contains volume.rows row → (run : Run) → Contains (runs_in (heads_of volume.device) row.extents) run → end_of run ≤ volume.usable
  row_run row there run held =
      let vtoc = from.loaded.vtoc in
      let layout = layout_of vtoc (four from.loaded (few from) (home_short from)) in
      let found = from_map (run_of (heads_of volume.device)) (map field_of row.extents) run held in
      let of_set = set_of_row was row there in
      let in_set : Contains (extents_in_set of_set.set) found.0 =
      subst (λ (l : List ExtentField). Contains l found.0) (ap (λ (d : DirectoryRow). d.extents) (sym of_set.same)) found.1 in
      let of_all : Contains (extents_by layout) found.0 = in_flat extents_in_set (sets_of vtoc) of_set.set found.0 of_set.there in_set in
      let same : run_of vtoc.heads found.0 ≡ run = ap (λ (heads : ℕ). run_of heads found.0) (sym (heads_same was)) ∙ found.2 in
      let of_runs : Contains (runs_by vtoc.heads layout) run = subst (Contains (runs_by vtoc.heads layout)) same (contains_map (run_of vtoc.heads) (extents_by layout) found.0 of_all) in
      ends was run (in_later track_0 run (vtoc.run ∷ extents_in vtoc) (in_later vtoc.run run (extents_in vtoc) (extent_there was run of_runs)))

  runs_below : (runs : List Run) → ((run : Run) → Contains runs run → end_of run ≤ volume.usable) → (track : ℕ) → InRuns runs track → track < blocks
  runs_below [] each track held = absurd held
  runs_below (run ∷ runs) each track (inl held) = omega (arith, held.1, each run (at_first run runs), usable_blocks)
  runs_below (run ∷ runs) each track (inr held) = runs_below runs (λ other there. each other (in_later run other runs there)) track held

  pub row_below : (row : Row) → Contains volume.rows row → (track : ℕ) → Contains (tracks_in volume row) track → track < blocks
  row_below row there track held = runs_below (runs_in (heads_of volume.device) row.extents) (row_run row there) track (track_in_runs volume row track held)

  names_distinct : AreDistinct (map (λ row. name_in (row_in row)) volume.rows)
  names_distinct =
      let is = from.loaded in
      let read = rows_of is.vtoc.heads (records_of is.vtoc) in
      subst (λ (l : List (List ℕ)). AreDistinct l) (map-map name_in row_in volume.rows)
      (distinct_moved (map name_in (map row_in volume.rows)) (map name_in read) (own_names is (few from) (home_short from))
      (IsPermutation-map name_in read (map row_in volume.rows) is.volume.rows_are.same))

  has_name : (row : Row) → Contains volume.rows row → row.name ≡ take 44 row.f1
  has_name row there = All-contains HasItsName volume.rows row from.loaded.volume.names_are there

  -- a data set name has one row
  pub one_named : (name : Dsn) (a b : Row) → HasRow volume name a → HasRow volume name b → a ≡ b
  one_named name a b here there =
      one_of_map (λ row. name_in (row_in row)) volume.rows a b names_distinct here.there there.there
      (sym (has_name a here.there) ∙ one_text name a.name b.name here.name_is there.name_is ∙ has_name b there.there)

-- the slots that are kept of a loaded volume
pub kept_of : {shape : Shape} (units : List UnitState) (vtocs : List (List ℕ)) → HaveStates shape units → KeepVtocs shape units vtocs → (unit : ℕ) (volume : Volume) → IsLoadedAt units unit volume
    → (slots : List ℕ) × (slice_get vtocs unit ≡ Some slots) × IsFromSlots false (shape.head unit) (shape.blocks unit) volume slots
kept_of units vtocs have keep unit volume loaded =
    let found = get_there vtocs unit (omega (arith, slice_get_within units unit (Online volume) loaded, have, keep.count)) in
    (found.0, found.1, keep.each unit (Online volume) found.0 loaded found.1)

-- ---- what a plan puts

-- the tracks that are put are free, or the same of the data set's own tracks
pub record IsPlaced (from unit : ℕ) (source volume : Volume) (origin row : Row) : Type 0 where
  pub like : volume.device ≡ source.device
  pub gone : List Row
  pub may : MayPut volume gone row
  pub tracks : (k track : ℕ) → slice_get (tracks_in volume row) k ≡ Some track → IsFree volume.free track ⊎ ((from ≡ unit) × (slice_get (tracks_in source origin) k ≡ Some track))
  pub long : length (tracks_in source origin) ≤ length (tracks_in volume row)

-- so wherever texts are copied
abbrev pub ArePlaced : List UnitState → Tracks → List (ℕ × Change) → Type 0
ArePlaced units (texts.Rows from name) (change ∷ changes) =
    (source volume : Volume) (origin row : Row) → IsLoadedAt units from source → HasRow source name origin → IsLoadedAt units change.0 volume → IsPutBy change.1 row
    → IsPlaced from change.0 source volume origin row
ArePlaced units _ _ = Unit {0}

-- a copy takes at least as many tracks as its origin
tracks_longer : (device : Device) (kind tracks : ℕ) → tracks ≤ tracks_for (heads_of device) kind tracks
tracks_longer device kind tracks = by device (kind == 0x81)
  where
    by : (d : Device) (whole : Bool) → tracks ≤ (if whole then ceil_div tracks (heads_of d) * heads_of d else tracks)
    by D3390 true = omega arith
    by D3380 true = omega arith
    by D3350 true = omega arith
    by D3390 false = omega arith
    by D3380 false = omega arith
    by D3350 false = omega arith

pub put_row : (replaced : Bool) (name : Dsn) (row put : Row) → IsPutBy (putting replaced name row) put → put ≡ row
put_row true name row put is = is
put_row false name row put is = is

module _ (units : List UnitState) where
  move_placed : {unit : ℕ} {name : Dsn} {to : List Run} {changes : List (ℕ × Change)} (plan : PlansMove units unit name to changes) → IsPlaced unit unit plan.swap.volume plan.swap.volume plan.swap.old plan.swap.row
  move_placed plan =
      let swap = plan.swap in
      record {
        like = refl;
        gone = swap.may.1.0 ∷ [];
        may = swap.may.1.3;
        tracks = λ k track at.
            let here : slice_get (models.tracks_of plan.extents) k ≡ Some track = ap (λ (l : List models.Extent). slice_get (models.tracks_of l) k) (sym plan.row_is.extents_are) ∙ at in
            elim (plan.tracks k track here) [
              | inl free ↦ inl free
              | inr own ↦ inr (refl, own)
            ];
        long = omega (arith, plan.as_many, ap (λ (l : List models.Extent). length (models.tracks_of l)) plan.row_is.extents_are);
      }

  copy_placed : {replaced : Bool} {from : ℕ} {origin : Dsn} {unit : ℕ} {name : Dsn} {to : List Run} {change : Change} (plan : PlansCopy replaced units from origin unit name to change)
      → IsPlaced from unit plan.source plan.volume plan.old plan.row
  copy_placed {replaced = replaced} {name = name} {to = to} plan =
      let put = may_put plan.volume replaced name plan.row (subst (MayChange plan.volume) plan.change_is plan.may) in
      let to_is : to ≡ runs_in (heads_of plan.volume.device) plan.row.extents =
      sym (runs_on plan.kind to) ∙ ap (map models.run_in) (sym plan.row_is.extents_are) ∙ runs_of_extents (heads_of plan.volume.device) plan.row in
      record {
        like = plan.like;
        gone = put.0;
        may = put.1;
        tracks = λ k track at.
            inl (plan.free track (subst (λ (l : List Run). InRuns l track) (sym to_is)
            (track_in_runs plan.volume plan.row track (get_contains (tracks_in plan.volume plan.row) k track at))));
        long =
            omega (arith, plan.size, ap (λ (l : List models.Extent). length (models.tracks_of l)) plan.row_is.extents_are, tracks_longer plan.volume.device plan.kind (length (tracks_in plan.source plan.old)));
      }

  placed_as : (from unit : ℕ) (source source' volume volume' : Volume) (origin origin' row row' : Row) → source ≡ source' → volume ≡ volume' → origin ≡ origin' → row ≡ row'
      → IsPlaced from unit source' volume' origin' row' → IsPlaced from unit source volume origin row
  placed_as from unit source source' volume volume' origin origin' row row' s v o r placed =
      subst (λ (x : Volume). IsPlaced from unit x volume origin row) (sym s)
      (subst (λ (x : Volume). IsPlaced from unit source' x origin row) (sym v)
      (subst (λ (x : Row). IsPlaced from unit source' volume' x row) (sym o) (subst (λ (x : Row). IsPlaced from unit source' volume' origin' x) (sym r) placed)))

  module _ {shape : Shape} (vtocs : List (List ℕ)) (have : HaveStates shape units) (keep : KeepVtocs shape units vtocs) where
    -- the copy of a data set onto free tracks
    copied_placed : {replaced : Bool} {from : ℕ} {origin : Dsn} {unit : ℕ} {name : Dsn} {to : List Run} {change : Change} (plan : PlansCopy replaced units from origin unit name to change)
        → (rest : List (ℕ × Change)) → ArePlaced units (texts.Rows from origin) ((unit, change) ∷ rest)
    copied_placed {replaced = replaced} {from = from} {origin = origin} {unit = unit} {name = name} plan rest source volume old row at has there put =
        let source_is = same_volume units from source plan.source at plan.source_loaded in
        let kept = (kept_of units vtocs have keep from plan.source plan.source_loaded).2 in
        let old_is = one_named kept origin old plan.old (subst (λ (v : Volume). HasRow v origin old) source_is has) plan.old_is in
        placed_as from unit source plan.source volume plan.volume old plan.old row plan.row source_is (same_volume units unit volume plan.volume there plan.loaded) old_is
        (put_row replaced name plan.row row (subst (λ (c : Change). IsPutBy c row) plan.change_is put)) (copy_placed plan)

    moved_placed : {unit : ℕ} {name : Dsn} {to : List Run} {changes : List (ℕ × Change)} (plan : PlansMove units unit name to changes)
        → ArePlaced units (texts.Rows unit name) ((unit, Swap name plan.swap.row) ∷ [])
    moved_placed {unit} {name} plan source volume origin row at has there put =
        let swap = plan.swap in
        let source_is = same_volume units unit source swap.volume at swap.loaded in
        let from = (kept_of units vtocs have keep unit swap.volume swap.loaded).2 in
        let origin_is = one_named from name origin swap.old (subst (λ (v : Volume). HasRow v name origin) source_is has) swap.old_is in
        placed_as unit unit source swap.volume volume swap.volume origin swap.old row swap.row source_is (same_volume units unit volume swap.volume there swap.loaded) origin_is put
        (move_placed plan)

    none_placed : (tracks : Tracks) (changes : List (ℕ × Change)) → tracks ≡ texts.None → ArePlaced units tracks changes
    none_placed tracks changes is = subst (λ (t : Tracks). ArePlaced units t changes) (sym is) (by changes)
      where
        by : (list : List (ℕ × Change)) → ArePlaced units texts.None list
        by [] = tt
        by (change ∷ list) = tt

    given_placed : (tracks : Tracks) (changes : List (ℕ × Change)) → tracks ≡ texts.Given → ArePlaced units tracks changes
    given_placed tracks changes is = subst (λ (t : Tracks). ArePlaced units t changes) (sym is) (by changes)
      where
        by : (list : List (ℕ × Change)) → ArePlaced units texts.Given list
        by [] = tt
        by (change ∷ list) = tt

    some_placed : (tracks : Tracks) (changes : List (ℕ × Change)) (from : ℕ) (name : Dsn) (list : List (ℕ × Change)) → tracks ≡ texts.Rows from name → changes ≡ list
        → ArePlaced units (texts.Rows from name) list → ArePlaced units tracks changes
    some_placed tracks changes from name list is are placed =
        subst (λ (t : Tracks). ArePlaced units t changes) (sym is) (subst (λ (l : List (ℕ × Change)). ArePlaced units (texts.Rows from name) l) (sym are) placed)

    pub plan_placed : (step : Step) (tracks : Tracks) (changes : List (ℕ × Change)) → Plans units step tracks changes → ArePlaced units tracks changes
    plan_placed (steps.Move unit name to) tracks changes (is, plan) = some_placed tracks changes unit name _ is plan.swap.changes_are (moved_placed plan)
    plan_placed (steps.Shrink unit name keep) tracks changes (is, plan) = none_placed tracks changes is
    plan_placed (steps.Add unit name to (origins.Row from origin)) tracks changes (is, plan) =
        some_placed tracks changes from origin _ is plan.changes_are (copied_placed plan.copy [])
    plan_placed (steps.Replace unit name to (origins.Row from origin)) tracks changes (is, plan) =
        some_placed tracks changes from origin _ is plan.changes_are (copied_placed plan.copy [])
    plan_placed (steps.Add unit name to (origins.Part input number)) tracks changes plan = given_placed tracks changes plan.0
    plan_placed (steps.Replace unit name to (origins.Part input number)) tracks changes plan = given_placed tracks changes plan.0
    plan_placed (steps.Delete unit name) tracks changes (is, plan) = none_placed tracks changes is
    plan_placed (steps.Carry from origin unit name to replaced) tracks changes (is, plan) =
        some_placed tracks changes from origin _ is plan.changes_are (copied_placed plan.copy ((from, Remove origin) ∷ []))
    plan_placed (steps.ResetFlag unit name) tracks changes (is, plan) = none_placed tracks changes is
    plan_placed (steps.Repair unit) tracks changes (is, plan) = none_placed tracks changes is
    plan_placed _ tracks changes plan = absurd plan
