-- Plans that put a data set elsewhere.
use Rattle.std.proofs.Common.{◌≡◌, ◌≢◌, inl, inr, ℕ, zero, suc, ◌+◌, ◌*◌, ◌%◌, ◌≤◌, List, [], ◌∷◌, length, map, take, All, Bool, not, true, false, Some, refl, sym, ap, subst, ◌∙◌, arith}
use Rattle.std.specs.Prelude.{if◌then◌else◌, slice_get, slice_index}
use Rattle.std.specs.Bool.{OnTrue, OnFalse}
use Rattle.std.proofs.lemmas.List.{append-nil, length-append, length-map}
use Rattle.std.proofs.lemmas.List.Elements.{All-nil, All-cons, All-head, All-tail, All-weaker}
use Rattle.std.proofs.lemmas.List.Sums.{sum_by-cons}
use Rattle.std.proofs.lemmas.Option.{same_Some, none-some}
use Rattle.ckd_image.specs.Device.{heads_of, ceil_div}
use Rattle.ckd_image.specs.declared.device.Device.{Device}
use Rattle.ckd_image.specs.declared.device.Device.TheVariants.{D3390, D3380, D3350}
use Rattle.dscb_rec.specs.declared.field.Extent.{Extent as Field}
use Rattle.dsn_filter.specs.declared.dsn.Dsn.{Dsn}
use Rattle.dsn_filter.specs.Dsn.{IsDsn}
use Rattle.free_map.specs.declared.run.Run.{Run}
use Rattle.free_map.specs.Free.{IsFree}
use Rattle.free_map.specs.Free.{count_of}
use Rattle.free_map.specs.Place.{rounded}
use Rattle.free_map.specs.Several.{ArePlaces}
use Rattle.free_map.specs.Runs.{InRuns}
use Rattle.free_map.proofs.Fit.{le_rounded}
use Rattle.volume_model.specs.Dscbs.{format_of, numbers_below}
use Rattle.volume_model.specs.Pinned.{IsNameOf}
use Rattle.volume_model.specs.Reads.{extent_in, fields_of_1}
use Rattle.volume_model.specs.Unit.{Extent, tracks_in, tracks_of}
use Rattle.vtoc_core.specs.declared.volume.Row.{Row}
use Rattle.vtoc_core.specs.declared.volume.Volume.{Volume}
use Rattle.vtoc_core.specs.Loaded.{field_of}
use Rattle.volume_change.specs.declared.change.Change.{Change}
use Rattle.volume_change.specs.declared.change.Change.TheVariants.{Swap, Remove}
use Rattle.volume_change.proofs.Names.{one_text}
use Rattle.vtoc_layout.proofs.Apart.{all_from}
use Rattle.unit_steps.specs.vtoc_render.Next.{MayChange, MayPut}
use Rattle.unit_load.specs.declared.state.UnitState.{UnitState}
use Rattle.plan_core.specs.Consolidate.{IsStepOf}
use Rattle.move_core.specs.declared.steps.Origin.TheVariants as origins
use Rattle.move_core.specs.declared.steps.Step.{Step}
use Rattle.move_core.specs.declared.steps.Step.TheVariants as steps
use Rattle.move_core.specs.Steps.{IsNewKind, LieOnCylinders, extents_on, fields_at, tracks_for}
use Rattle.unit_steps.specs.declared.plan.Plan.{Plan}
use Rattle.unit_steps.specs.declared.plan.Tracks.{Tracks}
use Rattle.unit_steps.specs.declared.plan.Tracks.TheVariants as texts
use Rattle.unit_steps.specs.Plans.{IsLoadedAt, HasRow, IsPlan, Plans, extents_in, putting, PlansCopy}
use Rattle.unit_steps.specs.Plans as plans
use Rattle.unit_steps.proofs.Rows.{runs_on}
use Rattle.step_plans.specs.declared.copies.SetCopy.{SetCopy}
use Rattle.step_plans.specs.Copies.{IsNewRow}
use Rattle.step_plans.specs.Plans.{IsSound, IsRoom, HasNone, IsClear, IsInTheWay, IsPlanForBoth, step_of_copy, step_of_carry, IsPlaceOn, ArePlacesOn, IsJoinPlan, extents_from, field_on}
use Rattle.step_plans.proofs.LoadedRows.{sound_row}
use Rattle.step_plans.proofs.Places.{on_runs}
use Rattle.step_plans.proofs.Puts.{free_rooms, may_put}
use Rattle.step_plans.proofs.Swaps.{code_of_1}
use Rattle.volume_model.proofs.Formats.{format_is_1}
use Rattle.volume_model.proofs.Numbers.{numbers_long, tracks_all}

-- ---- lists

-- what holds of all elements holds of the one at a place
get_held : {X : Type 0} (P : X → Type 0) (xs : List X) (k : ℕ) (x : X) → All P xs → slice_get xs k ≡ Some x → P x
get_held P [] k x all at = absurd (none-some x at)
get_held P (y ∷ ys) zero x all at = subst P (same_Some y x at) (All-head P y ys all)
get_held P (y ∷ ys) (suc k) x all at = get_held P ys k x (All-tail P y ys all) at

-- ---- types

-- a type of new extents is some
pub kind_some : (extents : List Extent) (kind : ℕ) → IsNewKind extents kind → kind ≢ 0
kind_some extents kind (inl by) none = absurd (omega (arith, by.1, none))
kind_some extents kind (inr by) none = absurd (omega (arith, by.1, none))

step_some : (device : Device) (extents : List Extent) (step : ℕ) → IsStepOf (heads_of device) extents step → 1 ≤ step
step_some D3390 extents step (inl by) = omega (arith, by.1)
step_some D3380 extents step (inl by) = omega (arith, by.1)
step_some D3350 extents step (inl by) = omega (arith, by.1)
step_some D3390 extents step (inr by) = omega (arith, by.1)
step_some D3380 extents step (inr by) = omega (arith, by.1)
step_some D3350 extents step (inr by) = omega (arith, by.1)

-- of cylinders, a step has a cylinder's tracks
step_whole : (heads : ℕ) (extents : List Extent) (step kind : ℕ) → IsStepOf heads extents step → IsNewKind extents kind → kind ≡ 0x81 → step ≡ heads
step_whole heads extents step kind (inl by) new is = by.1
step_whole heads extents step kind (inr by) (inl new) is = absurd (by.0 new.0)
step_whole heads extents step kind (inr by) (inr new) is = absurd (omega (arith, new.1, is))

-- ---- one extent

module _ (volume : Volume) (sound : IsSound volume) (name : Dsn) (old : Row) (has : HasRow volume name old) (several : length old.extents ≢ 1) (first len : ℕ)
    (len_is : len ≡ length (plans.tracks_in volume old)) (some : len ≢ 0) (place : IsPlaceOn volume old volume first) (kind : ℕ) (kind_is : IsNewKind (extents_in volume old) kind) where
  abbrev run : Run
  run = record { first = first; len = len }

  held : (track : ℕ) → InRuns (record { first = first; len = len } ∷ []) track → IsFree volume.free track
  held track (inl there) =
      let need = length (plans.tracks_in volume old) in
      place.place.held track there.0 (omega (arith, there.1, len_is, (le_rounded need place.step (step_some volume.device (extents_in volume old) place.step place.step_is)).0))
  held track (inr never) = absurd never

  is_some : All (λ (r : Run). 1 ≤ r.len) (record { first = first; len = len } ∷ [])
  is_some = All-cons (λ (r : Run). 1 ≤ r.len) run [] (omega (arith, some)) (All-nil (λ (r : Run). 1 ≤ r.len))

  pub join_room : All IsRoom (record { first = first; len = len } ∷ [])
  join_room = free_rooms volume sound (run ∷ []) is_some held

  module _ (row : Row) (name_is : row.name ≡ old.name) (same : row.f1 ≡ old.f1) (extents_are : row.extents ≡ map (field_on volume.device kind) (record { first = first; len = len } ∷ [])) where
    on_place : extents_in volume row ≡ extents_on kind (record { first = first; len = len } ∷ [])
    on_place = ap (extents_from volume.device) extents_are ∙ on_runs volume.device kind (run ∷ []) join_room

    as_many : length (tracks_of (extents_on kind (record { first = first; len = len } ∷ []))) ≡ len
    as_many =
        ap length (append-nil (tracks_in run)) ∙ length-map (numbers_below len) (λ place. first + place) ∙ numbers_long len

    may : MayChange volume (Swap name row)
    may =
        let known = sound_row volume sound old has.there in (
          subst (IsNameOf name) (sym name_is) has.name_is,
          (
            old,
            has.there,
            sym name_is,
            may_put volume sound row kind (run ∷ []) (kind_some (extents_in volume old) kind kind_is)
                (name_is ∙ known.named ∙ ap (take 44) (sym same)) (ap format_of same ∙ known.format) extents_are is_some (λ i j d less within. absurd (omega (arith, less, within))) (omega arith) held (old ∷ []),
          ),
        )

    pub join_plan : (unit : ℕ) (plan : Plan)
        → plan ≡ record {
          step = steps.Move unit name (record { first = first; len = len } ∷ []);
          tracks = texts.Rows unit name;
          changes = (unit, Swap name row) ∷ [];
        } → IsJoinPlan volume unit name first plan
    join_plan unit plan plan_is = (
      old,
      has,
      record {
        step_is = ap (λ (p : Plan). p.step) plan_is ∙ ap (λ (n : ℕ). steps.Move unit name (record { first = first; len = n } ∷ [])) len_is;
        lawful = λ units loaded. subst (IsPlan units) (sym plan_is) (
          refl,
          record {
            swap = record { volume = volume; old = old; row = row; loaded = loaded; old_is = has; changes_are = refl; may = may };
            extents = extents_on kind (run ∷ []);
            extents_are = inr (record {
              several = λ one. several (sym (length-map old.extents (λ (e : Field). extent_in (heads_of volume.device) (field_of e))) ∙ one);
              run = run;
              one = refl;
              kind = kind;
              kind_is = kind_is;
              new_is = refl;
            });
            as_many = as_many ∙ len_is;
            row_is = record { name_is = name_is; fields_are = ap fields_of_1 same; extents_are = on_place };
            tracks = λ k track at.
                inl (get_held (IsFree volume.free) (tracks_of (extents_on kind (run ∷ []))) k track
                (tracks_all (IsFree volume.free) (extents_on kind (run ∷ [])) (λ t there. held t (subst (λ (l : List Run). InRuns l t) (runs_on kind (run ∷ [])) there))) at);
            begins =
                let P : Extent → Type 0 = λ extent. extent.kind ≡ 0x81 → extent.run.first % heads_of volume.device ≡ 0 in
                All-cons P (record { run = run; kind = kind }) []
                (λ is. subst (λ (s : ℕ). first % s ≡ 0) (step_whole (heads_of volume.device) (extents_in volume old) place.step kind place.step_is kind_is is) place.place.aligned) (All-nil P);
          },
        );
      },
    )

-- ---- a copy

pub places_some : (step : ℕ) (runs : List Run) → All (λ run. (1 ≤ run.len) × (run.first % step ≡ 0) × (run.len % step ≡ 0)) runs → All (λ (run : Run). 1 ≤ run.len) runs
places_some step runs all = All-weaker (λ (run : Run). (1 ≤ run.len) × (run.first % step ≡ 0) × (run.len % step ≡ 0)) (λ (run : Run). 1 ≤ run.len) (λ run is. is.0) runs all

pub places_whole : (heads : ℕ) (extents : List Extent) (step kind : ℕ) (runs : List Run) → IsStepOf heads extents step → IsNewKind extents kind
    → All (λ run. (1 ≤ run.len) × (run.first % step ≡ 0) × (run.len % step ≡ 0)) runs → LieOnCylinders heads kind runs
places_whole heads extents step kind runs step_is kind_is all is =
    let same : step ≡ heads = step_whole heads extents step kind step_is kind_is is in
    All-weaker (λ (run : Run). (1 ≤ run.len) × (run.first % step ≡ 0) × (run.len % step ≡ 0)) (λ (run : Run). (run.first % heads ≡ 0) × (run.len % heads ≡ 0))
    (λ run at. (subst (λ (s : ℕ). run.first % s ≡ 0) same at.1, subst (λ (s : ℕ). run.len % s ≡ 0) same at.2)) runs all

-- as many tracks as the runs have
pub tracks_count : (kind : ℕ) (runs : List Run) → length (tracks_of (extents_on kind runs)) ≡ count_of runs
tracks_count kind [] = refl
tracks_count kind (one ∷ runs) =
    length-append (tracks_in one) (tracks_of (extents_on kind runs))
    ∙ (λ i. (length-map (numbers_below one.len) (λ place. one.first + place) ∙ numbers_long one.len) i + tracks_count kind runs i)
    ∙ sym (sum_by-cons (λ (r : Run). r.len) one runs)

-- a need in whole steps is as many tracks as a copy takes
pub rounded_for : (device : Device) (extents : List Extent) (step kind n : ℕ) → IsStepOf (heads_of device) extents step → IsNewKind extents kind → rounded n step ≡ tracks_for (heads_of device) kind n
rounded_for device extents step kind n (inl by) (inr other) = absurd (other.0 by.0)
rounded_for device extents step kind n (inr by) (inl other) = absurd (by.0 other.0)
rounded_for D3390 extents step kind n (inl by) (inl new) = ap (rounded n) by.1 ∙ whole n ∙ sym (ap (λ (k : ℕ). tracks_for 15 k n) new.1)
  where
    whole : (n : ℕ) → rounded n 15 ≡ ceil_div n 15 * 15
    whole n = omega arith
rounded_for D3380 extents step kind n (inl by) (inl new) = ap (rounded n) by.1 ∙ whole n ∙ sym (ap (λ (k : ℕ). tracks_for 15 k n) new.1)
  where
    whole : (n : ℕ) → rounded n 15 ≡ ceil_div n 15 * 15
    whole n = omega arith
rounded_for D3350 extents step kind n (inl by) (inl new) = ap (rounded n) by.1 ∙ whole n ∙ sym (ap (λ (k : ℕ). tracks_for 30 k n) new.1)
  where
    whole : (n : ℕ) → rounded n 30 ≡ ceil_div n 30 * 30
    whole n = omega arith
rounded_for device extents step kind n (inr by) (inr new) = ap (rounded n) by.1 ∙ whole n ∙ sym (ap (λ (k : ℕ). tracks_for (heads_of device) k n) new.1)
  where
    whole : (n : ℕ) → rounded n 1 ≡ n
    whole n = omega arith

module _ (source volume : Volume) (sound : IsSound source) (target_sound : IsSound volume) (copy : SetCopy) (old : Row) (has : HasRow source copy.from.name old) (kind : ℕ)
    (kind_is : IsNewKind (extents_in source old) kind) (places : ArePlacesOn source old volume copy.runs) where
  abbrev own : ArePlaces (IsFree volume.free) (length (plans.tracks_in source old)) places.step copy.runs
  own = places.places

  copy_some : All (λ (run : Run). 1 ≤ run.len) copy.runs
  copy_some = places_some places.step copy.runs own.whole_steps

  pub copy_rooms : All IsRoom copy.runs
  copy_rooms = free_rooms volume target_sound copy.runs copy_some own.held

  module _ (row : Row) (named : IsNameOf copy.to.name row.name) (front : take 44 row.f1 ≡ row.name) (code : slice_index row.f1 44 ≡ slice_index old.f1 44)
      (fields : fields_of_1 row.f1 ≡ fields_at row.name volume.serial (fields_of_1 old.f1)) (extents_are : row.extents ≡ map (field_on volume.device kind) copy.runs) where
    put_row : (gone : List Row) → MayPut volume gone row
    put_row gone =
        let known = sound_row source sound old has.there in
        may_put volume target_sound row kind copy.runs (kind_some (extents_in source old) kind kind_is) (sym front) (format_is_1 row.f1 (code ∙ code_of_1 old.f1 known.format)) extents_are copy_some
        own.disjoint own.few own.held gone

    may_copy : (replaced : Bool) → IsClear replaced volume copy.to.name → IsDsn copy.to.name → MayChange volume (putting replaced copy.to.name row)
    may_copy true there lawful = (
      named,
      (there.0, there.1.there, one_text copy.to.name there.0.name row.name there.1.name_is named, put_row (there.0 ∷ [])),
    )
    may_copy false none lawful = (
      put_row [],
      all_from (λ (other : Row). other.name ≢ row.name) volume.rows
          (λ other c same. none other (record { lawful = lawful; there = c; name_is = subst (IsNameOf copy.to.name) (sym same) named })),
    )

    pub new_row_is : IsClear copy.replaced volume copy.to.name → IsDsn copy.to.name → IsNewRow source volume copy row
    new_row_is clear lawful = record {
      old = old;
      old_is = has;
      named = named;
      kind = kind;
      kind_is = kind_is;
      row_is = record {
        name_is = refl;
        fields_are = fields;
        extents_are = ap (extents_from volume.device) extents_are ∙ on_runs volume.device kind copy.runs copy_rooms;
      };
      may = may_copy copy.replaced clear lawful;
    }

-- ---- what is in the way of a copy

pub way_there : (volume : Volume) (name : Dsn) (row : Row) → HasRow volume name row → (replaced : Bool)
    → OnTrue (not replaced) (IsInTheWay replaced volume name) × OnFalse (not replaced) (IsClear replaced volume name)
way_there volume name row has true = (tt, (row, has))
way_there volume name row has false = ((row, has), tt)

pub way_none : (volume : Volume) (name : Dsn) → HasNone volume name → (replaced : Bool) → OnTrue replaced (IsInTheWay replaced volume name) × OnFalse replaced (IsClear replaced volume name)
way_none volume name none true = (none, tt)
way_none volume name none false = (tt, none)

-- ---- plans of a copy

-- the step by whether the copy replaces something
abbrev step_by : SetCopy → Bool → Step
step_by copy replaced =
    if replaced then steps.Replace copy.to.unit copy.to.name copy.runs (origins.Row copy.from.unit copy.from.name)
    else steps.Add copy.to.unit copy.to.name copy.runs (origins.Row copy.from.unit copy.from.name)

pub replace_is : (copy : SetCopy) → copy.replaced ≡ true → steps.Replace copy.to.unit copy.to.name copy.runs (origins.Row copy.from.unit copy.from.name) ≡ step_of_copy copy
replace_is copy is = sym (ap (step_by copy) is)

pub add_is : (copy : SetCopy) → copy.replaced ≡ false → steps.Add copy.to.unit copy.to.name copy.runs (origins.Row copy.from.unit copy.from.name) ≡ step_of_copy copy
add_is copy is = sym (ap (step_by copy) is)

module _ (source volume : Volume) (copy : SetCopy) (row : Row) (like : volume.device ≡ source.device) (lawful : IsDsn copy.to.name) (new : IsNewRow source volume copy row)
    (places : (old : Row) → HasRow source copy.from.name old → ArePlacesOn source old volume copy.runs) where
  abbrev copied : (units : List UnitState) → IsLoadedAt units copy.from.unit source → IsLoadedAt units copy.to.unit volume
      → PlansCopy copy.replaced units copy.from.unit copy.from.name copy.to.unit copy.to.name copy.runs (putting copy.replaced copy.to.name row)
  copied units from_loaded to_loaded =
      let to = places new.old new.old_is in
      let own = to.places in
      record {
        source = source;
        old = new.old;
        source_loaded = from_loaded;
        old_is = new.old_is;
        volume = volume;
        row = row;
        loaded = to_loaded;
        like = like;
        lawful = lawful;
        named = new.named;
        kind = new.kind;
        kind_is = new.kind_is;
        whole = places_whole (heads_of volume.device) (extents_in source new.old) to.step new.kind copy.runs to.step_is new.kind_is own.whole_steps;
        row_is = new.row_is;
        size = tracks_count new.kind copy.runs ∙ own.count_is ∙ rounded_for volume.device (extents_in source new.old) to.step new.kind (length (plans.tracks_in source new.old)) to.step_is new.kind_is;
        free = own.held;
        change_is = refl;
        may = new.may;
      }

  -- the texts come from the data set that is copied
  abbrev from_set : Tracks
  from_set = texts.Rows copy.from.unit copy.from.name

  abbrev put : ℕ × Change
  put = (copy.to.unit, putting copy.replaced copy.to.name row)

  pub copy_plan : (step : Step) (plan : Plan) → step ≡ step_of_copy copy
      → plan ≡ record { step = step; tracks = texts.Rows copy.from.unit copy.from.name; changes = (copy.to.unit, putting copy.replaced copy.to.name row) ∷ [] }
      → IsPlanForBoth source copy.from.unit volume copy.to.unit (step_of_copy copy) plan
  copy_plan step plan step_is plan_is = record {
    step_is = ap (λ (p : Plan). p.step) plan_is ∙ step_is;
    lawful =
        λ units from_loaded to_loaded. subst (IsPlan units) (sym plan_is)
        (subst (λ (s : Step). Plans units s from_set (put ∷ [])) (sym step_is) (by copy.replaced (copied units from_loaded to_loaded)));
  }
    where
      by : {units : List UnitState} (replaced : Bool)
          → PlansCopy replaced units copy.from.unit copy.from.name copy.to.unit copy.to.name copy.runs (putting copy.replaced copy.to.name row)
          → Plans units (step_by copy replaced) from_set (put ∷ [])
      by true is = (refl, record { change = put.1; copy = is; changes_are = refl })
      by false is = (refl, record { change = put.1; copy = is; changes_are = refl })

  pub carry_plan : (plan : Plan) → copy.from.unit ≢ copy.to.unit → IsDsn copy.from.name → plan.step ≡ step_of_carry copy → plan.tracks ≡ texts.Rows copy.from.unit copy.from.name
      → plan.changes ≡ (copy.to.unit, putting copy.replaced copy.to.name row) ∷ (copy.from.unit, Remove copy.from.name) ∷ []
      → IsPlanForBoth source copy.from.unit volume copy.to.unit (step_of_carry copy) plan
  carry_plan plan apart old_lawful step_is tracks_are changes_are = record {
    step_is = step_is;
    lawful =
        λ units from_loaded to_loaded. subst (λ (s : Step). Plans units s plan.tracks plan.changes) (sym step_is)
        (subst (λ (t : Tracks). Plans units (step_of_carry copy) t plan.changes) (sym tracks_are)
        (subst (λ (c : List (ℕ × Change)). Plans units (step_of_carry copy) from_set c) (sym changes_are) (
          refl,
          record {
            apart = apart;
            change = put.1;
            copy = copied units from_loaded to_loaded;
            changes_are = refl;
            may = (old_lawful, new.old, new.old_is.there, new.old_is.name_is);
          },
        )));
  }
