-- Plans of steps that may be planned: there is one, and nothing bars it.
use Rattle.std.proofs.Common.{◌≡◌, ◌⊎◌, inl, inr, ℕ, ◌≤◌, get_or, Bool, true, false, List, [], ◌∷◌, length, All, sym, ap, subst, ◌∙◌, arith}
use Rattle.std.specs.Prelude.{IfOk, Result, Ok, Err}
use Rattle.std.proofs.lemmas.Bool.{false≢true}
use Rattle.std.proofs.lemmas.List.Elements.{All-nil, All-cons, All-contains}
use Rattle.dsn_filter.specs.declared.dsn.Dsn.{Dsn}
use Rattle.free_map.specs.declared.run.Run.{Run}
use Rattle.vtoc_core.specs.declared.volume.Row.{Row}
use Rattle.vtoc_core.specs.declared.volume.Volume.{Volume}
use Rattle.volume_change.specs.declared.change.Change.{Change}
use Rattle.volume_change.specs.declared.change.Change.TheVariants.{Repair, Remove, Swap}
use Rattle.volume_change.proofs.Names.{one_text}
use Rattle.unit_load.specs.declared.state.UnitState.{UnitState}
use Rattle.move_core.specs.declared.steps.Step.{Step}
use Rattle.move_core.specs.declared.steps.Step.TheVariants as steps
use Rattle.step_room.specs.unit_steps.declared.plan.Plan.{Plan}
use Rattle.step_room.specs.unit_steps.declared.plan.Tracks.TheVariants as texts
use Rattle.step_room.specs.unit_steps.Plans.{IsLoadedAt, HasRow, Plans, PlansRepair, PlansDelete, PlansReset, PlansShrink, PlansMove, PlansPut, PlansCarry, IsPlan, tracks_in}
use Rattle.step_room.proofs.unit_steps.OneChange.{same_volume}
use Rattle.step_room.specs.step_plans.Plans.{IsSound, IsPlanFor, IsPlanForBoth, IsJoinPlan, IsPlaceOn, ArePlacesOn, IsWhole, HasNone, HasManyExtents, HasFewTracks, IsInTheWay, IsClear}
use Rattle.step_room.proofs.SoundRows.{one_row}
use Rattle.job_steps.specs.unit_session.Planned.{MayBegin, IsIndexed, IsLong}
use Rattle.job_acts.specs.Making.{MayBeChanged, HasSet, MayReset, MayCut, MayJoin, MayPut, MayCarry, IsStepPlan, put_step}

-- ---- nothing bars changes of volumes that may be changed

abbrev AreChangeable : ℕ → List UnitState → List (ℕ × Change) → Type 0
AreChangeable room units changes = All (λ (change : ℕ × Change). MayBeChanged room units change.0) changes

module _ {room : ℕ} {units : List UnitState} (changes : List (ℕ × Change)) (may : AreChangeable room units changes) where
  not_indexed : ¬ IsIndexed units changes
  not_indexed any =
      let one = All-contains (λ (change : ℕ × Change). MayBeChanged room units change.0) changes any.1 may (any.0, any.2, any.3) in
      let is = any.4 in
      false≢true (sym one.not_indexed ∙ ap (λ (v : Volume). v.indexed) (same_volume units any.1.0 one.volume is.0 one.loaded is.1) ∙ is.2)

  not_long : ¬ IsLong room units changes
  not_long any =
      let one = All-contains (λ (change : ℕ × Change). MayBeChanged room units change.0) changes any.1 may (any.0, any.2, any.3) in
      let is = any.4 in
      omega (arith, one.few_tracks, is.2, ap (λ (v : Volume). v.vtoc.len) (same_volume units any.1.0 one.volume is.0 one.loaded is.1))

  may_begin : MayBegin room units changes
  may_begin = record { not_indexed = not_indexed; not_long = not_long }

module _ {room : ℕ} {units : List UnitState} where
  one_change : (unit : ℕ) (change : Change) (changes : List (ℕ × Change)) → MayBeChanged room units unit → changes ≡ (unit, change) ∷ [] → MayBegin room units changes
  one_change unit change changes may are =
      may_begin changes
      (subst (AreChangeable room units) (sym are) (All-cons (λ (one : ℕ × Change). MayBeChanged room units one.0) (unit, change) [] may (All-nil (λ (one : ℕ × Change). MayBeChanged room units one.0))))

  two_changes : (unit from : ℕ) (change taken : Change) (changes : List (ℕ × Change)) → MayBeChanged room units unit → MayBeChanged room units from
      → changes ≡ (unit, change) ∷ ((from, taken) ∷ []) → MayBegin room units changes
  two_changes unit from change taken changes may there are =
      may_begin changes
      (subst (AreChangeable room units) (sym are)
      (All-cons (λ (one : ℕ × Change). MayBeChanged room units one.0) (unit, change) ((from, taken) ∷ []) may
      (All-cons (λ (one : ℕ × Change). MayBeChanged room units one.0) (from, taken) [] there (All-nil (λ (one : ℕ × Change). MayBeChanged room units one.0)))))

-- ---- what a plan of a step is

module _ (units : List UnitState) (plan : Plan) where
  pub repair_planned : (unit : ℕ) → plan.step ≡ steps.Repair unit → IsPlan units plan → (plan.tracks ≡ texts.None) × PlansRepair units unit plan.changes
  repair_planned unit step_is is = subst (λ (step : Step). Plans units step plan.tracks plan.changes) step_is is

  pub delete_planned : (unit : ℕ) (name : Dsn) → plan.step ≡ steps.Delete unit name → IsPlan units plan → (plan.tracks ≡ texts.None) × PlansDelete units unit name plan.changes
  delete_planned unit name step_is is = subst (λ (step : Step). Plans units step plan.tracks plan.changes) step_is is

  pub reset_planned : (unit : ℕ) (name : Dsn) → plan.step ≡ steps.ResetFlag unit name → IsPlan units plan → (plan.tracks ≡ texts.None) × PlansReset units unit name plan.changes
  reset_planned unit name step_is is = subst (λ (step : Step). Plans units step plan.tracks plan.changes) step_is is

  pub cut_planned : (unit : ℕ) (name : Dsn) (keep : ℕ) → plan.step ≡ steps.Shrink unit name keep → IsPlan units plan
      → (plan.tracks ≡ texts.None) × PlansShrink units unit name keep plan.changes
  cut_planned unit name keep step_is is = subst (λ (step : Step). Plans units step plan.tracks plan.changes) step_is is

  pub join_planned : (unit : ℕ) (name : Dsn) (to : List Run) → plan.step ≡ steps.Move unit name to → IsPlan units plan
      → (plan.tracks ≡ texts.Rows unit name) × PlansMove units unit name to plan.changes
  join_planned unit name to step_is is = subst (λ (step : Step). Plans units step plan.tracks plan.changes) step_is is

  pub carry_planned : (from : ℕ) (old : Dsn) (unit : ℕ) (name : Dsn) (to : List Run) (replaced : Bool) → plan.step ≡ steps.Carry from old unit name to replaced → IsPlan units plan
      → (plan.tracks ≡ texts.Rows from old) × PlansCarry units from old unit name to replaced plan.changes
  carry_planned from old unit name to replaced step_is is = subst (λ (step : Step). Plans units step plan.tracks plan.changes) step_is is

  pub put_planned : (from : ℕ) (old : Dsn) (unit : ℕ) (name : Dsn) (to : List Run) (replaced : Bool) → plan.step ≡ put_step from old unit name to replaced → IsPlan units plan
      → (plan.tracks ≡ texts.Rows from old) × PlansPut replaced units from old unit name to plan.changes
  put_planned from old unit name to true step_is is = subst (λ (step : Step). Plans units step plan.tracks plan.changes) step_is is
  put_planned from old unit name to false step_is is = subst (λ (step : Step). Plans units step plan.tracks plan.changes) step_is is

-- ---- plans that were made

module _ {room : ℕ} {units : List UnitState} (unit : ℕ) (volume : Volume) (loaded : IsLoadedAt units unit volume) (plan : Plan) where
  pub repair_made : MayBeChanged room units unit → IsPlanFor volume unit (steps.Repair unit) plan → IsStepPlan room units (steps.Repair unit) plan
  repair_made may is =
      let lawful = is.lawful units loaded in
      let made = (repair_planned units plan unit is.step_is lawful).1 in
      record { step_is = is.step_is; lawful = lawful; may = one_change unit Repair plan.changes may made.changes_are }

  module _ (name : Dsn) where
    pub delete_made : HasSet room units unit name → IsPlanFor volume unit (steps.Delete unit name) plan → IsStepPlan room units (steps.Delete unit name) plan
    delete_made set is =
        let lawful = is.lawful units loaded in
        let made = (delete_planned units plan unit name is.step_is lawful).1 in
        record { step_is = is.step_is; lawful = lawful; may = one_change unit (Remove name) plan.changes set.may made.changes_are }

    pub reset_made : HasSet room units unit name → IsPlanFor volume unit (steps.ResetFlag unit name) plan → IsStepPlan room units (steps.ResetFlag unit name) plan
    reset_made set is =
        let lawful = is.lawful units loaded in
        let made = (reset_planned units plan unit name is.step_is lawful).1 in
        record { step_is = is.step_is; lawful = lawful; may = one_change unit (Swap name made.swap.row) plan.changes set.may made.swap.changes_are }

    pub cut_made : (keep : ℕ) → HasSet room units unit name → IsPlanFor volume unit (steps.Shrink unit name keep) plan → IsStepPlan room units (steps.Shrink unit name keep) plan
    cut_made keep set is =
        let lawful = is.lawful units loaded in
        let made = (cut_planned units plan unit name keep is.step_is lawful).1 in
        record { step_is = is.step_is; lawful = lawful; may = one_change unit (Swap name made.swap.row) plan.changes set.may made.swap.changes_are }

    pub join_made : (to : List Run) → HasSet room units unit name → IsPlanFor volume unit (steps.Move unit name to) plan → IsStepPlan room units (steps.Move unit name to) plan
    join_made to set is =
        let lawful = is.lawful units loaded in
        let made = (join_planned units plan unit name to is.step_is lawful).1 in
        record { step_is = is.step_is; lawful = lawful; may = one_change unit (Swap name made.swap.row) plan.changes set.may made.swap.changes_are }

module _ {room : ℕ} {units : List UnitState} (from : ℕ) (old : Dsn) (unit : ℕ) (name : Dsn) (to : List Run) (replaced : Bool) (source target : Volume)
    (source_loaded : IsLoadedAt units from source) (target_loaded : IsLoadedAt units unit target) (plan : Plan) where
  pub put_made : MayPut room units from old unit name to replaced → IsPlanForBoth source from target unit (put_step from old unit name to replaced) plan
      → IsStepPlan room units (put_step from old unit name to replaced) plan
  put_made may is =
      let lawful = is.lawful units source_loaded target_loaded in
      let made = (put_planned units plan from old unit name to replaced is.step_is lawful).1 in
      record { step_is = is.step_is; lawful = lawful; may = one_change unit made.change plan.changes may.target made.changes_are }

  pub carry_made : MayCarry room units from old unit name to replaced → IsPlanForBoth source from target unit (steps.Carry from old unit name to replaced) plan
      → IsStepPlan room units (steps.Carry from old unit name to replaced) plan
  carry_made may is =
      let lawful = is.lawful units source_loaded target_loaded in
      let made = (carry_planned units plan from old unit name to replaced is.step_is lawful).1 in
      record { step_is = is.step_is; lawful = lawful; may = two_changes unit from made.change (Remove old) plan.changes may.put.target may.may made.changes_are }

-- ---- there is one

module _ {room : ℕ} {units : List UnitState} {unit : ℕ} {name : Dsn} (set : HasSet room units unit name) (volume : Volume) (loaded : IsLoadedAt units unit volume) where
  pub same_loaded : volume ≡ set.may.volume
  same_loaded = same_volume units unit volume set.may.volume loaded set.may.loaded

  pub one_of : (row : Row) → HasRow volume name row → row ≡ set.row
  one_of row has =
      let there : HasRow set.may.volume name row = subst (λ (v : Volume). HasRow v name row) same_loaded has in
      one_row set.may.volume set.sound row set.row there.there set.row_is.there (one_text name row.name set.row.name there.name_is set.row_is.name_is)

  pub sound_here : IsSound volume
  sound_here = subst IsSound (sym same_loaded) set.sound

  pub not_none : ¬ HasNone volume name
  not_none none = none set.row (subst (λ (v : Volume). HasRow v name set.row) (sym same_loaded) set.row_is)

  not_many : length set.row.extents ≤ 16 → ¬ HasManyExtents volume name
  not_many few (row, has, many) = omega (arith, many, few, ap (λ (r : Row). length r.extents) (one_of row has))

pub not_reset : {room : ℕ} {units : List UnitState} {unit : ℕ} {name : Dsn} (may : MayReset room units unit name) (volume : Volume) → IsLoadedAt units unit volume
    → ¬ (HasNone volume name ⊎ HasManyExtents volume name)
not_reset may volume loaded (inl none) = not_none may.set volume loaded none
not_reset may volume loaded (inr many) = not_many may.set volume loaded may.few many

pub not_cut : {room : ℕ} {units : List UnitState} {unit : ℕ} {name : Dsn} {keep : ℕ} (may : MayCut room units unit name keep) (volume : Volume) → IsLoadedAt units unit volume
    → ¬ (HasNone volume name ⊎ (HasManyExtents volume name ⊎ HasFewTracks volume name keep))
not_cut may volume loaded (inl none) = not_none may.set volume loaded none
not_cut may volume loaded (inr (inl many)) = not_many may.set volume loaded may.few many
not_cut may volume loaded (inr (inr (row, has, few))) =
    let same : length (tracks_in volume row) ≡ length (tracks_in may.set.may.volume may.set.row) =
    λ i. length (tracks_in (same_loaded may.set volume loaded i) (one_of may.set volume loaded row has i)) in
    omega (arith, few, may.fewer, same)

module _ {room : ℕ} {units : List UnitState} {unit : ℕ} {name : Dsn} {to : List Run} (may : MayJoin room units unit name to) (volume : Volume) (loaded : IsLoadedAt units unit volume) where
  same_tracks : (row : Row) → HasRow volume name row → length (tracks_in volume row) ≡ may.run.len
  same_tracks row has = (λ i. length (tracks_in (same_loaded may.set volume loaded i) (one_of may.set volume loaded row has i))) ∙ sym may.whole

  pub place_here : (row : Row) → HasRow volume name row → IsPlaceOn volume row volume may.run.first
  place_here row has =
      subst (λ (v : Volume). IsPlaceOn v row v may.run.first) (sym (same_loaded may.set volume loaded))
      (subst (λ (r : Row). IsPlaceOn may.set.may.volume r may.set.may.volume may.run.first) (sym (one_of may.set volume loaded row has)) may.place)

  pub not_joined : ¬ (HasNone volume name ⊎ (HasManyExtents volume name ⊎ IsWhole volume name))
  not_joined (inl none) = not_none may.set volume loaded none
  not_joined (inr (inl many)) = not_many may.set volume loaded may.few many
  not_joined (inr (inr (row, has, inl one))) = may.several (ap (λ (r : Row). length r.extents) (sym (one_of may.set volume loaded row has)) ∙ one)
  not_joined (inr (inr (row, has, inr none))) = omega (arith, none, may.some, same_tracks row has)

  pub joins_here : (plan : Plan) → IsJoinPlan volume unit name may.run.first plan → IsStepPlan room units (steps.Move unit name to) plan
  joins_here plan is =
      let same : record { first = may.run.first; len = length (tracks_in volume is.0) } ≡ may.run = λ i. record { first = may.run.first; len = same_tracks is.0 is.1 i } in
      join_made unit volume loaded plan name to may.set
      (subst (λ (runs : List Run). IsPlanFor volume unit (steps.Move unit name runs) plan) (ap (λ (r : Run). r ∷ []) same ∙ sym may.to_is) is.2)

module _ {room : ℕ} {units : List UnitState} {from : ℕ} {old : Dsn} {unit : ℕ} {name : Dsn} {to : List Run} {replaced : Bool} (may : MayPut room units from old unit name to replaced)
    (source target : Volume) (source_loaded : IsLoadedAt units from source) (target_loaded : IsLoadedAt units unit target) where
  pub source_here : source ≡ may.source
  source_here = same_volume units from source may.source source_loaded may.source_loaded

  pub target_here : target ≡ may.target.volume
  target_here = same_volume units unit target may.target.volume target_loaded may.target.loaded

  pub sound_both : IsSound source × IsSound target
  sound_both = (subst IsSound (sym source_here) may.source_sound, subst IsSound (sym target_here) may.target_sound)

  pub like_both : target.device ≡ source.device
  like_both = ap (λ (v : Volume). v.device) target_here ∙ may.like ∙ ap (λ (v : Volume). v.device) (sym source_here)

  row_of_source : (row : Row) → HasRow source old row → row ≡ may.row
  row_of_source row has =
      let there : HasRow may.source old row = subst (λ (v : Volume). HasRow v old row) source_here has in
      one_row may.source may.source_sound row may.row there.there may.row_is.there (one_text old row.name may.row.name there.name_is may.row_is.name_is)

  pub places_here : (row : Row) → HasRow source old row → ArePlacesOn source row target to
  places_here row has =
      subst (λ (v : Volume). ArePlacesOn v row target to) (sym source_here)
      (subst (λ (v : Volume). ArePlacesOn may.source row v to) (sym target_here) (subst (λ (r : Row). ArePlacesOn may.source r may.target.volume to) (sym (row_of_source row has)) may.places))

  pub not_refused : ¬ (HasNone source old ⊎ (HasManyExtents source old ⊎ IsInTheWay replaced target name))
  not_refused (inl none) = none may.row (subst (λ (v : Volume). HasRow v old may.row) (sym source_here) may.row_is)
  not_refused (inr (inl (row, has, many))) = omega (arith, many, may.few, ap (λ (r : Row). length r.extents) (row_of_source row has))
  not_refused (inr (inr way)) = both replaced (subst (λ (v : Volume). IsInTheWay replaced v name) target_here way) may.clear
    where
      both : (b : Bool) → IsInTheWay b may.target.volume name → IsClear b may.target.volume name → ⊥
      both true none (row, has) = none row has
      both false (row, has) none = none row has

-- ---- what was found

pub where_ok : {T E : Type 0} {P Q : T → Type 0} (result : Result T E) → ((x : T) → P x → Q x) → IfOk result P → IfOk result Q
where_ok (Ok x) implies holds = implies x holds
where_ok (Err error) implies holds = tt

-- the one run is one
pub first_is : (to : List Run) (run found : Run) → to ≡ run ∷ [] → to ≡ found ∷ [] → found ≡ run
first_is to run found are is = ap (λ (runs : List Run). get_or runs 0 run) (sym is ∙ are)
