-- The steps of a transfer can be done one after the other, where the repairs and the copy fit at first.
use Rattle.std.proofs.Common.{◌≡◌, ◌≢◌, inl, inr, ℕ, ◌-◌, ◌/◌, ◌≤◌, ◌==◌, nat_lt, not, Bool, true, false, List, [], ◌∷◌, ◌++◌, length, All, Contains, Result, Err, refl, sym, ap, subst, ◌∙◌, append_assoc}
use Rattle.std.specs.Prelude.{if◌then◌else◌}
use Rattle.std.proofs.lemmas.List.{append-nil}
use Rattle.std.proofs.lemmas.Bool.{eqb-true, eq-eqb, false≢true}
use Rattle.std.proofs.lemmas.List.Elements.{All-nil, All-cons, All-head, All-tail, All-append, All-contains}
use Rattle.dsn_filter.specs.declared.dsn.Dsn.{Dsn}
use Rattle.dsn_filter.specs.Dsn.{IsDsn}
use Rattle.free_map.specs.declared.run.Run.{Run}
use Rattle.volume_model.specs.Pinned.{IsNameOf}
use Rattle.vtoc_core.specs.declared.volume.Row.{Row}
use Rattle.vtoc_core.specs.declared.volume.Volume.{Volume}
use Rattle.vtoc_layout.proofs.Distinct.{first_or_later, in_none, in_middle, or_other, among_others}
use Rattle.volume_change.specs.declared.change.Change.{Change}
use Rattle.volume_change.specs.declared.change.Change.TheVariants.{Remove}
use Rattle.unit_load.specs.declared.state.UnitState.{UnitState}
use Rattle.move_core.specs.declared.steps.Step.{Step}
use Rattle.move_core.specs.declared.steps.Step.TheVariants as steps
use Rattle.dump_sets.specs.job_turns.job_copies.vtoc_render.Next.{IsNext, IsChanged}
use Rattle.dump_sets.specs.job_turns.job_copies.unit_steps.declared.plan.Plan.{Plan}
use Rattle.dump_sets.specs.job_turns.job_copies.unit_steps.Plans.{IsLoadedAt, HasRow, PlansCopy, PlansCarry, PlansPut, PlansDelete, IsPlan, putting}
use Rattle.dump_sets.proofs.job_turns.job_copies.unit_steps.OneChange.{same_volume}
use Rattle.dump_sets.proofs.job_turns.job_copies.job_select.OneName.{one_named}
use Rattle.dump_sets.specs.job_turns.job_copies.step_room.Room as room
use Rattle.dump_sets.specs.job_turns.job_copies.step_room.Room.{AlikeChangesHaveRoom, StatedVolumesHaveRoom, ChangesStateSpace}
use Rattle.dump_sets.specs.job_turns.job_copies.vtoc_render.Next.{MayChange}
use Rattle.dump_sets.proofs.job_turns.job_steps.unit_session.unit_steps.Small.{putting_no_mark}
use Rattle.dasd_pool.specs.declared.pool.Pool.{Ghosts}
use Rattle.move_core.proofs.Running.{run_idle}
use Rattle.dump_sets.specs.job_turns.job_steps.unit_session.Sessions.{SessionView}
use Rattle.dump_sets.specs.job_turns.job_steps.declared.cut.Cut.{Cut}
use Rattle.dump_sets.specs.job_turns.job_steps.declared.cut.Cut.TheVariants as cuts
use Rattle.dump_sets.specs.job_turns.job_steps.Carried.{IsUnitAfter}
use Rattle.dump_sets.specs.job_turns.job_acts.Making.{MayBeChanged, HasSet, MayPut, MayPlan, put_step, repair_steps}
use Rattle.dump_sets.specs.job_turns.job_acts.declared.acts.Acts.{Acts}
use Rattle.dump_sets.specs.job_turns.job_acts.declared.acts.Acted.{Acted}
use Rattle.dump_sets.specs.job_turns.job_acts.Acting.{AreSound, Fits, LacksRoom, IsDone, MayDo, AllFit, MayAct, EndsActs, looked_at}
use Rattle.dump_sets.proofs.job_turns.job_acts.Kept.{IsBehind, behind_itself, put_behind, after_one, loaded_after}
use Rattle.dump_sets.proofs.job_turns.job_acts.PlansMade.{put_planned, carry_planned, delete_planned}
use Rattle.dump_sets.proofs.job_turns.job_acts.Repairing.{AfterRepairs, may_step, may_repairs, repairs_planned, full_one, may_act, seen_are}
use Rattle.dump_sets.proofs.job_turns.job_acts.Sessions.{no_change}
use Rattle.job_ops.specs.declared.transfer.Transfer.{Transfer}
use Rattle.job_ops.specs.Copy.{lower_first}
use Rattle.job_ops.specs.Transfers.{is_carried, is_deleted, units_due, copying_step, first_steps, last_steps, steps_of_transfer, MayTransfer, EndsTransfer}
use Rattle.dump_sets.specs.job_turns.Stating.{is_unstated, due}

-- ---- where it goes

module _ (transfer : Transfer) where
  abbrev carried_if : Bool → Bool
  carried_if delete = if delete then not (transfer.from.unit == transfer.to.unit) else false

  abbrev deleted_if : Bool → Bool
  deleted_if delete = if delete then transfer.from.unit == transfer.to.unit else false

  -- a data set that is carried goes to another unit, and is deleted
  pub carried_apart : is_carried transfer ≡ true → transfer.from.unit ≢ transfer.to.unit
  carried_apart carried same = by transfer.delete refl
    where
      by : (delete : Bool) → transfer.delete ≡ delete → ⊥
      by true is = false≢true (sym (ap carried_if is ∙ ap not (eq-eqb transfer.from.unit transfer.to.unit same)) ∙ carried)
      by false is = false≢true (sym (ap carried_if is) ∙ carried)

  pub carried_deletes : is_carried transfer ≡ true → transfer.delete ≡ true
  carried_deletes carried = by transfer.delete refl
    where
      by : (delete : Bool) → transfer.delete ≡ delete → transfer.delete ≡ true
      by true is = is
      by false is = absurd (false≢true (ap carried_if (sym is) ∙ carried))

  -- one that is deleted in a step of its own stays on its unit
  pub deleted_within : is_deleted transfer ≡ true → (transfer.from.unit ≡ transfer.to.unit) × (is_carried transfer ≡ false)
  deleted_within deleted = by transfer.delete refl
    where
      by : (delete : Bool) → transfer.delete ≡ delete → (transfer.from.unit ≡ transfer.to.unit) × (is_carried transfer ≡ false)
      by true is =
          let one : (transfer.from.unit == transfer.to.unit) ≡ true = ap deleted_if (sym is) ∙ deleted in (
            eqb-true transfer.from.unit transfer.to.unit one,
            ap carried_if is ∙ ap not one,
          )
      by false is = absurd (false≢true (ap deleted_if (sym is) ∙ deleted))

  -- ---- its copy

  abbrev pub copying_if : Bool → Step
  copying_if carried =
      if carried then steps.Carry transfer.from.unit transfer.from.name transfer.to.unit transfer.to.name transfer.runs transfer.replaced
      else put_step transfer.from.unit transfer.from.name transfer.to.unit transfer.to.name transfer.runs transfer.replaced

  -- a row is put on the volume of the copy; and where the data set goes to another unit, it is removed from its own
  pub record PlansTransfer (units : List UnitState) (changes : List (ℕ × Change)) : Type 0 where
    pub change : Change
    pub copy : PlansCopy transfer.replaced units transfer.from.unit transfer.from.name transfer.to.unit transfer.to.name transfer.runs change
    pub changes_are : changes ≡ (transfer.to.unit, change) ∷ (if is_carried transfer then (transfer.from.unit, Remove transfer.from.name) ∷ [] else [])
    pub may_remove : is_carried transfer ≡ true → MayChange copy.source (Remove transfer.from.name)

  pub transfer_planned : (units : List UnitState) (plan : Plan) → plan.step ≡ copying_step transfer → IsPlan units plan → PlansTransfer units plan.changes
  transfer_planned units plan step_is is = by (is_carried transfer) refl
    where
      taking : Bool → List (ℕ × Change)
      taking carried = if carried then (transfer.from.unit, Remove transfer.from.name) ∷ [] else []

      by : (carried : Bool) → is_carried transfer ≡ carried → PlansTransfer units plan.changes
      by true carried =
          let made : PlansCarry units transfer.from.unit transfer.from.name transfer.to.unit transfer.to.name transfer.runs transfer.replaced plan.changes =
          (carry_planned units plan transfer.from.unit transfer.from.name transfer.to.unit transfer.to.name transfer.runs transfer.replaced (step_is ∙ ap copying_if carried) is).1 in
          record {
            change = made.change;
            copy = made.copy;
            changes_are = made.changes_are ∙ ap (λ (b : Bool). (transfer.to.unit, made.change) ∷ taking b) (sym carried);
            may_remove = λ yes. made.may;
          }
      by false carried =
          let made : PlansPut transfer.replaced units transfer.from.unit transfer.from.name transfer.to.unit transfer.to.name transfer.runs plan.changes =
          (put_planned units plan transfer.from.unit transfer.from.name transfer.to.unit transfer.to.name transfer.runs transfer.replaced (step_is ∙ ap copying_if carried) is).1 in
          record {
            change = made.change;
            copy = made.copy;
            changes_are = made.changes_are ∙ ap (λ (b : Bool). (transfer.to.unit, made.change) ∷ taking b) (sym carried);
            may_remove = λ yes. absurd (false≢true (sym carried ∙ yes));
          }

-- ---- what can be planned

module _ {least : ℕ} {first : List UnitState} {transfer : Transfer} (began : MayTransfer least first transfer) where
  put_may : (replaced : Bool) → MayPut least first transfer.from.unit transfer.from.name transfer.to.unit transfer.to.name transfer.runs replaced
      → MayPlan least first (put_step transfer.from.unit transfer.from.name transfer.to.unit transfer.to.name transfer.runs replaced)
  put_may true may = may
  put_may false may = may

  pub copy_may : MayPlan least first (copying_step transfer)
  copy_may = by (is_carried transfer) refl
    where
      by : (carried : Bool) → is_carried transfer ≡ carried → MayPlan least first (copying_if transfer (is_carried transfer))
      by true carried =
          subst (λ (b : Bool). MayPlan least first (copying_if transfer b)) (sym carried) (record {
            apart = carried_apart transfer carried;
            may = began.may_source (carried_deletes transfer carried);
            put = began.put;
          })
      by false carried = subst (λ (b : Bool). MayPlan least first (copying_if transfer b)) (sym carried) (put_may transfer.replaced began.put)

  -- the volumes whose free space is to be stated may be changed
  due_may : (unit : ℕ) → MayBeChanged least first unit → All (MayBeChanged least first) (due first unit)
  due_may unit may = by (is_unstated first unit)
    where
      by : (unstated : Bool) → All (MayBeChanged least first) (if unstated then unit ∷ [] else [])
      by true = All-cons (MayBeChanged least first) unit [] may (All-nil (MayBeChanged least first))
      by false = All-nil (MayBeChanged least first)

  pub units_may : All (MayBeChanged least first) (units_due first transfer)
  units_may = by (is_carried transfer) refl
    where
      sources : List ℕ
      sources = due first transfer.from.unit

      targets : List ℕ
      targets = due first transfer.to.unit

      by_lower : All (MayBeChanged least first) sources → All (MayBeChanged least first) targets → (lower : Bool) → All (MayBeChanged least first) (if lower then sources ++ targets else targets ++ sources)
      by_lower one other true = All-append (MayBeChanged least first) sources targets one other
      by_lower one other false = All-append (MayBeChanged least first) targets sources other one

      by : (carried : Bool) → is_carried transfer ≡ carried → All (MayBeChanged least first) (if carried then lower_first transfer.from.unit transfer.to.unit sources targets else targets)
      by true carried =
          by_lower (due_may transfer.from.unit (began.may_source (carried_deletes transfer carried))) (due_may transfer.to.unit began.put.target) (nat_lt transfer.from.unit transfer.to.unit)
      by false carried = due_may transfer.to.unit began.put.target

  pub looks_may : All (MayPlan least first) (first_steps first transfer)
  looks_may =
      All-append (MayPlan least first) (repair_steps (units_due first transfer)) (copying_step transfer ∷ []) (repairs_planned least first (units_due first transfer) units_may)
      (All-cons (MayPlan least first) (copying_step transfer) [] copy_may (All-nil (MayPlan least first)))

-- ---- a deletion behind the copy

-- a change that puts a row leaves the data sets of other names
row_stays : {volume next : Volume} (replaced : Bool) (name new : Dsn) (row given : Row) → HasRow volume name row → IsNext volume (putting replaced new given) next → IsNameOf new given.name
    → IsDsn new → new ≢ name → HasRow next name row
row_stays {volume} {next} false name new row given has is named lawful differ =
    let rows = is.0.rows_are in
    record {
      lawful = has.lawful;
      there =
          subst (λ (list : List Row). Contains list row) (sym rows.7) (among_others rows.0 rows.2 rows.1 row (subst (λ (list : List Row). Contains list row) rows.6 has.there));
      name_is = has.name_is;
    }
row_stays {volume} {next} true name new row given has is named lawful differ =
    let rows = is.0.rows_are in
    let front = rows.0 in
    let back = rows.1 in
    let before = rows.2 in
    let after = rows.3 in
    elim (or_other front before back row (subst (λ (list : List Row). Contains list row) rows.8 has.there)) [
      | inl same ↦
          absurd (differ (one_named row.name new name lawful has.lawful (subst (λ (bytes : List ℕ). IsNameOf new bytes) (sym rows.6 ∙ ap (λ (r : Row). r.name) same) named) has.name_is))
      | inr other ↦
          record {
            lawful = has.lawful;
            there = subst (λ (list : List Row). Contains list row) (sym rows.9) (among_others front after back row other);
            name_is = has.name_is;
          }
    ]

changed_by : (replaced : Bool) (name : Dsn) (row : Row) (old new : Volume) → IsNext old (putting replaced name row) new → IsChanged old (putting replaced name row) new
changed_by true name row old new is = is.0
changed_by false name row old new is = is.0

module _ {least : ℕ} {units after : List UnitState} (transfer : Transfer) (may : MayPut least units transfer.from.unit transfer.from.name transfer.to.unit transfer.to.name transfer.runs transfer.replaced)
    (apart : transfer.from.unit ≡ transfer.to.unit → transfer.to.name ≢ transfer.from.name) (deleted : is_deleted transfer ≡ true) (done : IsDone units (copying_step transfer) after) (sound : AreSound after) where
  planned : PlansTransfer transfer units done.0.changes
  planned = transfer_planned transfer units done.0 done.1 done.2

  one_change : done.0.changes ≡ (transfer.to.unit, planned.change) ∷ []
  one_change =
      planned.changes_are ∙ ap (λ (b : Bool). (transfer.to.unit, planned.change) ∷ (if b then (transfer.from.unit, Remove transfer.from.name) ∷ [] else [])) (deleted_within transfer deleted).1

  behind : IsUnitAfter units transfer.to.unit planned.change after
  behind = after_one units after transfer.to.unit planned.change done.0.changes one_change done.3

  within : transfer.from.unit ≡ transfer.to.unit
  within = (deleted_within transfer deleted).0

  was : behind.volume ≡ may.target.volume
  was = same_volume units transfer.to.unit behind.volume may.target.volume behind.loaded may.target.loaded

  same_unit : may.source ≡ may.target.volume
  same_unit = same_volume units transfer.to.unit may.source may.target.volume (subst (λ (u : ℕ). IsLoadedAt units u may.source) within may.source_loaded) may.target.loaded

  next_is : IsNext behind.volume (putting transfer.replaced transfer.to.name planned.copy.row) behind.next
  next_is = subst (λ (c : Change). IsNext behind.volume c behind.next) planned.copy.change_is behind.next_is

  changed : IsChanged behind.volume (putting transfer.replaced transfer.to.name planned.copy.row) behind.next
  changed = changed_by transfer.replaced transfer.to.name planned.copy.row behind.volume behind.next next_is

  still_there : HasRow behind.next transfer.from.name may.row
  still_there =
      row_stays transfer.replaced transfer.from.name transfer.to.name may.row planned.copy.row (subst (λ (v : Volume). HasRow v transfer.from.name may.row) (same_unit ∙ sym was) may.row_is) next_is
      planned.copy.named may.new_is (apart within)

  next_loaded : IsLoadedAt after transfer.from.unit behind.next
  next_loaded = subst (λ (u : ℕ). IsLoadedAt after u behind.next) (sym within) (loaded_after behind)

  delete_may : HasSet least after transfer.from.unit transfer.from.name
  delete_may = record {
    may =
        record {
          volume = behind.next;
          loaded = next_loaded;
          not_indexed = changed.indexed_is ∙ ap (λ (v : Volume). v.indexed) was ∙ may.target.not_indexed;
          few_tracks = subst (λ (run : Run). run.len ≤ (least - 1) / 2) (sym (changed.vtoc_is ∙ ap (λ (v : Volume). v.vtoc) was)) may.target.few_tracks;
        };
    sound = sound transfer.from.unit behind.next next_loaded;
    row = may.row;
    row_is = still_there;
  }

  delete_fits : StatedVolumesHaveRoom → ChangesStateSpace → ¬ LacksRoom after (steps.Delete transfer.from.unit transfer.from.name)
  delete_fits law states lacks =
      let made : PlansDelete after transfer.from.unit transfer.from.name lacks.plan.changes = (delete_planned after lacks.plan transfer.from.unit transfer.from.name lacks.step_is lacks.lawful).1 in
      let one = full_one lacks.full in
      elim (first_or_later (transfer.from.unit, Remove transfer.from.name) one.0 [] (subst (λ (list : List (ℕ × Change)). Contains list one.0) made.changes_are one.2)) [
        | inl same ↦
            let here : (v : Volume) × IsLoadedAt after transfer.from.unit v × room.LacksRoom v (Remove transfer.from.name) =
            subst (λ (c : ℕ × Change). (v : Volume) × IsLoadedAt after c.0 v × room.LacksRoom v c.1) (sym same) (one.1, one.3, one.4) in
            (law behind.next behind.next transfer.from.name may.row (sound transfer.from.unit behind.next next_loaded)
            (states behind.volume behind.next (putting transfer.replaced transfer.to.name planned.copy.row) (putting_no_mark transfer.replaced transfer.to.name planned.copy.row) next_is) still_there may.few).0
            (subst (λ (v : Volume). room.LacksRoom v (Remove transfer.from.name)) (same_volume after transfer.from.unit here.0 behind.next here.1 next_loaded) here.2)
        | inr none ↦ absurd (in_none one.0 none)
      ]

  last_may : StatedVolumesHaveRoom → ChangesStateSpace → MayDo least after (last_steps transfer)
  last_may law states =
      subst (λ (b : Bool). MayDo least after (if b then steps.Delete transfer.from.unit transfer.from.name ∷ [] else [])) (sym deleted)
      (delete_may, delete_fits law states, λ last gone known. tt {0})

-- ---- all of them

module _ {least : ℕ} {first : List UnitState} {transfer : Transfer} (began : MayTransfer least first transfer) (sound : AreSound first) (alike : AlikeChangesHaveRoom) (stated : StatedVolumesHaveRoom) (states : ChangesStateSpace)
    (fit : AllFit first (first_steps first transfer)) where
  copy_fits : Fits first (copying_step transfer)
  copy_fits = All-contains (Fits first) (first_steps first transfer) (copying_step transfer) fit (in_middle (repair_steps (units_due first transfer)) (copying_step transfer) [])

  repairs_fit : (list : List Step) → AllFit first (list ++ (copying_step transfer ∷ [])) → AllFit first list
  repairs_fit [] all = All-nil (Fits first)
  repairs_fit (step ∷ list) all =
      All-cons (Fits first) step list (All-head (Fits first) step (list ++ (copying_step transfer ∷ [])) all)
      (repairs_fit list (All-tail (Fits first) step (list ++ (copying_step transfer ∷ [])) all))

  behind_copy : AfterRepairs least first (copying_step transfer ∷ last_steps transfer)
  behind_copy = may_step least first alike sound (copying_step transfer) (last_steps transfer) (copy_may began) copy_fits next
    where
      next : (units after : List UnitState) → IsBehind first units → AreSound units → IsDone units (copying_step transfer) after → AreSound after → MayDo least after (last_steps transfer)
      next units after behind known done reached = by (is_deleted transfer) refl
        where
          by : (deleted : Bool) → is_deleted transfer ≡ deleted → MayDo least after (last_steps transfer)
          by true deleted = last_may transfer (put_behind least behind known began.put) began.apart deleted done reached stated states
          by false stays =
              subst (λ (b : Bool). MayDo least after (if b then steps.Delete transfer.from.unit transfer.from.name ∷ [] else [])) (sym stays) (tt {0})

  pub may_transfer_all : MayDo least first (steps_of_transfer first transfer)
  may_transfer_all =
      subst (MayDo least first) (sym (append_assoc (repair_steps (units_due first transfer)) (copying_step transfer ∷ []) (last_steps transfer)))
      (may_repairs least first alike sound (units_due first transfer) (copying_step transfer ∷ last_steps transfer) (units_may began) (repairs_fit (repair_steps (units_due first transfer)) fit) behind_copy first
      (behind_itself first) sound)

-- ---- acts

pub transfer_acts : {least : ℕ} {units : List UnitState} {transfer : Transfer} → MayTransfer least units transfer → AreSound units → AlikeChangesHaveRoom → StatedVolumesHaveRoom → ChangesStateSpace → (acts : Acts)
    → acts.steps.items ≡ steps_of_transfer units transfer → acts.looked ≡ length (first_steps units transfer) → MayAct least units acts
transfer_acts {least} {units} {transfer} may sound alike stated states acts steps_are looked =
    may_act acts (first_steps units transfer) (last_steps transfer) steps_are looked least units (looks_may may) (may_transfer_all may sound alike stated states)

module _ {P : Type 0} (pools : Ghosts P) (session : SessionView P) (transfer : Transfer) where
  pub transfer_ends : (acts : Acts) (before after : List Step) (result : Result (Acted P) (Cut P)) → acts.steps.items ≡ steps_of_transfer session.units transfer
      → acts.looked ≡ length (first_steps session.units transfer) → EndsActs pools session acts.steps.items (looked_at acts) before after result
      → EndsTransfer pools session transfer before after result
  transfer_ends acts before after result steps_are looked is =
      subst (λ (list : List Step). EndsActs pools session list (first_steps session.units transfer) before after result) steps_are
      (subst (λ (list : List Step). EndsActs pools session acts.steps.items list before after result)
      (seen_are acts (first_steps session.units transfer) (last_steps transfer) steps_are looked) is)

  pub transfer_short : (before : List Step) → EndsTransfer pools session transfer before before (Err (cuts.Short session))
  transfer_short before = record { added = []; steps_are = sym (append-nil before); run = run_idle (tt {0}); answers = (no_change pools session, inl (refl, refl)) }
