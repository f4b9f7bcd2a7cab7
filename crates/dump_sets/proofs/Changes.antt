-- Data sets of a unit that can be changed one after the other: there is room for each step, and it leaves those of other names.
use Rattle.std.proofs.Common.{◌≡◌, ◌≢◌, ◌⊎◌, inl, inr, ℕ, ◌-◌, ◌/◌, ◌≤◌, Bool, true, false, List, [], ◌∷◌, ◌++◌, length, All, Contains, refl, sym, ap, subst, ◌∙◌, arith}
use Rattle.std.specs.Prelude.{get_or, if◌then◌else◌}
use Rattle.std.proofs.lemmas.List.{length-map}
use Rattle.std.proofs.lemmas.List.Elements.{All-nil, All-cons, All-head, All-contains, Contains-append_left, Contains-append_right, Contains-append_cases}
use Rattle.dsn_filter.specs.declared.dsn.Dsn.{Dsn}
use Rattle.dsn_filter.specs.Dsn.{IsDsn}
use Rattle.volume_model.specs.Pinned.{IsNameOf}
use Rattle.vtoc_core.specs.declared.volume.Row.{Row}
use Rattle.vtoc_core.specs.declared.volume.Volume.{Volume}
use Rattle.vtoc_core.specs.Loaded.{field_of}
use Rattle.volume_change.specs.declared.change.Change.{Change}
use Rattle.volume_change.specs.declared.change.Change.TheVariants.{Repair, Put, Swap, Remove, Mark}
use Rattle.unit_load.specs.declared.state.UnitState.{UnitState}
use Rattle.move_core.specs.declared.steps.Step.{Step}
use Rattle.move_core.specs.declared.steps.Step.TheVariants as steps
use Rattle.job_dumps.specs.job_turns.job_copies.step_room.step_plans.vtoc_render.Next.{IsNext, IsChanged, numbered_from}
use Rattle.job_dumps.specs.job_turns.job_copies.step_room.Room as room
use Rattle.job_dumps.specs.job_turns.job_copies.step_room.Room.{AlikeChangesHaveRoom, StatedVolumesHaveRoom, ChangesStateSpace}
use Rattle.job_dumps.specs.job_turns.job_copies.unit_steps.Plans.{IsLoadedAt, HasRow, extents_in}
use Rattle.job_dumps.proofs.job_turns.job_copies.job_select.OneName.{one_named}
use Rattle.job_dumps.proofs.job_turns.job_copies.unit_change.ChangedRows.{is_changed}
use Rattle.job_dumps.proofs.job_turns.job_copies.unit_steps.OneChange.{same_volume}
use Rattle.job_dumps.proofs.job_turns.job_copies.vtoc_render.NextRows.{fields_same}
use Rattle.job_dumps.specs.job_turns.job_steps.unit_session.Planned.{LacksRecordsFor}
use Rattle.job_dumps.specs.job_turns.job_steps.Carried.{IsUnitAfter}
use Rattle.job_dumps.proofs.job_turns.job_steps.unit_session.unit_steps.Small.{swap_no_mark, remove_no_mark}
use Rattle.job_dumps.specs.job_turns.job_acts.declared.acts.Acts.{Acts}
use Rattle.job_dumps.specs.job_turns.job_acts.Making.{HasSet, MayReset, MayPlan, repair_steps}
use Rattle.job_dumps.specs.job_turns.job_acts.Acting.{AreSound, LacksRoom, IsDone, MayDo, AreDone, MayAct}
use Rattle.job_dumps.proofs.job_turns.job_acts.Kept.{after_one, loaded_after}
use Rattle.job_dumps.proofs.job_turns.job_acts.PlansMade.{repair_planned, delete_planned, reset_planned, same_loaded, one_of}
use Rattle.job_dumps.proofs.job_turns.job_acts.Repairing.{full_one, may_act}
use Rattle.job_dumps.specs.declared.wish.DumpWish.{DumpWish}
use Rattle.job_dumps.specs.job_turns.Stating.{is_unstated}
use Rattle.dump_sets.specs.declared.changing.Dumped.{Dumped}
use Rattle.dump_sets.specs.Changing.{changing_steps, steps_of_dumped, HasFew, MayChangeSets, StaysForOthers}

-- ---- lists

pub only_one : {X : Type 0} (x z : X) → Contains (x ∷ []) z → x ≡ z
only_one {X} x z there = All-contains (λ (y : X). x ≡ y) (x ∷ []) z (All-cons (λ (y : X). x ≡ y) x [] refl (All-nil (λ (y : X). x ≡ y))) there

put_in : {X : Type 0} (front : List X) (x : X) (back : List X) → Contains (front ++ (x ∷ back)) x
put_in front x back = Contains-append_right front (x ∷ back) x (0, omega arith, refl)

-- what stands in a list is the one that is taken out, or stays, whatever is put in its place
taken_out : {X : Type 0} (front : List X) (x : X) (back : List X) (z : X) → Contains (front ++ (x ∷ back)) z → (x ≡ z) ⊎ ((middle : List X) → Contains (front ++ (middle ++ back)) z)
taken_out front x back z there = elim (Contains-append_cases front (x ∷ back) z there) [
  | inl before ↦ inr (λ middle. Contains-append_left front (middle ++ back) z before)
  | inr later ↦ elim (Contains-append_cases (x ∷ []) back z later) [
    | inl here ↦ inl (only_one x z here)
    | inr behind ↦ inr (λ middle. Contains-append_right front (middle ++ back) z (Contains-append_right middle back z behind))
  ]
]

-- ---- a change of a volume

pub no_mark_repair : Repair ≢ Mark
no_mark_repair same = cc

-- it leaves a data set of a name, of at most 16 extents
abbrev Leaves : Change → Dsn → Type 0
Leaves Repair name = Unit {0}
Leaves (Swap swapped row) name = length row.extents ≤ 16
Leaves (Remove removed) name = IsDsn removed × (name ≢ removed)
Leaves _ name = ⊥

has_still : {old new : Volume} {name : Dsn} {row : Row} → HasRow old name row → Contains new.rows row → HasRow new name row
has_still has there = record { lawful = has.lawful; there = there; name_is = has.name_is }

few_left : {old new : Volume} (change : Change) (name : Dsn) → Leaves change name → IsNext old change new → HasFew old name → HasFew new name
few_left Repair name leaves is (row, has, few) = (row, has_still has (subst (λ (rows : List Row). Contains rows row) (sym is.0.rows_are.2) has.there), few)
few_left (Swap swapped given) name leaves is (row, has, few) =
    let rows = is.0.rows_are in
    elim (taken_out rows.0 rows.2 rows.1 row (subst (λ (list : List Row). Contains list row) rows.8 has.there)) [
      | inl same ↦ (
        rows.3,
        record {
          lawful = has.lawful;
          there = subst (λ (list : List Row). Contains list rows.3) (sym rows.9) (put_in rows.0 rows.3 rows.1);
          name_is = subst (IsNameOf name) (ap (λ (r : Row). r.name) (sym same) ∙ rows.6 ∙ sym rows.7.name_is) has.name_is;
        },
        omega (
          arith,
          leaves,
          ap length rows.7.extents_are,
          ap length (fields_same 0 given.extents),
          length-map (numbered_from 0 given.extents) field_of,
          length-map given.extents field_of,
        ),
      )
      | inr stays ↦ (row, has_still has (subst (λ (list : List Row). Contains list row) (sym rows.9) (stays (rows.3 ∷ []))), few)
    ]
few_left (Remove removed) name leaves is (row, has, few) =
    let rows = is.0.rows_are in
    elim (taken_out rows.0 rows.2 rows.1 row (subst (λ (list : List Row). Contains list row) rows.6 has.there)) [
      | inl same ↦
          absurd (leaves.1 (one_named row.name name removed has.lawful leaves.0 has.name_is (subst (λ (r : Row). IsNameOf removed r.name) same rows.5)))
      | inr stays ↦ (row, has_still has (subst (λ (list : List Row). Contains list row) (sym rows.7) (stays [])), few)
    ]
few_left (Put given) name leaves is has = absurd leaves
few_left Mark name leaves is has = absurd leaves

-- ---- a step that was done

module _ (space : ChangesStateSpace) {least : ℕ} {units after : List UnitState} {unit : ℕ} (names : List Dsn) where
  -- data sets that a change leaves can still be changed
  still : (change : Change) → change ≢ Mark → All (Leaves change) names → IsUnitAfter units unit change after → MayChangeSets least units unit names → MayChangeSets least after unit names
  still change no_mark leaves done may =
      let same : may.may.volume ≡ done.volume = same_volume units unit may.may.volume done.volume may.may.loaded done.loaded in
      let next : IsNext may.may.volume change done.next = subst (λ (v : Volume). IsNext v change done.next) (sym same) done.next_is in
      let changed : IsChanged may.may.volume change done.next = is_changed may.may.volume done.next change no_mark next in
      record {
        may =
            record {
              volume = done.next;
              loaded = loaded_after done;
              not_indexed = changed.indexed_is ∙ may.may.not_indexed;
              few_tracks = subst (λ (len : ℕ). len ≤ (least - 1) / 2) (λ i. (sym changed.vtoc_is i).len) may.may.few_tracks;
            };
        stated = done.next;
        states = space may.may.volume done.next change no_mark next;
        sets = λ k d less. few_left change (get_or names k d) (leaves k d less) next (may.sets k d less);
      }

  repair_leaves : IsDone units (steps.Repair unit) after → MayChangeSets least units unit names → MayChangeSets least after unit names
  repair_leaves done =
      still Repair no_mark_repair (λ k d less. tt {0}) (after_one units after unit Repair done.0.changes (repair_planned units done.0 unit done.1 done.2).1.changes_are done.3)

  module _ (name : Dsn) where
    reset_leaves : IsDone units (steps.ResetFlag unit name) after → MayChangeSets least units unit names → MayChangeSets least after unit names
    reset_leaves done =
        let swap = (reset_planned units done.0 unit name done.1 done.2).1.swap in
        still (Swap name swap.row) (swap_no_mark name swap.row) (λ k d less. swap.may.1.3.few) (after_one units after unit (Swap name swap.row) done.0.changes swap.changes_are done.3)

    delete_leaves : All (λ other. other ≢ name) names → IsDone units (steps.Delete unit name) after → MayChangeSets least units unit names → MayChangeSets least after unit names
    delete_leaves differ done =
        let made = (delete_planned units done.0 unit name done.1 done.2).1 in
        still (Remove name) (remove_no_mark name) (λ k d less. (made.old_is.lawful, differ k d less)) (after_one units after unit (Remove name) done.0.changes made.changes_are done.3)

-- ---- the steps of a data set that were done

module _ (space : ChangesStateSpace) (least unit : ℕ) (name : Dsn) (names : List Dsn) (differ : All (λ other. other ≢ name) names) where
  -- what can be changed before steps can be changed behind them
  abbrev Leave : List Step → Type 0
  Leave list = (units after : List UnitState) → AreDone units list after → MayChangeSets least units unit names → MayChangeSets least after unit names

  none_leaves : Leave []
  none_leaves units after are may = subst (λ (list : List UnitState). MayChangeSets least list unit names) (sym are) may

  deletes_leave : (delete : Bool) → Leave (if delete then steps.Delete unit name ∷ [] else [])
  deletes_leave true units after are may = none_leaves are.0 after are.3 (delete_leaves space names name differ are.1 may)
  deletes_leave false units after are may = none_leaves units after are may

  changes_leave : (reset delete : Bool) → Leave ((if reset then steps.ResetFlag unit name ∷ [] else []) ++ (if delete then steps.Delete unit name ∷ [] else []))
  changes_leave true delete units after are may = deletes_leave delete are.0 after are.3 (reset_leaves space names name are.1 may)
  changes_leave false delete units after are may = deletes_leave delete units after are may

  all_leave : (wish : DumpWish) (unstated : Bool) → Leave (repair_steps (if unstated then unit ∷ [] else []) ++ changing_steps wish unit name)
  all_leave wish true units after are may = changes_leave wish.reset wish.delete are.0 after are.3 (repair_leaves space names are.1 may)
  all_leave wish false units after are may = changes_leave wish.reset wish.delete units after are may

-- data sets of other names can still be changed behind them
pub stays_done : ChangesStateSpace → (dumped : Dumped) (room : ℕ) (units after : List UnitState) → AreDone units (steps_of_dumped units dumped) after
    → StaysForOthers room units after dumped.unit dumped.name
stays_done space dumped room units after are names differ = all_leave space room dumped.unit dumped.name names differ dumped.wish (is_unstated units dumped.unit) units after are

-- ---- room for a step

-- the one change of a plan lacks room
one_lacks : {units : List UnitState} {unit : ℕ} {change : Change} {changes : List (ℕ × Change)} {need free : ℕ} → changes ≡ (unit, change) ∷ [] → LacksRecordsFor units changes need free
    → (volume : Volume) → IsLoadedAt units unit volume → room.LacksRoom volume change
one_lacks {units} {unit} {change} {changes} are full volume loaded =
    let one = full_one full in
    let same : (unit, change) ≡ one.0 = only_one (unit, change) one.0 (subst (λ (list : List (ℕ × Change)). Contains list one.0) are one.2) in
    let here : (v : Volume) × IsLoadedAt units unit v × room.LacksRoom v change =
    subst (λ (c : ℕ × Change). (v : Volume) × IsLoadedAt units c.0 v × room.LacksRoom v c.1) (sym same) (one.1, one.3, one.4) in
    subst (λ (v : Volume). room.LacksRoom v change) (same_volume units unit here.0 volume here.1 loaded) here.2

module _ {least : ℕ} {units : List UnitState} {unit : ℕ} (sound : AreSound units) where
  -- free space can be stated
  repair_fits : {names : List Dsn} → MayChangeSets least units unit names → AlikeChangesHaveRoom → ¬ LacksRoom units (steps.Repair unit)
  repair_fits may law lacks =
      let volume = may.may.volume in
      let made = (repair_planned units lacks.plan unit lacks.step_is lacks.lawful).1 in
      law volume volume may.stated Repair Repair (sound unit volume may.may.loaded) (inl refl) may.states (tt {0}) (one_lacks made.changes_are lacks.full volume may.may.loaded)

  -- a data set can be reset, and can go
  module _ {name : Dsn} (may : MayChangeSets least units unit (name ∷ [])) where
    abbrev few_one : HasFew may.may.volume name
    few_one = All-head (HasFew may.may.volume) name [] may.sets

    abbrev its_set : HasSet least units unit name
    its_set = record { may = may.may; sound = sound unit may.may.volume may.may.loaded; row = few_one.0; row_is = few_one.1 }

    its_reset : MayReset least units unit name
    its_reset = record { set = its_set; few = few_one.2 }

    delete_fits : StatedVolumesHaveRoom → ¬ LacksRoom units (steps.Delete unit name)
    delete_fits law lacks =
        let made = (delete_planned units lacks.plan unit name lacks.step_is lacks.lawful).1 in
        (law may.may.volume may.stated name few_one.0 its_set.sound may.states few_one.1 few_one.2).0 (one_lacks made.changes_are lacks.full may.may.volume may.may.loaded)

    reset_fits : StatedVolumesHaveRoom → ¬ LacksRoom units (steps.ResetFlag unit name)
    reset_fits law lacks =
        let made = (reset_planned units lacks.plan unit name lacks.step_is lacks.lawful).1 in
        let swap = made.swap in
        let there : swap.volume ≡ may.may.volume = same_loaded its_set swap.volume swap.loaded in
        let same : swap.old ≡ few_one.0 = one_of its_set swap.volume swap.loaded swap.old swap.old_is in
        (law may.may.volume may.stated name few_one.0 its_set.sound may.states few_one.1 few_one.2).1 swap.row (made.row_is.name_is ∙ ap (λ (r : Row). r.name) same)
        (subst (λ (v : Volume). extents_in v swap.row ≡ extents_in v few_one.0) there (made.row_is.extents_are ∙ ap (λ (r : Row). extents_in swap.volume r) same))
        (one_lacks swap.changes_are lacks.full may.may.volume may.may.loaded)

-- ---- the steps of a data set may be done

module _ (alike : AlikeChangesHaveRoom) (stated : StatedVolumesHaveRoom) (space : ChangesStateSpace) (least unit : ℕ) (name : Dsn) where
  -- steps may be done one after the other, wherever the data set can be changed
  abbrev MayAll : List Step → Type 0
  MayAll list = (units : List UnitState) → AreSound units → MayChangeSets least units unit (name ∷ []) → MayDo least units list

  deletes_may : (delete : Bool) → MayAll (if delete then steps.Delete unit name ∷ [] else [])
  deletes_may true units sound may = (its_set sound may, delete_fits sound may stated, λ after done known. tt {0})
  deletes_may false units sound may = tt {0}

  changes_may : (reset delete : Bool) → MayAll ((if reset then steps.ResetFlag unit name ∷ [] else []) ++ (if delete then steps.Delete unit name ∷ [] else []))
  changes_may true delete units sound may = (
    its_reset sound may,
    reset_fits sound may stated,
    λ after done known. deletes_may delete after known (reset_leaves space (name ∷ []) name done may),
  )
  changes_may false delete units sound may = deletes_may delete units sound may

  all_may : (wish : DumpWish) (unstated : Bool) → MayAll (repair_steps (if unstated then unit ∷ [] else []) ++ changing_steps wish unit name)
  all_may wish true units sound may = (
    may.may,
    repair_fits sound may alike,
    λ after done known. changes_may wish.reset wish.delete after known (repair_leaves space (name ∷ []) done may),
  )
  all_may wish false units sound may = changes_may wish.reset wish.delete units sound may

-- so nothing is looked at before
pub dumped_acts : AlikeChangesHaveRoom → StatedVolumesHaveRoom → ChangesStateSpace → {least : ℕ} {units : List UnitState} (dumped : Dumped) → AreSound units
    → MayChangeSets least units dumped.unit (dumped.name ∷ []) → (acts : Acts) → acts.steps.items ≡ steps_of_dumped units dumped → acts.looked ≡ 0 → MayAct least units acts
dumped_acts alike stated space {least} {units} dumped sound may acts steps_are looked =
    may_act acts [] (steps_of_dumped units dumped) steps_are looked least units (All-nil (MayPlan least units))
    (λ fit. all_may alike stated space least dumped.unit dumped.name dumped.wish (is_unstated units dumped.unit) units sound may)
