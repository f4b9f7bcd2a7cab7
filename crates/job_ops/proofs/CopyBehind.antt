-- The units behind a copy: data sets of other names may still be copied.
use Rattle.std.proofs.Common.{◌≡◌, ◌≢◌, inl, inr, ℕ, ◌-◌, ◌/◌, ◌≤◌, Bool, true, false, List, [], ◌∷◌, ◌++◌, All, Contains, Some, refl, sym, ap, subst, ◌∙◌, append_assoc}
use Rattle.std.specs.Prelude.{slice_get, if◌then◌else◌}
use Rattle.std.proofs.lemmas.Bool.{cases_eq}
use Rattle.std.proofs.lemmas.List.Elements.{All-nil, All-cons, All-head, All-tail}
use Rattle.dasd_pool.proofs.Slices.{get_set_other}
use Rattle.dsn_filter.specs.declared.dsn.Dsn.{Dsn}
use Rattle.dsn_filter.specs.Dsn.{IsDsn}
use Rattle.free_map.specs.declared.run.Run.{Run}
use Rattle.volume_model.specs.Pinned.{IsNameOf}
use Rattle.vtoc_core.specs.declared.volume.Row.{Row}
use Rattle.vtoc_core.specs.declared.volume.Volume.{Volume}
use Rattle.vtoc_layout.proofs.Distinct.{in_middle, or_other, among_others}
use Rattle.volume_change.specs.declared.change.Change.{Change}
use Rattle.volume_change.specs.declared.change.Change.TheVariants.{Repair, Put, Swap, Remove, Mark}
use Rattle.dump_sets.specs.job_turns.job_copies.vtoc_render.Next.{IsNext, IsChanged}
use Rattle.unit_load.specs.declared.state.UnitState.{UnitState}
use Rattle.unit_load.specs.declared.state.UnitState.TheVariants.{Online}
use Rattle.move_core.specs.declared.steps.Step.{Step}
use Rattle.move_core.specs.declared.steps.Step.TheVariants as steps
use Rattle.dump_sets.specs.job_turns.job_copies.unit_steps.Plans.{IsLoadedAt, HasRow, putting}
use Rattle.dump_sets.proofs.job_turns.job_copies.unit_steps.OneChange.{same_volume}
use Rattle.dump_sets.proofs.job_turns.job_copies.job_select.OneName.{one_named}
use Rattle.dump_sets.specs.job_turns.job_steps.Carried.{IsUnitAfter, AreUnitsAfter}
use Rattle.job_ops.specs.declared.transfer.Transfer.{Transfer}
use Rattle.dump_sets.specs.job_turns.job_acts.Making.{MayBeChanged}
use Rattle.dump_sets.specs.job_turns.job_acts.Making.{repair_steps}
use Rattle.dump_sets.specs.job_turns.job_acts.Acting.{AreDone, IsDone}
use Rattle.job_ops.specs.Transfers.{is_carried, is_deleted, units_due, copying_step, last_steps, steps_of_transfer}
use Rattle.job_ops.specs.Copying.{MayBeCopied, StaysCopyable}
use Rattle.dump_sets.proofs.job_turns.job_acts.Kept.{loaded_after}
use Rattle.dump_sets.proofs.job_turns.job_acts.PlansMade.{repair_planned}
use Rattle.dump_sets.proofs.job_turns.job_acts.PlansMade.{delete_planned}
use Rattle.job_ops.proofs.Transferring.{transfer_planned}

-- ---- one change

-- a change leaves data sets of these names
abbrev Spares : List Dsn → Change → Type 0
Spares names (Remove name) = IsDsn name × All (λ other. other ≢ name) names
Spares names Mark = ⊥
Spares names _ = Unit {0}

-- what stays of a volume behind a change
record Stays (old new : Volume) : Type 0 where
  pub device_is : new.device ≡ old.device
  pub vtoc_is : new.vtoc ≡ old.vtoc
  pub indexed_is : new.indexed ≡ old.indexed

of_changed : {old new : Volume} (change : Change) → IsChanged old change new → Stays old new
of_changed change changed = record { device_is = changed.device_is; vtoc_is = changed.vtoc_is; indexed_is = changed.indexed_is }

stays : (names : List Dsn) {old new : Volume} (change : Change) → Spares names change → IsNext old change new → Stays old new
stays names Repair spares is = of_changed Repair is.0
stays names (Put row) spares is = of_changed (Put row) is.0
stays names (Swap name row) spares is = of_changed (Swap name row) is.0
stays names (Remove name) spares is = of_changed (Remove name) is.0
stays names Mark spares is = absurd spares

row_left : {old new : Volume} (change : Change) (name : Dsn) (row : Row) → Spares (name ∷ []) change → IsNext old change new → HasRow old name row → (other : Row) × HasRow new name other
row_left Repair name row spares is has = (
  row,
  record { lawful = has.lawful; there = subst (λ (rows : List Row). Contains rows row) (sym is.0.rows_are.2) has.there; name_is = has.name_is },
)
row_left (Put given) name row spares is has =
    let rows = is.0.rows_are in (
      row,
      record {
        lawful = has.lawful;
        there =
            subst (λ (list : List Row). Contains list row) (sym rows.7) (among_others rows.0 rows.2 rows.1 row (subst (λ (list : List Row). Contains list row) rows.6 has.there));
        name_is = has.name_is;
      },
    )
row_left {old} {new} (Swap swapped given) name row spares is has =
    let rows = is.0.rows_are in
    elim (or_other rows.0 rows.2 rows.1 row (subst (λ (list : List Row). Contains list row) rows.8 has.there)) [
      | inl same ↦ (
        rows.3,
        record {
          lawful = has.lawful;
          there = subst (λ (list : List Row). Contains list rows.3) (sym rows.9) (in_middle rows.0 rows.3 rows.1);
          name_is = subst (IsNameOf name) (ap (λ (r : Row). r.name) (sym same) ∙ rows.6 ∙ sym rows.7.name_is) has.name_is;
        },
      )
      | inr other ↦ (
        row,
        record {
          lawful = has.lawful;
          there = subst (λ (list : List Row). Contains list row) (sym rows.9) (among_others rows.0 rows.3 rows.1 row other);
          name_is = has.name_is;
        },
      )
    ]
row_left (Remove removed) name row spares is has =
    let rows = is.0.rows_are in
    elim (or_other rows.0 rows.2 rows.1 row (subst (λ (list : List Row). Contains list row) rows.6 has.there)) [
      | inl same ↦
          absurd (All-head (λ (other : Dsn). other ≢ removed) name [] spares.1
          (one_named row.name name removed has.lawful spares.0 has.name_is (subst (λ (r : Row). IsNameOf removed r.name) same rows.5)))
      | inr other ↦ (row, record { lawful = has.lawful; there = subst (λ (list : List Row). Contains list row) (sym rows.7) other; name_is = has.name_is })
    ]
row_left Mark name row spares is has = absurd spares

spares_first : (name : Dsn) (names : List Dsn) (change : Change) → Spares (name ∷ names) change → Spares (name ∷ []) change
spares_first name names Repair spares = tt
spares_first name names (Put row) spares = tt
spares_first name names (Swap swapped row) spares = tt
spares_first name names (Remove removed) spares =
    (spares.0, All-cons (λ (other : Dsn). other ≢ removed) name [] (All-head (λ (other : Dsn). other ≢ removed) name names spares.1) (All-nil (λ (other : Dsn). other ≢ removed)))
spares_first name names Mark spares = absurd spares

spares_rest : (name : Dsn) (names : List Dsn) (change : Change) → Spares (name ∷ names) change → Spares names change
spares_rest name names Repair spares = tt
spares_rest name names (Put row) spares = tt
spares_rest name names (Swap swapped row) spares = tt
spares_rest name names (Remove removed) spares = (spares.0, All-tail (λ (other : Dsn). other ≢ removed) name names spares.1)
spares_rest name names Mark spares = absurd spares

rows_left : {old new : Volume} (change : Change) (names : List Dsn) → Spares names change → IsNext old change new → All (λ name. (row : Row) × HasRow old name row) names
    → All (λ name. (row : Row) × HasRow new name row) names
rows_left {old} {new} change [] spares is all = All-nil (λ (name : Dsn). (row : Row) × HasRow new name row)
rows_left {old} {new} change (name ∷ names) spares is all =
    let one = All-head (λ (n : Dsn). (row : Row) × HasRow old n row) name names all in
    All-cons (λ (n : Dsn). (row : Row) × HasRow new n row) name names (row_left change name one.0 (spares_first name names change spares) is one.1)
    (rows_left change names (spares_rest name names change spares) is (All-tail (λ (n : Dsn). (row : Row) × HasRow old n row) name names all))

-- ---- the units behind it

module _ {units after : List UnitState} {unit : ℕ} {change : Change} (names : List Dsn) (is : IsUnitAfter units unit change after) (spares : Spares names change) where
  -- a unit's volume
  record Behind (other : ℕ) (volume : Volume) : Type 0 where
    pub next : Volume
    pub loaded : IsLoadedAt after other next
    pub stays : Stays volume next
    pub rows : All (λ name. (row : Row) × HasRow volume name row) names → All (λ name. (row : Row) × HasRow next name row) names

  abbrev behind : (other : ℕ) (volume : Volume) → IsLoadedAt units other volume → Behind other volume
  behind other volume at = elim (cases_eq unit other) [
    | inl same ↦
        let one : volume ≡ is.volume = same_volume units unit volume is.volume (subst (λ (u : ℕ). IsLoadedAt units u volume) (sym same) at) is.loaded in
        let next : IsNext volume change is.next = subst (λ (v : Volume). IsNext v change is.next) (sym one) is.next_is in
        record {
          next = is.next;
          loaded = subst (λ (u : ℕ). IsLoadedAt after u is.next) same (loaded_after is);
          stays = stays names change spares next;
          rows = rows_left change names spares next;
        }
    | inr differ ↦
        record {
          next = volume;
          loaded = subst (λ (list : List UnitState). slice_get list other ≡ Some (Online volume)) (sym is.after_is) (get_set_other units unit other (Online is.next) (λ same. differ (sym same)) ∙ at);
          stays = record { device_is = refl; vtoc_is = refl; indexed_is = refl };
          rows = λ all. all;
        }
  ]

  abbrev changeable : {room : ℕ} (other : ℕ) → MayBeChanged room units other → MayBeChanged room after other
  changeable {room} other may =
      let b = behind other may.volume may.loaded in
      record {
        volume = b.next;
        loaded = b.loaded;
        not_indexed = b.stays.indexed_is ∙ may.not_indexed;
        few_tracks = subst (λ (run : Run). run.len ≤ (room - 1) / 2) (sym b.stays.vtoc_is) may.few_tracks;
      }

  one_copied : {delete : Bool} {room from to : ℕ} → MayBeCopied delete room units from to names → MayBeCopied delete room after from to names
  one_copied {delete} {room} {from} {to} may =
      let source = behind from may.source may.source_loaded in
      let target = behind to may.target.volume may.target.loaded in
      record {
        source = source.next;
        source_loaded = source.loaded;
        may_source = λ deleted. changeable from (may.may_source deleted);
        target = changeable to may.target;
        like = target.stays.device_is ∙ may.like ∙ sym source.stays.device_is;
        sets = source.rows may.sets;
      }

-- several changes
all_copied : {units after : List UnitState} (names : List Dsn) (changes : List (ℕ × Change)) → All (λ (change : ℕ × Change). Spares names change.1) changes → AreUnitsAfter units changes after
    → {delete : Bool} {room from to : ℕ} → MayBeCopied delete room units from to names → MayBeCopied delete room after from to names
all_copied {units} {after} names [] spare are {delete} {room} {from} {to} may = subst (λ (list : List UnitState). MayBeCopied delete room list from to names) (sym are) may
all_copied {units} {after} names (change ∷ changes) spare are may =
    all_copied names changes (All-tail (λ (c : ℕ × Change). Spares names c.1) change changes spare) are.2
    (one_copied names are.1 (All-head (λ (c : ℕ × Change). Spares names c.1) change changes spare) may)

-- ---- the steps of a transfer

module _ (transfer : Transfer) (names : List Dsn) (lawful : IsDsn transfer.from.name) (differ : All (λ other. other ≢ transfer.from.name) names) where
  abbrev SparesAll : List (ℕ × Change) → Type 0
  SparesAll changes = All (λ (change : ℕ × Change). Spares names change.1) changes

  abbrev SparesOne : ℕ × Change → Type 0
  SparesOne change = Spares names change.1

  spares_putting : (replaced : Bool) (name : Dsn) (row : Row) → Spares names (putting replaced name row)
  spares_putting true name row = tt
  spares_putting false name row = tt

  spares_taking : (carried : Bool) → SparesAll (if carried then (transfer.from.unit, Remove transfer.from.name) ∷ [] else [])
  spares_taking true = All-cons SparesOne (transfer.from.unit, Remove transfer.from.name) [] (lawful, differ) (All-nil SparesOne)
  spares_taking false = All-nil SparesOne

  repair_spares : (units after : List UnitState) (unit : ℕ) (done : IsDone units (steps.Repair unit) after) → SparesAll done.0.changes
  repair_spares units after unit done =
      subst SparesAll (sym (repair_planned units done.0 unit done.1 done.2).1.changes_are) (All-cons SparesOne (unit, Repair) [] (tt {0}) (All-nil SparesOne))

  copy_spares : (units after : List UnitState) (done : IsDone units (copying_step transfer) after) → SparesAll done.0.changes
  copy_spares units after done =
      let plan = transfer_planned transfer units done.0 done.1 done.2 in
      subst SparesAll (sym plan.changes_are)
      (All-cons SparesOne (transfer.to.unit, plan.change) (if is_carried transfer then (transfer.from.unit, Remove transfer.from.name) ∷ [] else [])
      (subst (Spares names) (sym plan.copy.change_is) (spares_putting transfer.replaced transfer.to.name plan.copy.row)) (spares_taking (is_carried transfer)))

  delete_spares : (units after : List UnitState) (done : IsDone units (steps.Delete transfer.from.unit transfer.from.name) after) → SparesAll done.0.changes
  delete_spares units after done =
      subst SparesAll (sym (delete_planned units done.0 transfer.from.unit transfer.from.name done.1 done.2).1.changes_are)
      (All-cons SparesOne (transfer.from.unit, Remove transfer.from.name) [] (lawful, differ) (All-nil SparesOne))

  -- what may be copied before steps may be copied behind them
  abbrev Spare : List Step → Type 0
  Spare list = (units after : List UnitState) → AreDone units list after → (delete : Bool) (room from to : ℕ) → MayBeCopied delete room units from to names → MayBeCopied delete room after from to names

  none_done : Spare []
  none_done units after are delete room from to may = subst (λ (l : List UnitState). MayBeCopied delete room l from to names) (sym are) may

  one_done : (step : Step) (list : List Step) → ((units after : List UnitState) (done : IsDone units step after) → SparesAll done.0.changes) → Spare list → Spare (step ∷ list)
  one_done step list spares later units after are delete room from to may = later are.0 after are.3 delete room from to (all_copied names are.1.0.changes (spares units are.0 are.1) are.1.3 may)

  repairs_done : (due : List ℕ) (list : List Step) → Spare list → Spare (repair_steps due ++ list)
  repairs_done [] list later = later
  repairs_done (unit ∷ due) list later = one_done (steps.Repair unit) (repair_steps due ++ list) (λ units after done. repair_spares units after unit done) (repairs_done due list later)

  last_done : (deleted : Bool) → Spare (if deleted then steps.Delete transfer.from.unit transfer.from.name ∷ [] else [])
  last_done true = one_done (steps.Delete transfer.from.unit transfer.from.name) [] delete_spares none_done
  last_done false = none_done

  pub done_copied : (units : List UnitState) → Spare (steps_of_transfer units transfer)
  done_copied units =
      subst Spare (sym (append_assoc (repair_steps (units_due units transfer)) (copying_step transfer ∷ []) (last_steps transfer)))
      (repairs_done (units_due units transfer) (copying_step transfer ∷ last_steps transfer)
      (one_done (copying_step transfer) (last_steps transfer) copy_spares (last_done (is_deleted transfer))))

-- a transfer that was done leaves the data sets of other names
pub stays_done : (transfer : Transfer) (units after : List UnitState) (delete : Bool) (room from to : ℕ) → IsDsn transfer.from.name → AreDone units (steps_of_transfer units transfer) after
    → StaysCopyable delete room units after from to transfer.from.name
stays_done transfer units after delete room from to lawful are names differ may = done_copied transfer names lawful differ units units after are delete room from to may

pub stays_same : (units after : List UnitState) (delete : Bool) (room from to : ℕ) (name : Dsn) → after ≡ units → StaysCopyable delete room units after from to name
stays_same units after delete room from to name same names differ may = subst (λ (l : List UnitState). MayBeCopied delete room l from to names) (sym same) may
