-- Two plans of one step change alike, where the second stands on the same units behind repairs.
use Rattle.std.proofs.Common.{◌≡◌, ◌≢◌, ◌⊎◌, inl, inr, ℕ, Bool, true, false, List, [], ◌∷◌, length, Contains, refl, sym, ap, subst, ◌∙◌}
use Rattle.std.proofs.lemmas.List.{length-map}
use Rattle.ckd_image.specs.declared.device.Device.{Device}
use Rattle.ckd_image.specs.Device.{heads_of}
use Rattle.dscb_rec.specs.declared.field.Extent.{Extent as Field}
use Rattle.dsn_filter.specs.declared.dsn.Dsn.{Dsn}
use Rattle.free_map.specs.declared.run.Run.{Run}
use Rattle.volume_model.specs.Reads.{extent_in}
use Rattle.volume_model.specs.Unit.{Extent, run_in}
use Rattle.vtoc_core.specs.declared.volume.Row.{Row}
use Rattle.vtoc_core.specs.declared.volume.Volume.{Volume}
use Rattle.vtoc_core.specs.Loaded.{field_of}
use Rattle.volume_change.specs.declared.change.Change.{Change}
use Rattle.volume_change.specs.declared.change.Change.TheVariants.{Repair, Remove, Swap}
use Rattle.volume_change.proofs.Names.{one_text}
use Rattle.step_room.specs.unit_change.Changed.{extents_of}
use Rattle.unit_load.specs.declared.state.UnitState.{UnitState}
use Rattle.move_core.specs.declared.steps.Origin.TheVariants as origins
use Rattle.move_core.specs.declared.steps.Step.{Step}
use Rattle.move_core.specs.declared.steps.Step.TheVariants as steps
use Rattle.move_core.specs.Steps.{IsNewKind, KeepsExtents, JoinsExtents, cut, extents_on}
use Rattle.step_room.specs.unit_steps.declared.plan.Plan.{Plan}
use Rattle.step_room.specs.unit_steps.Plans.{IsLoadedAt, HasRow, SwapsRow, PlansReset, PlansShrink, PlansMove, PlansCopy, PlansPut, PlansCarry, IsPlan, extents_in, putting}
use Rattle.step_room.proofs.unit_steps.OneChange.{same_volume}
use Rattle.step_room.specs.Room.{AreAlike, IsAsBefore}
use Rattle.step_room.proofs.SoundRows.{one_row}
use Rattle.job_acts.specs.Making.{MayJoin, MayPlan}
use Rattle.job_acts.specs.Acting.{AreSound}
use Rattle.job_acts.proofs.Kept.{IsBehind, kept}
use Rattle.job_acts.proofs.PlansMade.{repair_planned, delete_planned, reset_planned, cut_planned, join_planned, put_planned, carry_planned}

-- ---- changes that are alike

abbrev pub IsAlikeAt : List UnitState → ℕ → Change → Change → Type 0
IsAlikeAt first unit change other = (volume : Volume) → IsLoadedAt first unit volume → AreAlike (heads_of volume.device) change other

-- on the same units one after the other
abbrev pub AreAlikeChanges : List UnitState → List (ℕ × Change) → List (ℕ × Change) → Type 0
AreAlikeChanges first [] [] = Unit {0}
AreAlikeChanges first (one ∷ more) (other ∷ others) = (other.0 ≡ one.0) × IsAlikeAt first one.0 one.1 other.1 × AreAlikeChanges first more others
AreAlikeChanges first _ _ = ⊥

module _ (first : List UnitState) where
  one_alike : (unit : ℕ) (change other : Change) (changes others : List (ℕ × Change)) → changes ≡ (unit, change) ∷ [] → others ≡ (unit, other) ∷ [] → IsAlikeAt first unit change other
      → AreAlikeChanges first changes others
  one_alike unit change other changes others are were alike =
      subst (λ (list : List (ℕ × Change)). AreAlikeChanges first list others) (sym are)
      (subst (λ (list : List (ℕ × Change)). AreAlikeChanges first ((unit, change) ∷ []) list) (sym were) (refl, alike, tt {0}))

  two_alike : (unit from : ℕ) (change other taken : Change) (changes others : List (ℕ × Change)) → changes ≡ (unit, change) ∷ ((from, taken) ∷ [])
      → others ≡ (unit, other) ∷ ((from, taken) ∷ []) → IsAlikeAt first unit change other → IsAlikeAt first from taken taken → AreAlikeChanges first changes others
  two_alike unit from change other taken changes others are were alike same =
      subst (λ (list : List (ℕ × Change)). AreAlikeChanges first list others) (sym are)
      (subst (λ (list : List (ℕ × Change)). AreAlikeChanges first ((unit, change) ∷ ((from, taken) ∷ [])) list) (sym were) (refl, alike, (refl, same, tt {0})))

-- ---- what extents become

pub one_kind : (extents : List Extent) (a b : ℕ) → IsNewKind extents a → IsNewKind extents b → a ≡ b
one_kind extents a b (inl one) (inl other) = one.1 ∙ sym other.1
one_kind extents a b (inl one) (inr other) = absurd (other.0 one.0)
one_kind extents a b (inr one) (inl other) = absurd (one.0 other.0)
one_kind extents a b (inr one) (inr other) = one.1 ∙ sym other.1

joined : {old : List Extent} {run : Run} {new : List Extent} → length old ≢ 1 → (KeepsExtents old (run ∷ []) new ⊎ JoinsExtents old (run ∷ []) new) → JoinsExtents old (run ∷ []) new
joined {old} {run} {new} several (inl keeps) =
    absurd (several (sym (length-map old (λ (extent : Extent). extent.run.len)) ∙ ap length (sym keeps.lengths_are)
    ∙ length-map new (λ (extent : Extent). extent.run.len) ∙ sym (length-map new run_in) ∙ ap length keeps.runs_are))
joined {old} {run} {new} several (inr joins) = joins

one_joined : {old : List Extent} {run : Run} (a b : List Extent) → JoinsExtents old (run ∷ []) a → JoinsExtents old (run ∷ []) b → a ≡ b
one_joined {old} {run} a b one other =
    one.new_is ∙ ap (λ (kind : ℕ). extents_on kind (run ∷ [])) (one_kind old one.kind other.kind one.kind_is other.kind_is) ∙ sym other.new_is

-- a data set that may move into one extent has another number of them, and so a plan of it joins them
module _ {room : ℕ} {units : List UnitState} {unit : ℕ} {name : Dsn} {to : List Run} {changes : List (ℕ × Change)} (may : MayJoin room units unit name to) (plan : PlansMove units unit name to changes) where
  pub has_several : length (extents_in plan.swap.volume plan.swap.old) ≢ 1
  has_several one =
      let same : plan.swap.volume ≡ may.set.may.volume = same_volume units unit plan.swap.volume may.set.may.volume plan.swap.loaded may.set.may.loaded in
      let there : HasRow may.set.may.volume name plan.swap.old = subst (λ (v : Volume). HasRow v name plan.swap.old) same plan.swap.old_is in
      let row : plan.swap.old ≡ may.set.row =
      one_row may.set.may.volume may.set.sound plan.swap.old may.set.row there.there may.set.row_is.there (one_text name plan.swap.old.name may.set.row.name there.name_is may.set.row_is.name_is) in
      may.several
      (ap (λ (r : Row). length r.extents) (sym row) ∙ sym (length-map plan.swap.old.extents (λ (extent : Field). extent_in (heads_of plan.swap.volume.device) (field_of extent))) ∙ one)

  pub join_extents : JoinsExtents (extents_in plan.swap.volume plan.swap.old) (may.run ∷ []) plan.extents
  join_extents =
      let old = extents_in plan.swap.volume plan.swap.old in
      joined has_several (subst (λ (runs : List Run). KeepsExtents old runs plan.extents ⊎ JoinsExtents old runs plan.extents) may.to_is plan.extents_are)

-- ---- rows of one data set

module _ {first units : List UnitState} (sound : AreSound first) (behind : IsBehind first units) where
  -- the volume of a unit behind the repairs is the one before it, but for its free space
  module _ (unit : ℕ) (old new : Volume) (old_loaded : IsLoadedAt first unit old) (new_loaded : IsLoadedAt units unit new) where
    as_before : IsAsBefore old new
    as_before =
        let stands = behind.stands unit old old_loaded in
        subst (IsAsBefore old) (same_volume units unit stands.next new stands.loaded new_loaded) stands.as_before

    same_device : new.device ≡ old.device
    same_device = (kept as_before).device_is

    same_row : (name : Dsn) (one other : Row) → HasRow old name one → HasRow new name other → other ≡ one
    same_row name one other has now =
        one_row old (sound unit old old_loaded) other one (subst (λ (rows : List Row). Contains rows other) (kept as_before).rows_are now.there) has.there
        (one_text name other.name one.name now.name_is has.name_is)

    same_extents : (one other : Row) → other ≡ one → extents_in new other ≡ extents_in old one
    same_extents one other same = λ i. extents_of (heads_of (same_device i)) (same i)

  -- a row in the place of another
  module _ {unit : ℕ} {name : Dsn} {changes others : List (ℕ × Change)} (swap : SwapsRow first unit name changes) (now : SwapsRow units unit name others) where
    swap_old : now.old ≡ swap.old
    swap_old = same_row unit swap.volume now.volume swap.loaded now.loaded name swap.old now.old swap.old_is now.old_is

    swap_extents : extents_in now.volume now.old ≡ extents_in swap.volume swap.old
    swap_extents = same_extents unit swap.volume now.volume swap.loaded now.loaded swap.old now.old swap_old

    swaps_alike : now.row.name ≡ now.old.name → swap.row.name ≡ swap.old.name → extents_in now.volume now.row ≡ extents_in swap.volume swap.row → AreAlikeChanges first changes others
    swaps_alike name_now name_was extents =
        one_alike first unit (Swap name swap.row) (Swap name now.row) changes others swap.changes_are now.changes_are
        (λ volume at. (
          refl,
          name_now ∙ ap (λ (row : Row). row.name) swap_old ∙ sym name_was,
          subst (λ (v : Volume). extents_of (heads_of v.device) now.row ≡ extents_of (heads_of v.device) swap.row) (same_volume first unit swap.volume volume swap.loaded at)
              (ap (λ (device : Device). extents_of (heads_of device) now.row) (sym (same_device unit swap.volume now.volume swap.loaded now.loaded)) ∙ extents),
        ))

  cut_alike : {unit : ℕ} {name : Dsn} {keep : ℕ} {changes others : List (ℕ × Change)} → PlansShrink first unit name keep changes → PlansShrink units unit name keep others
      → AreAlikeChanges first changes others
  cut_alike {unit} {name} {keep} was now =
      swaps_alike was.swap now.swap now.row_is.name_is was.row_is.name_is
      (now.row_is.extents_are ∙ ap (cut keep) (swap_extents was.swap now.swap) ∙ sym was.row_is.extents_are)

  reset_alike : {unit : ℕ} {name : Dsn} {changes others : List (ℕ × Change)} → PlansReset first unit name changes → PlansReset units unit name others → AreAlikeChanges first changes others
  reset_alike {unit} {name} was now =
      swaps_alike was.swap now.swap now.row_is.name_is was.row_is.name_is (now.row_is.extents_are ∙ swap_extents was.swap now.swap ∙ sym was.row_is.extents_are)

  join_alike : {room : ℕ} {unit : ℕ} {name : Dsn} {to : List Run} {changes others : List (ℕ × Change)} → MayJoin room first unit name to → PlansMove first unit name to changes
      → PlansMove units unit name to others → AreAlikeChanges first changes others
  join_alike {room} {unit} {name} {to} {changes} {others} may was now =
      swaps_alike was.swap now.swap now.row_is.name_is was.row_is.name_is
      (now.row_is.extents_are ∙ one_joined now.extents was.extents now_joins was_joins ∙ sym was.row_is.extents_are)
    where
      old : List Extent
      old = extents_in was.swap.volume was.swap.old

      was_joins : JoinsExtents old (may.run ∷ []) was.extents
      was_joins = join_extents may was

      now_joins : JoinsExtents old (may.run ∷ []) now.extents
      now_joins =
          joined (has_several may was)
          (subst (λ (runs : List Run). KeepsExtents old runs now.extents ⊎ JoinsExtents old runs now.extents) may.to_is
          (subst (λ (extents : List Extent). KeepsExtents extents to now.extents ⊎ JoinsExtents extents to now.extents) (swap_extents was.swap now.swap) now.extents_are))

  -- a copy
  module _ {from : ℕ} {old : Dsn} {unit : ℕ} {name : Dsn} {to : List Run} {replaced : Bool} {change other : Change} (was : PlansCopy replaced first from old unit name to change)
      (now : PlansCopy replaced units from old unit name to other) where
    copy_old : now.old ≡ was.old
    copy_old = same_row from was.source now.source was.source_loaded now.source_loaded old was.old now.old was.old_is now.old_is

    copy_kind : now.kind ≡ was.kind
    copy_kind =
        one_kind (extents_in was.source was.old) now.kind was.kind
        (subst (λ (list : List Extent). IsNewKind list now.kind) (same_extents from was.source now.source was.source_loaded now.source_loaded was.old now.old copy_old) now.kind_is) was.kind_is

    copy_extents : extents_in now.volume now.row ≡ extents_in was.volume was.row
    copy_extents = now.row_is.extents_are ∙ ap (λ (kind : ℕ). extents_on kind to) copy_kind ∙ sym was.row_is.extents_are

    alike_by : (b : Bool) (heads : ℕ) (row like : Row) → like.name ≡ row.name → extents_of heads like ≡ extents_of heads row → AreAlike heads (putting b name row) (putting b name like)
    alike_by true heads row like named same = (refl, named, same)
    alike_by false heads row like named same = (named, same)

    copy_alike : IsAlikeAt first unit change other
    copy_alike volume at =
        subst (λ (c : Change). AreAlike (heads_of volume.device) c other) (sym was.change_is)
        (subst (λ (c : Change). AreAlike (heads_of volume.device) (putting replaced name was.row) c) (sym now.change_is)
        (alike_by replaced (heads_of volume.device) was.row now.row (one_text name now.row.name was.row.name now.named was.named)
        (subst (λ (v : Volume). extents_of (heads_of v.device) now.row ≡ extents_of (heads_of v.device) was.row) (same_volume first unit was.volume volume was.loaded at)
        (ap (λ (device : Device). extents_of (heads_of device) now.row) (sym (same_device unit was.volume now.volume was.loaded now.loaded)) ∙ copy_extents))))

  put_alike : {from : ℕ} {old : Dsn} {unit : ℕ} {name : Dsn} {to : List Run} {replaced : Bool} {changes others : List (ℕ × Change)} → PlansPut replaced first from old unit name to changes
      → PlansPut replaced units from old unit name to others → AreAlikeChanges first changes others
  put_alike {from} {old} {unit} {name} {to} {replaced} {changes} {others} was now =
      one_alike first unit was.change now.change changes others was.changes_are now.changes_are (copy_alike was.copy now.copy)

  carry_alike : {from : ℕ} {old : Dsn} {unit : ℕ} {name : Dsn} {to : List Run} {replaced : Bool} {changes others : List (ℕ × Change)}
      → PlansCarry first from old unit name to replaced changes → PlansCarry units from old unit name to replaced others → AreAlikeChanges first changes others
  carry_alike {from} {old} {unit} {name} {to} {replaced} {changes} {others} was now =
      two_alike first unit from was.change now.change (Remove old) changes others was.changes_are now.changes_are (copy_alike was.copy now.copy) (λ volume at. refl)

  -- ---- a step

  pub step_alike : (room : ℕ) (step : Step) → MayPlan room first step → (plan later : Plan) → plan.step ≡ step → IsPlan first plan → later.step ≡ step → IsPlan units later
      → AreAlikeChanges first plan.changes later.changes
  step_alike room (steps.Move unit name to) may plan later is lawful same now = join_alike may (join_planned first plan unit name to is lawful).1 (join_planned units later unit name to same now).1
  step_alike room (steps.Shrink unit name keep) may plan later is lawful same now = cut_alike (cut_planned first plan unit name keep is lawful).1 (cut_planned units later unit name keep same now).1
  step_alike room (steps.Add unit name to (origins.Row from old)) may plan later is lawful same now =
      put_alike (put_planned first plan from old unit name to false is lawful).1 (put_planned units later from old unit name to false same now).1
  step_alike room (steps.Add unit name to (origins.Part input number)) may plan later is lawful same now = absurd may
  step_alike room (steps.Replace unit name to (origins.Row from old)) may plan later is lawful same now =
      put_alike (put_planned first plan from old unit name to true is lawful).1 (put_planned units later from old unit name to true same now).1
  step_alike room (steps.Replace unit name to (origins.Part input number)) may plan later is lawful same now = absurd may
  step_alike room (steps.Delete unit name) may plan later is lawful same now =
      one_alike first unit (Remove name) (Remove name) plan.changes later.changes (delete_planned first plan unit name is lawful).1.changes_are (delete_planned units later unit name same now).1.changes_are
      (λ volume at. refl)
  step_alike room (steps.Carry from old unit name to replaced) may plan later is lawful same now =
      carry_alike (carry_planned first plan from old unit name to replaced is lawful).1 (carry_planned units later from old unit name to replaced same now).1
  step_alike room (steps.ResetFlag unit name) may plan later is lawful same now = reset_alike (reset_planned first plan unit name is lawful).1 (reset_planned units later unit name same now).1
  step_alike room (steps.Repair unit) may plan later is lawful same now =
      one_alike first unit Repair Repair plan.changes later.changes (repair_planned first plan unit is lawful).1.changes_are (repair_planned units later unit same now).1.changes_are (λ volume at. tt {0})
  step_alike room (steps.FillStart unit input) may plan later is lawful same now = absurd may
  step_alike room (steps.FillEnd unit input) may plan later is lawful same now = absurd may
