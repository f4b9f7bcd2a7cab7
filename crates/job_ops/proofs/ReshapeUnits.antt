-- The plan of the change of a data set, and the units behind it: what a statement asks of them stays.
use Rattle.std.proofs.Common.{◌≡◌, ℕ, ◌-◌, ◌/◌, ◌≤◌, List, [], ◌∷◌, ◌++◌, map, Contains, refl, sym, ap, subst, ◌∙◌}
use Rattle.dsn_filter.specs.declared.dsn.Dsn.{Dsn}
use Rattle.free_map.specs.declared.run.Run.{Run}
use Rattle.volume_model.specs.Pinned.{IsNameOf}
use Rattle.vtoc_core.specs.declared.volume.Row.{Row}
use Rattle.vtoc_core.specs.declared.volume.Volume.{Volume}
use Rattle.vtoc_layout.proofs.Distinct.{from_map}
use Rattle.volume_change.specs.declared.change.Change.{Change}
use Rattle.volume_change.specs.declared.change.Change.TheVariants.{Repair, Swap}
use Rattle.dump_sets.specs.job_turns.job_copies.vtoc_render.Next.{IsChanged}
use Rattle.unit_load.specs.declared.state.UnitState.{UnitState}
use Rattle.move_core.specs.Steps.{cut}
use Rattle.dump_sets.specs.job_turns.job_copies.unit_steps.declared.plan.Plan.{Plan}
use Rattle.dump_sets.specs.job_turns.job_copies.unit_steps.Plans.{IsPlan, PlansMove, PlansShrink, extents_in}
use Rattle.dump_sets.proofs.job_turns.job_copies.unit_steps.OneChange.{same_volume}
use Rattle.dump_sets.proofs.job_turns.job_copies.step_room.step_plans.RowNames.{named}
use Rattle.ckd_image.proofs.Lists.{contains_map}
use Rattle.dump_sets.specs.job_turns.job_steps.Carried.{IsUnitAfter}
use Rattle.dump_sets.specs.job_turns.job_acts.Making.{MayBeChanged, MayPlan}
use Rattle.dump_sets.proofs.job_turns.job_acts.Alike.{join_extents}
use Rattle.dump_sets.proofs.job_turns.job_acts.Kept.{loaded_after}
use Rattle.dump_sets.proofs.job_turns.job_acts.PlansMade.{cut_planned, join_planned}
use Rattle.job_ops.specs.declared.reshaping.Layout.{Layout}
use Rattle.job_ops.specs.declared.reshaping.Layout.TheVariants as layouts
use Rattle.job_ops.specs.declared.reshaping.Reshape.{Reshape}
use Rattle.job_ops.specs.Reshaping.{step_of, step_to, MayReshape, StaysChangeable}
use Rattle.job_ops.proofs.ReshapeTargets.{PlansReshape, ExtentsTo}

-- ---- plans

pub reshape_planned : (room : ℕ) {units : List UnitState} (reshape : Reshape) (plan : Plan) → MayReshape room units reshape → plan.step ≡ step_of reshape → IsPlan units plan
    → PlansReshape units reshape plan.changes
reshape_planned room {units} reshape plan may step_is is = by reshape.layout refl
  where
    by : (layout : Layout) → reshape.layout ≡ layout → PlansReshape units reshape plan.changes
    by (layouts.Front keep) layout =
        let made : PlansShrink units reshape.unit reshape.name keep plan.changes =
        (cut_planned units plan reshape.unit reshape.name keep (step_is ∙ ap (step_to reshape.unit reshape.name) layout) is).1 in
        let old = extents_in made.swap.volume made.swap.old in
        record { swap = made.swap; extents = cut keep old; extents_are = subst (λ (l : Layout). ExtentsTo l old (cut keep old)) (sym layout) refl; row_is = made.row_is }
    by (layouts.Joined run) layout =
        let made : PlansMove units reshape.unit reshape.name (run ∷ []) plan.changes =
        (join_planned units plan reshape.unit reshape.name (run ∷ []) (step_is ∙ ap (step_to reshape.unit reshape.name) layout) is).1 in
        let can : MayPlan room units (step_to reshape.unit reshape.name (layouts.Joined run)) = subst (λ (l : Layout). MayPlan room units (step_to reshape.unit reshape.name l)) layout may in
        let old = extents_in made.swap.volume made.swap.old in
        record {
          swap = made.swap;
          extents = made.extents;
          extents_are =
              subst (λ (l : Layout). ExtentsTo l old made.extents) (sym layout)
              (subst (λ (runs : List Run). Rattle.move_core.specs.Steps.JoinsExtents old runs made.extents) (sym can.to_is) (join_extents can made));
          row_is = made.row_is;
        }

-- ---- the unit behind one change

module _ {units after : List UnitState} {unit : ℕ} {change : Change} (is : IsUnitAfter units unit change after) where
  module _ (changed : IsChanged is.volume change is.next) where
    -- it can be changed as before
    abbrev pub changeable : {room : ℕ} → MayBeChanged room units unit → MayBeChanged room after unit
    changeable {room} old =
        let same : old.volume ≡ is.volume = same_volume units unit old.volume is.volume old.loaded is.loaded in
        record {
          volume = is.next;
          loaded = loaded_after is;
          not_indexed = changed.indexed_is ∙ sym (ap (λ (v : Volume). v.indexed) same) ∙ old.not_indexed;
          few_tracks =
              subst (λ (run : Run). run.len ≤ (room - 1) / 2) (ap (λ (v : Volume). v.vtoc) same ∙ sym changed.vtoc_is) old.few_tracks;
        }

    -- and it has a data set of each name
    pub stays : {room : ℕ} → map named is.next.rows ≡ map named is.volume.rows → StaysChangeable room units after unit
    stays {room} names old =
        let same : old.volume ≡ is.volume = same_volume units unit old.volume is.volume old.loaded is.loaded in (
          changeable old,
          λ name row has.
              let there : Contains is.volume.rows row = subst (λ (v : Volume). Contains v.rows row) same has.there in
              let found = from_map named is.next.rows row.name (subst (λ (list : List (List ℕ)). Contains list row.name) (sym names) (contains_map named is.volume.rows row there)) in
              (found.0, record { lawful = has.lawful; there = found.1; name_is = subst (IsNameOf name) (sym found.2) has.name_is }),
        )

names_between : (old new front back : List Row) (before row : Row) → old ≡ front ++ (before ∷ back) → new ≡ front ++ (row ∷ back) → row.name ≡ before.name → map named new ≡ map named old
names_between old new front back before row old_are new_are same = ap (map named) new_are ∙ inner front ∙ sym (ap (map named) old_are)
  where
    inner : (front : List Row) → map named (front ++ (row ∷ back)) ≡ map named (front ++ (before ∷ back))
    inner [] = ap (λ (name : List ℕ). name ∷ map named back) same
    inner (x ∷ front) = ap (λ (names : List (List ℕ)). x.name ∷ names) (inner front)

-- the free space was stated
pub stays_repaired : {room : ℕ} (units after : List UnitState) (unit : ℕ) → IsUnitAfter units unit Repair after → StaysChangeable room units after unit
stays_repaired units after unit is = stays is is.next_is.0 (ap (map named) is.next_is.0.rows_are.2)

-- a data set got other extents
pub stays_changed : {room : ℕ} (units after : List UnitState) (unit : ℕ) (name : Dsn) (given : Row) → IsUnitAfter units unit (Swap name given) after → StaysChangeable room units after unit
stays_changed units after unit name given is =
    let rows = is.next_is.0.rows_are in
    stays is is.next_is.0 (names_between is.volume.rows is.next.rows rows.0 rows.1 rows.2 rows.3 rows.8 rows.9 (rows.7.name_is ∙ sym rows.6))

pub stays_then : {room : ℕ} (first middle last : List UnitState) (unit : ℕ) → StaysChangeable room first middle unit → StaysChangeable room middle last unit → StaysChangeable room first last unit
stays_then first middle last unit one other old =
    let between = one old in
    let end = other between.0 in
    (end.0, λ name row has. let there = between.1 name row has in end.1 name there.0 there.1)
