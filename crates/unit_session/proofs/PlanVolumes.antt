-- Each change of a plan may be made on a volume that was loaded from its kept slots.
use Rattle.std.proofs.Common.{◌≡◌, ℕ, Bool, false, List, [], ◌∷◌, All, Some, sym, subst}
use Rattle.std.specs.Prelude.{slice_get}
use Rattle.std.proofs.lemmas.List.Elements.{All-nil, All-cons, All-weaker}
use Rattle.dasd_pool.specs.Disk.{Shape}
use Rattle.dsn_filter.specs.declared.dsn.Dsn.{Dsn}
use Rattle.vtoc_core.specs.declared.volume.Volume.{Volume}
use Rattle.volume_change.specs.declared.change.Change.{Change}
use Rattle.volume_change.specs.declared.change.Change.TheVariants.{Remove}
use Rattle.unit_steps.specs.vtoc_render.Loads.{LoadsFrom}
use Rattle.unit_steps.specs.vtoc_render.Next.{MayChange}
use Rattle.unit_steps.proofs.unit_change.LoadedTracks.{four}
use Rattle.unit_load.specs.declared.state.UnitState.{UnitState}
use Rattle.unit_load.specs.Kept.{IsFromSlots}
use Rattle.move_core.specs.Facts.{Original}
use Rattle.move_core.specs.declared.steps.Origin.TheVariants as origins
use Rattle.move_core.specs.declared.steps.Step.{Step}
use Rattle.move_core.specs.declared.steps.Step.TheVariants as steps
use Rattle.unit_steps.specs.declared.plan.Tracks.{Tracks}
use Rattle.unit_steps.specs.declared.plan.Plan.{Plan}
use Rattle.unit_steps.specs.Loaded.{HaveStates, KeepVtocs}
use Rattle.unit_steps.specs.Plans.{IsLoadedAt, IsPlan, Plans, PlansCopy, PlansPart, SwapsRow}
use Rattle.unit_steps.proofs.Blocks.{few, from_slots, home_short}
use Rattle.unit_session.specs.Planned.{HaveVolumes}
use Rattle.unit_session.proofs.CopyPlaces.{kept_of}

loads_from : {head : List ℕ} {blocks : ℕ} {volume : Volume} {slots : List ℕ} → IsFromSlots false head blocks volume slots → LoadsFrom volume slots
loads_from from = record {
  head = from.image;
  label = from.label;
  unit = from.unit;
  sliding = false;
  vtoc = from.loaded.vtoc;
  four = four from.loaded (few from) (home_short from);
  was = from_slots from;
  whole = from.whole;
}

abbrev MayMake : List UnitState → ℕ × Change → Type 0
MayMake units change = (volume : Volume) × IsLoadedAt units change.0 volume × MayChange volume change.1

module _ (units : List UnitState) where
  one_made : (changes : List (ℕ × Change)) (unit : ℕ) (change : Change) → changes ≡ (unit, change) ∷ [] → MayMake units (unit, change) → All (MayMake units) changes
  one_made changes unit change are may =
      subst (λ (l : List (ℕ × Change)). All (MayMake units) l) (sym are) (All-cons (MayMake units) (unit, change) [] may (All-nil (MayMake units)))

  swap_made : {unit : ℕ} {name : Dsn} {changes : List (ℕ × Change)} → SwapsRow units unit name changes → All (MayMake units) changes
  swap_made {changes = changes} swap = one_made changes _ _ swap.changes_are (swap.volume, swap.loaded, swap.may)

  copy_made : {replaced : Bool} {from : ℕ} {origin : Dsn} {unit : ℕ} {name : Dsn} {to : List _} {change : Change} → PlansCopy replaced units from origin unit name to change → MayMake units (unit, change)
  copy_made copy = (copy.volume, copy.loaded, copy.may)

  part_made : {replaced : Bool} {original : Original} {unit : ℕ} {name : Dsn} {to : List _} {changes : List (ℕ × Change)} → PlansPart replaced units original unit name to changes → All (MayMake units) changes
  part_made {unit = unit} {changes = changes} part = one_made changes unit part.change part.changes_are (part.volume, part.loaded, part.may)

  all_made : (step : Step) (tracks : Tracks) (changes : List (ℕ × Change)) → Plans units step tracks changes → All (MayMake units) changes
  all_made (steps.Move unit name to) tracks changes (is, plan) = swap_made plan.swap
  all_made (steps.Shrink unit name keep) tracks changes (is, plan) = swap_made plan.swap
  all_made (steps.Add unit name to (origins.Row from origin)) tracks changes (is, plan) = one_made changes unit plan.change plan.changes_are (copy_made plan.copy)
  all_made (steps.Replace unit name to (origins.Row from origin)) tracks changes (is, plan) = one_made changes unit plan.change plan.changes_are (copy_made plan.copy)
  all_made (steps.Add unit name to (origins.Part input number)) tracks changes plan = part_made plan.1.1
  all_made (steps.Replace unit name to (origins.Part input number)) tracks changes plan = part_made plan.1.1
  all_made (steps.Delete unit name) tracks changes (is, plan) = one_made changes _ _ plan.changes_are (plan.volume, plan.loaded, plan.may)
  all_made (steps.Carry from origin unit name to replaced) tracks changes (is, plan) =
      let gone : ℕ × Change = (from, Remove origin) in
      subst (λ (l : List (ℕ × Change)). All (MayMake units) l) (sym plan.changes_are)
      (All-cons (MayMake units) (unit, plan.change) (gone ∷ []) (copy_made plan.copy)
      (All-cons (MayMake units) gone [] (plan.copy.source, plan.copy.source_loaded, plan.may) (All-nil (MayMake units))))
  all_made (steps.ResetFlag unit name) tracks changes (is, plan) = swap_made plan.swap
  all_made (steps.Repair unit) tracks changes (is, plan) = one_made changes _ _ plan.changes_are (plan.volume, plan.loaded, tt)
  all_made _ tracks changes plan = absurd plan

pub have_volumes : {shape : Shape} (units : List UnitState) (vtocs : List (List ℕ)) (plan : Plan) → HaveStates shape units → KeepVtocs shape units vtocs → IsPlan units plan
    → HaveVolumes units vtocs plan.changes
have_volumes units vtocs plan have keep is =
    All-weaker (MayMake units)
    (λ change. (volume : Volume) × (slots : List ℕ) × IsLoadedAt units change.0 volume × (slice_get vtocs change.0 ≡ Some slots) × LoadsFrom volume slots × MayChange volume change.1)
    (λ change may. let kept = kept_of units vtocs have keep change.0 may.0 may.1 in (may.0, kept.0, may.1, kept.1, loads_from kept.2, may.2)) plan.changes
    (all_made units plan.step plan.tracks plan.changes is)
