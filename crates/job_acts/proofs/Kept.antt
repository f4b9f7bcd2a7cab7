-- Units behind repairs: what could be planned can still be.
use Rattle.std.proofs.Common.{◌≡◌, inl, inr, ℕ, ◌-◌, ◌/◌, ◌+◌, ◌<◌, ◌≤◌, Bool, true, false, List, [], ◌∷◌, length, Contains, Some, refl, sym, ap, subst, ◌∙◌}
use Rattle.std.specs.Prelude.{slice_get}
use Rattle.std.proofs.lemmas.Bool.{cases_eq}
use Rattle.dasd_pool.proofs.Slices.{get_set, get_set_other}
use Rattle.ckd_image.specs.declared.device.Device.{Device}
use Rattle.ckd_image.specs.Device.{heads_of}
use Rattle.dsn_filter.specs.declared.dsn.Dsn.{Dsn}
use Rattle.free_map.specs.declared.run.Run.{Run}
use Rattle.free_map.specs.Free.{IsFree}
use Rattle.free_map.specs.Place.{rounded}
use Rattle.free_map.specs.Runs.{InRuns}
use Rattle.free_map.specs.Several.{ArePlaces}
use Rattle.volume_model.specs.Unit.{tracks_of}
use Rattle.vtoc_core.specs.declared.volume.Row.{Row}
use Rattle.vtoc_core.specs.declared.volume.Volume.{Volume}
use Rattle.volume_change.specs.declared.change.Change.{Change}
use Rattle.volume_change.specs.declared.change.Change.TheVariants.{Repair}
use Rattle.step_room.specs.vtoc_render.Next.{IsNext, IsChanged, runs_of_rows}
use Rattle.step_room.specs.unit_change.Changed.{extents_of}
use Rattle.unit_load.specs.declared.state.UnitState.{UnitState}
use Rattle.unit_load.specs.declared.state.UnitState.TheVariants.{Online}
use Rattle.move_core.specs.declared.steps.Origin.TheVariants as origins
use Rattle.move_core.specs.declared.steps.Step.{Step}
use Rattle.move_core.specs.declared.steps.Step.TheVariants as steps
use Rattle.plan_core.specs.Consolidate.{IsStepOf}
use Rattle.step_room.specs.unit_steps.Plans.{IsLoadedAt, HasRow, tracks_in}
use Rattle.step_room.proofs.unit_steps.OneChange.{same_volume}
use Rattle.step_room.specs.step_plans.Plans.{IsPlaceOn, ArePlacesOn, IsClear}
use Rattle.step_room.specs.Room.{IsAsBefore}
use Rattle.step_room.proofs.Repairs.{as_it_was}
use Rattle.job_steps.specs.Carried.{IsUnitAfter, AreUnitsAfter}
use Rattle.job_acts.specs.Making.{MayBeChanged, HasSet, MayReset, MayCut, MayJoin, MayPut, MayPlan}
use Rattle.job_acts.specs.Acting.{AreSound}

-- ---- a volume whose free space is stated

-- it has the data sets and the device that it had, and its free tracks are free
pub record IsKept (old new : Volume) : Type 0 where
  pub rows_are : new.rows ≡ old.rows
  pub device_is : new.device ≡ old.device
  pub vtoc_is : new.vtoc ≡ old.vtoc
  pub indexed_is : new.indexed ≡ old.indexed
  pub free : (track : ℕ) → IsFree old.free track → IsFree new.free track

kept_changed : {old new : Volume} → IsChanged old Repair new → IsKept old new
kept_changed {old} {new} changed = record {
  rows_are = changed.rows_are.2;
  device_is = changed.device_is;
  vtoc_is = changed.vtoc_is;
  indexed_is = changed.indexed_is;
  free = λ track free. (changed.free_are.exact track).0 (inl free, λ held. subst (λ (rows : List Row). InRuns (runs_of_rows old rows) track) changed.rows_are.1 held);
}

kept_same : {old new : Volume} → new ≡ old → IsKept old new
kept_same {old} {new} same = subst (IsKept old) (sym same) (record { rows_are = refl; device_is = refl; vtoc_is = refl; indexed_is = refl; free = λ track free. free })

pub kept : {old new : Volume} → IsAsBefore old new → IsKept old new
kept (inl same) = kept_same same
kept (inr next) = kept_changed next.0

-- stating it twice is stating it once
as_before_then : {first old new : Volume} → IsAsBefore first old → IsNext old Repair new → IsAsBefore first new
as_before_then {first} {old} {new} (inl same) next = inr (subst (λ (v : Volume). IsNext v Repair new) same next)
as_before_then {first} {old} {new} (inr once) next = inr (as_it_was once.0 next.0, next.1)

-- ---- the unit behind one change

pub after_one : (units after : List UnitState) (unit : ℕ) (change : Change) (changes : List (ℕ × Change)) → changes ≡ (unit, change) ∷ [] → AreUnitsAfter units changes after
    → IsUnitAfter units unit change after
after_one units after unit change changes are all =
    let one : (between : List UnitState) × IsUnitAfter units unit change between × (after ≡ between) =
    subst (λ (list : List (ℕ × Change)). AreUnitsAfter units list after) are all in
    subst (IsUnitAfter units unit change) (sym one.2) one.1

pub loaded_after : {units after : List UnitState} {unit : ℕ} {change : Change} (is : IsUnitAfter units unit change after) → IsLoadedAt after unit is.next
loaded_after {units} {after} {unit} is =
    subst (λ (list : List UnitState). slice_get list unit ≡ Some (Online is.next)) (sym is.after_is) (get_set units unit (Online is.next) (Online is.volume) is.loaded)

-- ---- units behind repairs

-- a volume of them, as it was or with its free space stated
pub record StandsBehind (units : List UnitState) (unit : ℕ) (volume : Volume) : Type 0 where
  pub next : Volume
  pub loaded : IsLoadedAt units unit next
  pub as_before : IsAsBefore volume next

pub record IsBehind (first units : List UnitState) : Type 0 where
  pub stands : (unit : ℕ) (volume : Volume) → IsLoadedAt first unit volume → StandsBehind units unit volume

pub behind_itself : (units : List UnitState) → IsBehind units units
behind_itself units = record { stands = λ unit volume loaded. record { next = volume; loaded = loaded; as_before = inl refl } }

pub behind_repair : {first units after : List UnitState} {unit : ℕ} → IsBehind first units → IsUnitAfter units unit Repair after → IsBehind first after
behind_repair {first} {units} {after} {unit} behind is = record { stands = stands }
  where
    stands : (other : ℕ) (volume : Volume) → IsLoadedAt first other volume → StandsBehind after other volume
    stands other volume at =
        let was = behind.stands other volume at in
        elim (cases_eq unit other) [
          | inl same ↦
              let one : was.next ≡ is.volume = same_volume units unit was.next is.volume (subst (λ (u : ℕ). IsLoadedAt units u was.next) (sym same) was.loaded) is.loaded in
              record {
                next = is.next;
                loaded = subst (λ (u : ℕ). IsLoadedAt after u is.next) same (loaded_after is);
                as_before = as_before_then was.as_before (subst (λ (v : Volume). IsNext v Repair is.next) (sym one) is.next_is);
              }
          | inr differ ↦
              record {
                next = was.next;
                loaded =
                    subst (λ (list : List UnitState). slice_get list other ≡ Some (Online was.next)) (sym is.after_is) (get_set_other units unit other (Online is.next) (λ same. differ (sym same)) ∙ was.loaded);
                as_before = was.as_before;
              }
        ]

-- ---- what could be planned

pub has_row : {old new : Volume} {name : Dsn} {row : Row} → IsKept old new → HasRow old name row → HasRow new name row
has_row {old} {new} {name} {row} is has = record {
  lawful = has.lawful;
  there = subst (λ (rows : List Row). Contains rows row) (sym is.rows_are) has.there;
  name_is = has.name_is;
}

pub tracks_stay : {old new : Volume} (row : Row) → IsKept old new → tracks_in new row ≡ tracks_in old row
tracks_stay row is = ap (λ (device : Device). tracks_of (extents_of (heads_of device) row)) is.device_is

pub place_stays : {old new : Volume} (row : Row) (first : ℕ) → IsKept old new → IsPlaceOn old row old first → IsPlaceOn new row new first
place_stays {old} {new} row first is place = record {
  step = place.step;
  step_is = subst (λ (device : Device). IsStepOf (heads_of device) (extents_of (heads_of device) row) place.step) (sym is.device_is) place.step_is;
  place =
      record {
        aligned = place.place.aligned;
        held = λ track from to. is.free track (place.place.held track from (subst (λ (list : List ℕ). track < first + rounded (length list) place.step) (tracks_stay row is) to));
      };
}

pub places_stay : {source target next other : Volume} (row : Row) (runs : List Run) → IsKept source next → IsKept target other → ArePlacesOn source row target runs → ArePlacesOn next row other runs
places_stay {source} {target} {next} {other} row runs one two are = record {
  step = are.step;
  step_is =
      subst (λ (device : Device). IsStepOf (heads_of device) (extents_of (heads_of next.device) row) are.step) (sym two.device_is)
      (subst (λ (device : Device). IsStepOf (heads_of target.device) (extents_of (heads_of device) row) are.step) (sym one.device_is) are.step_is);
  places =
      subst (λ (list : List ℕ). ArePlaces (IsFree other.free) (length list) are.step runs) (sym (tracks_stay row one)) (record {
        whole_steps = are.places.whole_steps;
        held = λ track held. two.free track (are.places.held track held);
        disjoint = are.places.disjoint;
        count_is = are.places.count_is;
        few = are.places.few;
      });
}

pub clear_stays : (replaced : Bool) (target other : Volume) (name : Dsn) → IsKept target other → IsClear replaced target name → IsClear replaced other name
clear_stays true target other name is (row, has) = (row, has_row is has)
clear_stays false target other name is none = λ row has.
    none row (record { lawful = has.lawful; there = subst (λ (rows : List Row). Contains rows row) is.rows_are has.there; name_is = has.name_is })

module _ (room : ℕ) {first units : List UnitState} (behind : IsBehind first units) (sound : AreSound units) where
  abbrev pub changeable_behind : {unit : ℕ} → MayBeChanged room first unit → MayBeChanged room units unit
  changeable_behind {unit} may =
      let stands = behind.stands unit may.volume may.loaded in
      let stays = kept stands.as_before in
      record {
        volume = stands.next;
        loaded = stands.loaded;
        not_indexed = stays.indexed_is ∙ may.not_indexed;
        few_tracks = subst (λ (run : Run). run.len ≤ (room - 1) / 2) (sym stays.vtoc_is) may.few_tracks;
      }

  abbrev kept_at : {unit : ℕ} (may : MayBeChanged room first unit) → IsKept may.volume (changeable_behind may).volume
  kept_at {unit} may = kept (behind.stands unit may.volume may.loaded).as_before

  abbrev pub set_behind : {unit : ℕ} {name : Dsn} → HasSet room first unit name → HasSet room units unit name
  set_behind {unit} {name} set = record {
    may = changeable_behind set.may;
    sound = sound unit (behind.stands unit set.may.volume set.may.loaded).next (behind.stands unit set.may.volume set.may.loaded).loaded;
    row = set.row;
    row_is = has_row (kept_at set.may) set.row_is;
  }

  reset_behind : {unit : ℕ} {name : Dsn} → MayReset room first unit name → MayReset room units unit name
  reset_behind {unit} {name} may = record { set = set_behind may.set; few = may.few }

  cut_behind : {unit : ℕ} {name : Dsn} {keep : ℕ} → MayCut room first unit name keep → MayCut room units unit name keep
  cut_behind {unit} {name} {keep} may = record {
    set = set_behind may.set;
    few = may.few;
    fewer = subst (λ (list : List ℕ). keep < length list) (sym (tracks_stay may.set.row (kept_at may.set.may))) may.fewer;
  }

  join_behind : {unit : ℕ} {name : Dsn} {to : List Run} → MayJoin room first unit name to → MayJoin room units unit name to
  join_behind {unit} {name} {to} may = record {
    set = set_behind may.set;
    few = may.few;
    several = may.several;
    run = may.run;
    to_is = may.to_is;
    some = may.some;
    whole = may.whole ∙ ap length (sym (tracks_stay may.set.row (kept_at may.set.may)));
    place = place_stays may.set.row may.run.first (kept_at may.set.may) may.place;
  }

  abbrev pub put_behind : {from : ℕ} {old : Dsn} {unit : ℕ} {name : Dsn} {to : List Run} {replaced : Bool} → MayPut room first from old unit name to replaced
      → MayPut room units from old unit name to replaced
  put_behind {from} {old} {unit} {name} {to} {replaced} may =
      let source = behind.stands from may.source may.source_loaded in
      let target = behind.stands unit may.target.volume may.target.loaded in
      record {
        source = source.next;
        source_loaded = source.loaded;
        source_sound = sound from source.next source.loaded;
        target = changeable_behind may.target;
        target_sound = sound unit target.next target.loaded;
        like = (kept target.as_before).device_is ∙ may.like ∙ sym (kept source.as_before).device_is;
        row = may.row;
        row_is = has_row (kept source.as_before) may.row_is;
        few = may.few;
        new_is = may.new_is;
        places = places_stay may.row to (kept source.as_before) (kept target.as_before) may.places;
        clear = clear_stays replaced may.target.volume target.next name (kept target.as_before) may.clear;
      }

  pub plan_behind : (step : Step) → MayPlan room first step → MayPlan room units step
  plan_behind (steps.Move unit name to) may = join_behind may
  plan_behind (steps.Shrink unit name keep) may = cut_behind may
  plan_behind (steps.Add unit name to (origins.Row from old)) may = put_behind may
  plan_behind (steps.Add unit name to (origins.Part input number)) may = absurd may
  plan_behind (steps.Replace unit name to (origins.Row from old)) may = put_behind may
  plan_behind (steps.Replace unit name to (origins.Part input number)) may = absurd may
  plan_behind (steps.Delete unit name) may = set_behind may
  plan_behind (steps.Carry from old unit name to replaced) may = record { apart = may.apart; may = changeable_behind may.may; put = put_behind may.put }
  plan_behind (steps.ResetFlag unit name) may = reset_behind may
  plan_behind (steps.Repair unit) may = changeable_behind may
  plan_behind (steps.FillStart unit input) may = absurd may
  plan_behind (steps.FillEnd unit input) may = absurd may
