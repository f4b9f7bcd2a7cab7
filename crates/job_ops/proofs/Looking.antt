-- What is asked of a data set before anything is done with it, and the data set that a unit has under the name.
use Rattle.std.proofs.Common.{◌≡◌, ◌⊎◌, ⊎_elim, inl, inr, ◌↔◌, ℕ, ◌<◌, ◌≤◌, List, [], ◌∷◌, length, get_or, not, Contains, IsTrue, true, false, Bool, Some, refl, sym, ap, subst, ◌∙◌, arith}
use Rattle.std.specs.Prelude.{slice_get}
use Rattle.std.proofs.lemmas.Bool.{cases_lt, false≢true}
use Rattle.std.proofs.lemmas.List.{length-append, length-map}
use Rattle.std.proofs.lemmas.List.Elements.{All-head, Contains-get_or}
use Rattle.std.proofs.lemmas.Option.{slice_get_cases}
use Rattle.ckd_image.specs.Device.{heads_of}
use Rattle.dasd_pool.specs.Disk.{State}
use Rattle.dscb_rec.specs.declared.field.Extent.{Extent as Field}
use Rattle.dsn_filter.specs.declared.dsn.Dsn.{Dsn}
use Rattle.dsn_filter.specs.Dsn.{IsDsn}
use Rattle.redo_core.specs.declared.control.Control.{Control}
use Rattle.redo_core.specs.declared.control.Control.TheVariants.{Idle, Slide}
use Rattle.redo_core.specs.Reading.{journal_of}
use Rattle.volume_model.specs.Pinned.{IsNameOf, IsPinned, kept_tracks}
use Rattle.volume_model.specs.Reads.{extent_in, fields_of_1}
use Rattle.volume_model.specs.Unit.{Extent, DataSet, OnlineVolume, UnitModel, online, tracks_of}
use Rattle.vtoc_core.specs.declared.volume.Row.{Row}
use Rattle.vtoc_core.specs.declared.volume.Volume.{Volume}
use Rattle.vtoc_core.specs.Loaded.{field_of}
use Rattle.move_core.specs.Facts.{Facts}
use Rattle.move_core.specs.Stands.{IsAfterSlide, IsSettled}
use Rattle.dump_sets.specs.job_turns.job_copies.unit_change.Changed.{extents_of}
use Rattle.dump_sets.specs.job_turns.job_copies.unit_change.Described.{Describes, DescribesSet}
use Rattle.unit_load.specs.declared.state.UnitState.{UnitState}
use Rattle.unit_load.specs.declared.state.UnitState.TheVariants as states
use Rattle.unit_load.specs.Kept.{IsKept}
use Rattle.dump_sets.specs.job_turns.job_copies.unit_steps.Loaded.{IsModel}
use Rattle.dump_sets.specs.job_turns.job_copies.unit_steps.Plans.{IsLoadedAt, HasRow}
use Rattle.dump_sets.specs.job_turns.job_copies.step_plans.Plans.{IsSound}
use Rattle.job_ops.specs.declared.asking.Candidate.{Candidate}
use Rattle.job_ops.specs.declared.task.Task.{Task}
use Rattle.job_ops.specs.declared.task.Task.TheVariants as tasks
use Rattle.job_ops.specs.Asked.{MayProcess, IsCandidate, IsSeen}
use Rattle.job_ops.specs.Task.{StaysFor}
use Rattle.job_ops.proofs.Judging.{volume_in}
use Rattle.dump_sets.proofs.job_turns.job_copies.SetsOfRows.{named_set}
use Rattle.job_ops.proofs.SetsOfRows.{one_set}
use Rattle.dump_sets.proofs.job_turns.job_steps.unit_session.unit_steps.OneChange.{same_volume}

-- ---- units

as_many : (room : ℕ) (control : Control) (found units : List UnitModel) → IsAfterSlide room control found units → length units ≡ length found
as_many room Idle found units same = ap length same
as_many room (Slide unit from to len done) found units (before, after, replaces, slides) =
    omega
    (arith, ap length replaces.before_is, ap length replaces.after_is, length-append replaces.front (online before ∷ replaces.back), length-append replaces.front (online after ∷ replaces.back))

-- there is a model of each unit
pub unit_there : (facts : Facts) (state : State) (units : List UnitModel) → IsSettled facts state units → (unit : ℕ) → unit < journal_of facts.shape → (model : UnitModel) × (slice_get units unit ≡ Some model)
unit_there facts state units settled unit less =
    let reading = settled.stands.reading in
    let means = settled.stands.means in
    let long : length units ≡ length means.found = as_many reading.room reading.control means.found units means.after in
    ⊎_elim (λ within. (within.0, within.2)) (λ past. absurd (omega (arith, less, past.0, long, means.found_are.count))) (slice_get_cases units unit).1

-- ---- a row as a data set, whatever its texts

abbrev set_without : ℕ → Row → DataSet
set_without heads row = record { name = row.name; fields = fields_of_1 row.f1; extents = extents_of heads row; texts = []; threes = row.threes }

-- one that isn't pinned has at most 16 extents
pub few_extents : (heads : ℕ) (row : Row) (stays : Bool) → ((set : DataSet) → DescribesSet heads row set → IsPinned heads set.name set.fields set.extents → IsTrue stays) → IsTrue stays ⊎ (length row.extents ≤ 16)
few_extents heads row true pinned = inl refl
few_extents heads row false pinned = elim (cases_lt 16 (length row.extents)) [
  | inl many ↦
      absurd (false≢true (pinned (set_without heads row) (record { name_is = refl; fields_are = refl; extents_are = refl; threes_are = refl })
      (inr (inr (inr (inl (omega (arith, many, length-map row.extents (λ (extent : Field). extent_in heads (field_of extent))))))))))
  | inr few ↦ inr few
]

-- ---- the data set

module _ {task : Task} {units : List UnitState} {unit : ℕ} {name : Dsn} {candidate : Candidate} (is : IsCandidate task units unit name candidate) (volume : OnlineVolume) (describes : Describes is.volume volume) where
  heads_same : heads_of volume.device ≡ heads_of is.volume.device
  heads_same = ap heads_of describes.device_is

  stays_as : (set : DataSet) → DescribesSet (heads_of is.volume.device) is.row set → IsTrue candidate.stays ↔ StaysFor task (heads_of volume.device) set
  stays_as set has = subst (λ (heads : ℕ). IsTrue candidate.stays ↔ StaysFor task heads set) (sym heads_same) (is.stays set has)

  pub seen : (models : List UnitModel) → slice_get models unit ≡ Some (online volume) → IsSeen task unit name candidate models
  seen models at =
      let found = named_set is.volume volume is.sound describes name is.row is.row_is in
      let set = found.0 in
      let has = found.2 in
      let named : IsNameOf name set.name = subst (IsNameOf name) (sym has.name_is) is.row_is.name_is in
      record {
        volume = volume;
        set = set;
        set_is = record { online_is = at; there = found.1; name_is = named };
        alone = λ other there is_named. one_set is.volume volume is.sound describes name other set there found.1 is_named named;
        name_is = is.name_is ∙ sym has.name_is;
        size_is = is.size_is ∙ ap (λ (extents : List Extent). length (tracks_of extents)) (sym has.extents_are);
        extents_are = is.extents_are ∙ sym (ap length has.extents_are ∙ length-map is.row.extents (λ (extent : Field). extent_in (heads_of is.volume.device) (field_of extent)));
        keep_is = is.keep_is set has ∙ ap (λ (heads : ℕ). kept_tracks heads set) (sym heads_same);
        repair_is = is.repair_is ∙ sym describes.repair_is;
        serial_is = is.serial_is ∙ sym describes.serial_is;
        stays = stays_as set has;
      }

-- ---- the row that was found

abbrev volume_of : Volume → UnitState → Volume
volume_of other (states.Online volume) = volume
volume_of other (states.Offline why) = other

pub loaded_there : {room : ℕ} {units : List UnitState} {unit : ℕ} (name : Dsn) → MayProcess room units unit (name ∷ []) → (volume : Volume) → IsLoadedAt units unit volume → (row : Row) × HasRow volume name row
loaded_there {room} {units} {unit} name may volume loaded =
    subst (λ (v : Volume). (row : Row) × HasRow v name row) (same_volume units unit may.may.volume volume may.may.loaded loaded)
    (All-head (λ (n : Dsn). (row : Row) × HasRow may.may.volume n row) name [] may.sets)

pub loaded_sound : (head : List ℕ) (blocks : ℕ) {state : UnitState} {volume : Volume} → state ≡ states.Online volume → ((slots : List ℕ) × IsKept false head blocks state slots) → IsSound volume
loaded_sound head blocks {state} {volume} is kept = (head, blocks, kept.0, subst (λ (s : UnitState). IsKept false head blocks s kept.0) is kept.1)

pub found_row : (volume : Volume) (name : Dsn) (rows : List Row) (place : ℕ) (row : Row) → IsDsn name → rows ≡ volume.rows → place < length volume.rows
    → IsNameOf name (get_or volume.rows place row).name → row ≡ get_or rows place row → HasRow volume name row
found_row volume name rows place row lawful are within named at =
    let is : get_or volume.rows place row ≡ row = sym (at ∙ ap (λ (list : List Row). get_or list place row) are) in
    record {
      lawful = lawful;
      there = subst (λ (r : Row). Contains volume.rows r) is (Contains-get_or volume.rows place row within);
      name_is = subst (λ (r : Row). IsNameOf name r.name) is named;
    }

-- ---- whether a statement changes it

-- no statement changes one that is pinned
pub stays_pinned : (task : Task) (heads : ℕ) (set : DataSet) → IsPinned heads set.name set.fields set.extents → StaysFor task heads set
stays_pinned tasks.Release heads set pinned = inl pinned
stays_pinned tasks.Consolidate heads set pinned = pinned

-- a release changes one that isn't pinned if it is sequential or partitioned
pub stays_other : {pinned : Bool} {A B : Type 0} (moves : Bool) → (IsTrue pinned ↔ A) → pinned ≡ false → (IsTrue moves ↔ B) → IsTrue (not moves) ↔ (A ⊎ (¬ B))
stays_other true first free second =
    (λ s. absurd (false≢true s), ⊎_elim (λ h. absurd (false≢true (sym free ∙ first.1 h))) (λ other. absurd (other (second.0 refl))))
stays_other false first free second = (λ s. inr (λ h. false≢true (second.1 h)), λ h. refl)

-- ---- a unit and its volume

pub described_online : (loaded : Volume) (volume : OnlineVolume) → IsModel (states.Online loaded) (online volume) → Describes loaded volume
described_online loaded volume is = subst (λ (v : OnlineVolume). Describes loaded v) (ap (volume_in volume) (sym is.1)) is.2
