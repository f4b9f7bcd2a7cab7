-- Which steps can be planned on units as they were loaded, and what such a plan is.
use Rattle.std.specs.Prelude.{◌≡◌, ◌≢◌, ℕ, ◌-◌, ◌/◌, ◌<◌, ◌≤◌, Bool, true, false, if◌then◌else◌, List, [], ◌∷◌, length}
use Rattle.dsn_filter.specs.declared.dsn.Dsn.{Dsn}
use Rattle.dsn_filter.specs.Dsn.{IsDsn}
use Rattle.free_map.specs.declared.run.Run.{Run}
use Rattle.vtoc_core.specs.declared.volume.Row.{Row}
use Rattle.vtoc_core.specs.declared.volume.Volume.{Volume}
use Rattle.unit_load.specs.declared.state.UnitState.{UnitState}
use Rattle.move_core.specs.declared.steps.Origin.TheVariants as origins
use Rattle.move_core.specs.declared.steps.Step.{Step}
use Rattle.move_core.specs.declared.steps.Step.TheVariants as steps
use Rattle.step_room.specs.unit_steps.declared.plan.Plan.{Plan}
use Rattle.step_room.specs.unit_steps.Plans.{IsLoadedAt, HasRow, IsPlan, tracks_in}
use Rattle.step_room.specs.step_plans.Plans.{IsSound, IsPlaceOn, ArePlacesOn, IsClear}
use Rattle.job_steps.specs.unit_session.Planned.{MayBegin}

-- a unit whose volume a statement may change: it has no index, and a commit can hold its VTOC
pub record MayBeChanged (room : ℕ) (units : List UnitState) (unit : ℕ) : Type 0 where
  pub volume : Volume
  pub loaded : IsLoadedAt units unit volume
  pub not_indexed : volume.indexed ≡ false
  pub few_tracks : volume.vtoc.len ≤ (room - 1) / 2

-- a volume that may be changed has a data set of the name
pub record HasSet (room : ℕ) (units : List UnitState) (unit : ℕ) (name : Dsn) : Type 0 where
  pub may : MayBeChanged room units unit
  pub sound : IsSound may.volume
  pub row : Row
  pub row_is : HasRow may.volume name row

-- Its first tracks can be kept alone: it has more, and at most 16 extents.
pub record MayCut (room : ℕ) (units : List UnitState) (unit : ℕ) (name : Dsn) (keep : ℕ) : Type 0 where
  pub set : HasSet room units unit name
  pub few : length set.row.extents ≤ 16
  pub fewer : keep < length (tracks_in set.may.volume set.row)

-- It can count as dumped: it has at most 16 extents.
pub record MayReset (room : ℕ) (units : List UnitState) (unit : ℕ) (name : Dsn) : Type 0 where
  pub set : HasSet room units unit name
  pub few : length set.row.extents ≤ 16

-- It can move into one extent: it has another number of them, at most 16, and the run is free, and as long as all its tracks.
pub record MayJoin (room : ℕ) (units : List UnitState) (unit : ℕ) (name : Dsn) (to : List Run) : Type 0 where
  pub set : HasSet room units unit name
  pub few : length set.row.extents ≤ 16
  pub several : length set.row.extents ≢ 1
  pub run : Run
  pub to_is : to ≡ run ∷ []
  pub some : 1 ≤ run.len
  pub whole : run.len ≡ length (tracks_in set.may.volume set.row)
  pub place : IsPlaceOn set.may.volume set.row set.may.volume run.first

-- A copy of it can be put on a volume of a like device: it has at most 16 extents, its places there are free, and what is to be replaced is there, or nothing of
-- the new name is.
pub record MayPut (room : ℕ) (units : List UnitState) (from : ℕ) (old : Dsn) (unit : ℕ) (name : Dsn) (to : List Run) (replaced : Bool) : Type 0 where
  pub source : Volume
  pub source_loaded : IsLoadedAt units from source
  pub source_sound : IsSound source
  pub target : MayBeChanged room units unit
  pub target_sound : IsSound target.volume
  pub like : target.volume.device ≡ source.device
  pub row : Row
  pub row_is : HasRow source old row
  pub few : length row.extents ≤ 16
  pub new_is : IsDsn name
  pub places : ArePlacesOn source row target.volume to
  pub clear : IsClear replaced target.volume name

-- the copy can be put on another unit, and the data set taken from its own
pub record MayCarry (room : ℕ) (units : List UnitState) (from : ℕ) (old : Dsn) (unit : ℕ) (name : Dsn) (to : List Run) (replaced : Bool) : Type 0 where
  pub apart : from ≢ unit
  pub may : MayBeChanged room units from
  pub put : MayPut room units from old unit name to replaced

-- a step can be planned
abbrev pub MayPlan : ℕ → List UnitState → Step → Type 0
MayPlan room units (steps.Repair unit) = MayBeChanged room units unit
MayPlan room units (steps.Delete unit name) = HasSet room units unit name
MayPlan room units (steps.ResetFlag unit name) = MayReset room units unit name
MayPlan room units (steps.Shrink unit name keep) = MayCut room units unit name keep
MayPlan room units (steps.Move unit name to) = MayJoin room units unit name to
MayPlan room units (steps.Add unit name to (origins.Row from old)) = MayPut room units from old unit name to false
MayPlan room units (steps.Replace unit name to (origins.Row from old)) = MayPut room units from old unit name to true
MayPlan room units (steps.Carry from old unit name to replaced) = MayCarry room units from old unit name to replaced
MayPlan room units step = ⊥

-- a plan of a step, which nothing bars
pub record IsStepPlan (room : ℕ) (units : List UnitState) (step : Step) (plan : Plan) : Type 0 where
  pub step_is : plan.step ≡ step
  pub lawful : IsPlan units plan
  pub may : MayBegin room units plan.changes

-- the step that puts a copy of a data set, beside the others or in the place of one
abbrev pub put_step : ℕ → Dsn → ℕ → Dsn → List Run → Bool → Step
put_step from old unit name to replaced =
    if replaced then steps.Replace unit name to (origins.Row from old) else steps.Add unit name to (origins.Row from old)

-- repairs of units, one after the other
abbrev pub repair_steps : List ℕ → List Step
repair_steps [] = []
repair_steps (unit ∷ units) = steps.Repair unit ∷ repair_steps units
