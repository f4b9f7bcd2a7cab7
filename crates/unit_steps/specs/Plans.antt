-- Which plans are steps of the volumes that were loaded.
use Rattle.std.specs.Prelude.{◌≡◌, ◌≢◌, ◌⊎◌, ℕ, ◌<◌, Bool, true, false, List, [], ◌∷◌, length, Contains, Some, slice_get}
use Rattle.ckd_image.specs.Device.{heads_of}
use Rattle.dsn_filter.specs.declared.dsn.Dsn.{Dsn}
use Rattle.dsn_filter.specs.Dsn.{IsDsn}
use Rattle.free_map.specs.declared.run.Run.{Run}
use Rattle.free_map.specs.Runs.{InRuns}
use Rattle.free_map.specs.Free.{IsFree}
use Rattle.volume_model.specs.Pinned.{IsNameOf}
use Rattle.volume_model.specs.Reads.{fields_of_1}
use Rattle.volume_model.specs.Unit.{Extent, tracks_of}
use Rattle.vtoc_core.specs.declared.volume.Row.{Row}
use Rattle.vtoc_core.specs.declared.volume.Volume.{Volume}
use Rattle.volume_change.specs.declared.change.Change.{Change}
use Rattle.volume_change.specs.declared.change.Change.TheVariants.{Repair, Put, Swap, Remove}
use Rattle.unit_change.specs.vtoc_render.Next.{MayChange}
use Rattle.unit_change.specs.Changed.{extents_of}
use Rattle.unit_load.specs.declared.state.UnitState.{UnitState}
use Rattle.unit_load.specs.declared.state.UnitState.TheVariants.{Online}
use Rattle.move_core.specs.declared.steps.Origin.TheVariants as origins
use Rattle.move_core.specs.declared.steps.Step.{Step}
use Rattle.move_core.specs.declared.steps.Step.TheVariants as steps
use Rattle.move_core.specs.Facts.{Original}
use Rattle.move_core.specs.Steps.{IsNewKind, extents_on, KeepsExtents, JoinsExtents, LieOnCylinders, BeginOnCylinders, cut, reset_fields, fields_at, tracks_for}
use Rattle.unit_steps.specs.declared.plan.Plan.{Plan}
use Rattle.unit_steps.specs.declared.plan.Tracks.{Tracks}
use Rattle.unit_steps.specs.declared.plan.Tracks.TheVariants as texts

-- ---- what was loaded

-- the volume of a unit, as it was loaded
abbrev pub IsLoadedAt : List UnitState → ℕ → Volume → Type 0
IsLoadedAt units unit volume = slice_get units unit ≡ Some (Online volume)

-- the row of a data set name on a volume
pub record HasRow (volume : Volume) (name : Dsn) (row : Row) : Type 0 where
  pub lawful : IsDsn name
  pub there : Contains volume.rows row
  pub name_is : IsNameOf name row.name

-- a row's extents, and their tracks in order, on a volume
abbrev pub extents_in : Volume → Row → List Extent
extents_in volume row = extents_of (heads_of volume.device) row

abbrev pub tracks_in : Volume → Row → List ℕ
tracks_in volume row = tracks_of (extents_in volume row)

-- a row with this name, these fields and these extents
pub record IsRowWith (volume : Volume) (name fields : List ℕ) (extents : List Extent) (row : Row) : Type 0 where
  pub name_is : row.name ≡ name
  pub fields_are : fields_of_1 row.f1 ≡ fields
  pub extents_are : extents_in volume row ≡ extents

-- ---- one data set that stays on its unit

-- a row stands in the place of the one that has a name
pub record SwapsRow (units : List UnitState) (unit : ℕ) (name : Dsn) (changes : List (ℕ × Change)) : Type 0 where
  pub volume : Volume
  pub old : Row
  pub row : Row
  pub loaded : IsLoadedAt units unit volume
  pub old_is : HasRow volume name old
  pub changes_are : changes ≡ (unit, Swap name row) ∷ []
  pub may : MayChange volume (Swap name row)

-- the tracks behind its first ones are given back
pub record PlansShrink (units : List UnitState) (unit : ℕ) (name : Dsn) (keep : ℕ) (changes : List (ℕ × Change)) : Type 0 where
  pub swap : SwapsRow units unit name changes
  pub row_is : IsRowWith swap.volume swap.old.name (fields_of_1 swap.old.f1) (cut keep (extents_in swap.volume swap.old)) swap.row
  pub fewer : keep < length (tracks_in swap.volume swap.old)

-- it counts as dumped
pub record PlansReset (units : List UnitState) (unit : ℕ) (name : Dsn) (changes : List (ℕ × Change)) : Type 0 where
  pub swap : SwapsRow units unit name changes
  pub row_is : IsRowWith swap.volume swap.old.name (reset_fields (fields_of_1 swap.old.f1)) (extents_in swap.volume swap.old) swap.row

-- It moves. Each track of the new place is free, or is its own and the same one of its tracks as before.
pub record PlansMove (units : List UnitState) (unit : ℕ) (name : Dsn) (to : List Run) (changes : List (ℕ × Change)) : Type 0 where
  pub swap : SwapsRow units unit name changes
  pub extents : List Extent
  pub extents_are : KeepsExtents (extents_in swap.volume swap.old) to extents ⊎ JoinsExtents (extents_in swap.volume swap.old) to extents
  pub as_many : length (tracks_of extents) ≡ length (tracks_in swap.volume swap.old)
  pub row_is : IsRowWith swap.volume swap.old.name (fields_of_1 swap.old.f1) extents swap.row
  pub tracks : (k track : ℕ) → slice_get (tracks_of extents) k ≡ Some track
      → IsFree swap.volume.free track ⊎ (slice_get (tracks_in swap.volume swap.old) k ≡ Some track)
  pub begins : BeginOnCylinders (heads_of swap.volume.device) extents

-- it goes
pub record PlansDelete (units : List UnitState) (unit : ℕ) (name : Dsn) (changes : List (ℕ × Change)) : Type 0 where
  pub volume : Volume
  pub old : Row
  pub loaded : IsLoadedAt units unit volume
  pub old_is : HasRow volume name old
  pub changes_are : changes ≡ (unit, Remove name) ∷ []
  pub may : MayChange volume (Remove name)

-- free space is stated anew
pub record PlansRepair (units : List UnitState) (unit : ℕ) (changes : List (ℕ × Change)) : Type 0 where
  pub volume : Volume
  pub loaded : IsLoadedAt units unit volume
  pub changes_are : changes ≡ (unit, Repair) ∷ []

-- ---- a copy

-- a row is put beside the others, or in the place of the one that has its name
abbrev pub putting : Bool → Dsn → Row → Change
putting false name row = Put row
putting true name row = Swap name row

-- A data set of a unit is copied onto free tracks of a unit of a like device.
pub record PlansCopy (replaced : Bool) (units : List UnitState) (from : ℕ) (origin : Dsn) (unit : ℕ) (name : Dsn) (to : List Run) (change : Change) : Type 0 where
  pub source : Volume
  pub old : Row
  pub source_loaded : IsLoadedAt units from source
  pub old_is : HasRow source origin old
  pub volume : Volume
  pub row : Row
  pub loaded : IsLoadedAt units unit volume
  pub like : volume.device ≡ source.device
  pub lawful : IsDsn name
  pub named : IsNameOf name row.name
  pub kind : ℕ
  pub kind_is : IsNewKind (extents_in source old) kind
  pub whole : LieOnCylinders (heads_of volume.device) kind to
  pub row_is : IsRowWith volume row.name (fields_at row.name volume.serial (fields_of_1 old.f1)) (extents_on kind to) row
  pub size : length (tracks_of (extents_on kind to)) ≡ tracks_for (heads_of volume.device) kind (length (tracks_in source old))
  pub free : (track : ℕ) → InRuns to track → IsFree volume.free track
  pub change_is : change ≡ putting replaced name row
  pub may : MayChange volume change

-- it is copied, and stays
pub record PlansPut (replaced : Bool) (units : List UnitState) (from : ℕ) (origin : Dsn) (unit : ℕ) (name : Dsn) (to : List Run) (changes : List (ℕ × Change)) : Type 0 where
  pub change : Change
  pub copy : PlansCopy replaced units from origin unit name to change
  pub changes_are : changes ≡ (unit, change) ∷ []

-- it is copied to another unit, and goes
pub record PlansCarry (units : List UnitState) (from : ℕ) (origin : Dsn) (unit : ℕ) (name : Dsn) (to : List Run) (replaced : Bool) (changes : List (ℕ × Change)) : Type 0 where
  pub apart : from ≢ unit
  pub change : Change
  pub copy : PlansCopy replaced units from origin unit name to change
  pub changes_are : changes ≡ (unit, change) ∷ (from, Remove origin) ∷ []
  pub may : MayChange copy.source (Remove origin)

-- A part of a dump is put on free tracks of a unit of a like device.
pub record PlansPart (replaced : Bool) (units : List UnitState) (original : Original) (unit : ℕ) (name : Dsn) (to : List Run) (changes : List (ℕ × Change)) : Type 0 where
  pub change : Change
  pub volume : Volume
  pub row : Row
  pub loaded : IsLoadedAt units unit volume
  pub like : volume.device ≡ original.device
  pub lawful : IsDsn name
  pub named : IsNameOf name row.name
  pub whole : LieOnCylinders (heads_of volume.device) original.kind to
  pub row_is : IsRowWith volume row.name (fields_at row.name volume.serial original.fields) (extents_on original.kind to) row
  pub size : length (tracks_of (extents_on original.kind to)) ≡ tracks_for (heads_of volume.device) original.kind (length original.texts)
  pub free : (track : ℕ) → InRuns to track → IsFree volume.free track
  pub change_is : change ≡ putting replaced name row
  pub may : MayChange volume change
  pub changes_are : changes ≡ (unit, change) ∷ []

-- ---- plans

-- A step of the volumes that were loaded, where its texts come from, and its changes. Of copies those onto a unit of a like device are built.
abbrev pub Plans : List UnitState → Step → Tracks → List (ℕ × Change) → Type 0
Plans units (steps.Move unit name to) tracks changes = (tracks ≡ texts.Rows unit name) × PlansMove units unit name to changes
Plans units (steps.Shrink unit name keep) tracks changes = (tracks ≡ texts.None) × PlansShrink units unit name keep changes
Plans units (steps.Add unit name to (origins.Row from origin)) tracks changes = (tracks ≡ texts.Rows from origin) × PlansPut false units from origin unit name to changes
Plans units (steps.Add unit name to (origins.Part input number)) tracks changes = (tracks ≡ texts.Given) × ((original : Original) × PlansPart false units original unit name to changes)
Plans units (steps.Replace unit name to (origins.Part input number)) tracks changes = (tracks ≡ texts.Given) × ((original : Original) × PlansPart true units original unit name to changes)
Plans units (steps.Replace unit name to (origins.Row from origin)) tracks changes = (tracks ≡ texts.Rows from origin) × PlansPut true units from origin unit name to changes
Plans units (steps.Delete unit name) tracks changes = (tracks ≡ texts.None) × PlansDelete units unit name changes
Plans units (steps.Carry from origin unit name to replaced) tracks changes = (tracks ≡ texts.Rows from origin) × PlansCarry units from origin unit name to replaced changes
Plans units (steps.ResetFlag unit name) tracks changes = (tracks ≡ texts.None) × PlansReset units unit name changes
Plans units (steps.Repair unit) tracks changes = (tracks ≡ texts.None) × PlansRepair units unit changes
Plans units step tracks changes = ⊥

abbrev pub IsPlan : List UnitState → Plan → Type 0
IsPlan units plan = Plans units plan.step plan.tracks plan.changes

-- the new tracks of a step take their texts from units, if it has any
abbrev pub IsOfUnits : Step → Type 0
IsOfUnits (steps.Add unit name to (origins.Part input number)) = ⊥
IsOfUnits (steps.Replace unit name to (origins.Part input number)) = ⊥
IsOfUnits step = Unit {0}
