-- Plans that are made from a volume as it was loaded.
use Rattle.std.specs.Prelude.{◌≡◌, ◌⊎◌, ℕ, ◌+◌, ◌-◌, ◌<◌, ◌≤◌, Bool, true, false, if◌then◌else◌, List, [], ◌∷◌, length, map, All}
use Rattle.ckd_image.specs.declared.device.Device.{Device}
use Rattle.ckd_image.specs.Address.{address_of}
use Rattle.ckd_image.specs.Device.{heads_of}
use Rattle.dscb_rec.specs.declared.field.Extent.{Extent as Field}
use Rattle.dsn_filter.specs.declared.dsn.Dsn.{Dsn}
use Rattle.free_map.specs.declared.run.Run.{Run}
use Rattle.free_map.specs.Free.{IsFree}
use Rattle.free_map.specs.Place.{IsPlace}
use Rattle.free_map.specs.Several.{ArePlaces}
use Rattle.volume_model.specs.Reads.{extent_in}
use Rattle.volume_model.specs.Space.{is_run}
use Rattle.volume_model.specs.Unit.{Extent}
use Rattle.vtoc_core.specs.declared.volume.Row.{Row}
use Rattle.vtoc_core.specs.declared.volume.Volume.{Volume}
use Rattle.vtoc_core.specs.Loaded.{field_of}
use Rattle.unit_load.specs.declared.state.UnitState.{UnitState}
use Rattle.unit_load.specs.Kept.{IsFromSlots}
use Rattle.plan_core.specs.Consolidate.{IsStepOf}
use Rattle.move_core.specs.declared.steps.Origin.TheVariants as origins
use Rattle.move_core.specs.declared.steps.Step.{Step}
use Rattle.move_core.specs.declared.steps.Step.TheVariants as steps
use Rattle.unit_steps.specs.declared.plan.Plan.{Plan}
use Rattle.unit_steps.specs.Plans.{IsLoadedAt, HasRow, IsPlan, extents_in, tracks_in}
use Rattle.step_plans.specs.declared.copies.SetCopy.{SetCopy}

-- a volume that was loaded from the slots of its VTOC, on some unit
abbrev pub IsSound : Volume → Type 0
IsSound volume = (head : List ℕ) × (blocks : ℕ) × (slots : List ℕ) × IsFromSlots false head blocks volume slots

-- a plan of this step, whichever units have the volume at this place
pub record IsPlanFor (volume : Volume) (unit : ℕ) (step : Step) (plan : Plan) : Type 0 where
  pub step_is : plan.step ≡ step
  pub lawful : (units : List UnitState) → IsLoadedAt units unit volume → IsPlan units plan

-- the volume has no data set of the name
abbrev pub HasNone : Volume → Dsn → Type 0
HasNone volume name = (row : Row) → ¬ HasRow volume name row

-- it has one of more extents than a data set may have that is put
abbrev pub HasManyExtents : Volume → Dsn → Type 0
HasManyExtents volume name = (row : Row) × HasRow volume name row × (16 < length row.extents)

-- it has one of no more than so many tracks
abbrev pub HasFewTracks : Volume → Dsn → ℕ → Type 0
HasFewTracks volume name keep = (row : Row) × HasRow volume name row × (length (tracks_in volume row) ≤ keep)

-- ---- extents

-- extents as runs of a device's tracks
abbrev pub extents_from : Device → List Field → List Extent
extents_from device extents = map (λ extent. extent_in (heads_of device) (field_of extent)) extents

-- each is a run of the largest volume's tracks
abbrev pub AreRuns : Device → List Field → Type 0
AreRuns device extents = All (λ extent. is_run (heads_of device) 65536 (field_of extent) ≡ true) extents

-- the extent of a type on a run of a device's tracks
abbrev pub field_on : Device → ℕ → Run → Field
field_on device kind run = record {
  kind = kind;
  number = 0;
  first = address_of (heads_of device) run.first;
  last = address_of (heads_of device) (run.first + (run.len - 1));
}

-- tracks that a data set may be put on: some, of the largest volume's
pub record IsRoom (run : Run) : Type 0 where
  pub some : 1 ≤ run.len
  pub below : run.first + run.len ≤ 65535

-- ---- places

-- Free tracks of a volume for a data set of a volume, from one track on: of whole cylinders where all its extents are.
pub record IsPlaceOn (source : Volume) (row : Row) (volume : Volume) (first : ℕ) : Type 0 where
  pub step : ℕ
  pub step_is : IsStepOf (heads_of volume.device) (extents_in source row) step
  pub place : IsPlace (IsFree volume.free) (length (tracks_in source row)) step first

-- the same in several runs
pub record ArePlacesOn (source : Volume) (row : Row) (volume : Volume) (runs : List Run) : Type 0 where
  pub step : ℕ
  pub step_is : IsStepOf (heads_of volume.device) (extents_in source row) step
  pub places : ArePlaces (IsFree volume.free) (length (tracks_in source row)) step runs

-- ---- moves and copies

-- the data set has one extent, or no track
abbrev pub IsWhole : Volume → Dsn → Type 0
IsWhole volume name = (row : Row) × HasRow volume name row × ((length row.extents ≡ 1) ⊎ (length (tracks_in volume row) ≡ 0))

-- a plan that moves it into the run from a track on
abbrev pub IsJoinPlan : Volume → ℕ → Dsn → ℕ → Plan → Type 0
IsJoinPlan volume unit name first plan =
    (row : Row) × HasRow volume name row × IsPlanFor volume unit (steps.Move unit name (record { first = first; len = length (tracks_in volume row) } ∷ [])) plan

-- nothing of the name is there to be replaced, or something of the name is there and nothing is to be
abbrev pub IsInTheWay : Bool → Volume → Dsn → Type 0
IsInTheWay true volume name = HasNone volume name
IsInTheWay false volume name = (row : Row) × HasRow volume name row

-- what is to be replaced is there, or nothing of the name is
abbrev pub IsClear : Bool → Volume → Dsn → Type 0
IsClear true volume name = (row : Row) × HasRow volume name row
IsClear false volume name = HasNone volume name

-- a plan of this step, whichever units have these volumes at these places
pub record IsPlanForBoth (source : Volume) (from : ℕ) (volume : Volume) (unit : ℕ) (step : Step) (plan : Plan) : Type 0 where
  pub step_is : plan.step ≡ step
  pub lawful : (units : List UnitState) → IsLoadedAt units from source → IsLoadedAt units unit volume → IsPlan units plan

-- the step that puts a copy, beside the others or in the place of one
abbrev pub step_of_copy : SetCopy → Step
step_of_copy copy =
    if copy.replaced then steps.Replace copy.to.unit copy.to.name copy.runs (origins.Row copy.from.unit copy.from.name)
    else steps.Add copy.to.unit copy.to.name copy.runs (origins.Row copy.from.unit copy.from.name)

-- the step that puts a copy and takes the data set away
abbrev pub step_of_carry : SetCopy → Step
step_of_carry copy = steps.Carry copy.from.unit copy.from.name copy.to.unit copy.to.name copy.runs copy.replaced
