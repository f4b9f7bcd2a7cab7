-- Plans of parts of a dump.
use Rattle.std.specs.Prelude.{◌≡◌, ◌⊎◌, ℕ, List, length}
use Rattle.ckd_image.specs.Device.{heads_of}
use Rattle.ckd_image.specs.declared.device.Device.{Device}
use Rattle.free_map.specs.Free.{IsFree}
use Rattle.free_map.specs.Several.{ArePlaces}
use Rattle.volume_model.specs.Reads.{fields_of_1}
use Rattle.vtoc_core.specs.declared.volume.Volume.{Volume}
use Rattle.unit_load.specs.declared.state.UnitState.{UnitState}
use Rattle.move_core.specs.Facts.{Original}
use Rattle.unit_steps.specs.declared.plan.Plan.{Plan}
use Rattle.unit_steps.specs.declared.plan.Tracks.TheVariants as texts
use Rattle.unit_steps.specs.Parts.{step_of_part}
use Rattle.unit_steps.specs.Plans.{IsLoadedAt, PlansPart}
use Rattle.step_plans.specs.declared.parts.PartSet.{PartSet}

-- what a part says before its texts are read is so of an original: for tracks of this device, with the part's format 1, type of new extents and number of tracks
pub record IsOriginalOf (device : Device) (part : PartSet) (original : Original) : Type 0 where
  pub device_is : original.device ≡ device
  pub fields_are : original.fields ≡ fields_of_1 part.f1
  pub kind_is : original.kind ≡ part.kind
  pub long : length original.texts ≡ part.tracks

-- new extents of a type begin at a multiple of so many tracks, and have a multiple of them: of a cylinder's, or of one
abbrev pub IsStepFor : (heads kind step : ℕ) → Type 0
IsStepFor heads kind step = ((kind ≡ 0x81) × (step ≡ heads)) ⊎ ((kind ≡ 0x01) × (step ≡ 1))

-- the part's runs are free tracks of the volume on which it has room
pub record ArePlacesOfPart (volume : Volume) (part : PartSet) : Type 0 where
  pub step : ℕ
  pub step_is : IsStepFor (heads_of volume.device) part.kind step
  pub places : ArePlaces (IsFree volume.free) part.tracks step part.runs

-- A plan that puts the part on its runs of the volume, whichever units have that, and whatever original has what the part says; the caller gives the texts.
pub record IsPartPlan (volume : Volume) (part : PartSet) (plan : Plan) : Type 0 where
  pub step_is : plan.step ≡ step_of_part part.replaced part.to.unit part.to.name part.runs part.input part.number
  pub tracks_are : plan.tracks ≡ texts.Given
  pub lawful : (units : List UnitState) (original : Original) → IsLoadedAt units part.to.unit volume → IsOriginalOf volume.device part original
      → PlansPart part.replaced units original part.to.unit part.to.name part.runs plan.changes
