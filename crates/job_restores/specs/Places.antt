-- Where a part of a dump stands on a volume.
use Rattle.std.specs.Prelude.{ℕ, List}
use Rattle.ckd_image.specs.Device.{heads_of}
use Rattle.free_map.specs.declared.run.Run.{Run}
use Rattle.free_map.specs.Several.{AreChosen, AreTooShort}
use Rattle.volume_model.specs.Unit.{AreFreeRunsOf}
use Rattle.job_turns.specs.job_copies.step_plans.Parts.{IsStepFor}
use Rattle.job_restores.specs.Case.{Case}

-- As many tracks as it has, of whole cylinders where its extents were: the lowest run of free ones that holds them all, else the longest runs, at most 16 of them.
abbrev pub ArePlacesFor : Case → List Run → Type 0
ArePlacesFor case to = (step : ℕ) × (free : List Run) × IsStepFor (heads_of case.to.device) case.part.kind step × AreFreeRunsOf case.to free × AreChosen free case.part.tracks step to

-- the longest free runs are too short
abbrev pub HasNoPlaces : Case → Type 0
HasNoPlaces case =
    (step longest : ℕ) × (free : List Run) × IsStepFor (heads_of case.to.device) case.part.kind step × AreFreeRunsOf case.to free × AreTooShort free case.part.tracks step longest
