-- Where a copy stands.
use Rattle.std.specs.Prelude.{ℕ, List, length}
use Rattle.ckd_image.specs.Device.{heads_of}
use Rattle.free_map.specs.declared.run.Run.{Run}
use Rattle.free_map.specs.Several.{AreChosen, AreTooShort}
use Rattle.plan_core.specs.Consolidate.{IsStepOf}
use Rattle.volume_model.specs.Unit.{tracks_of, AreFreeRunsOf}
use Rattle.job_copies.specs.Case.{Case}

-- As many tracks as the data set has, of whole cylinders where all its extents are: the lowest run of free ones that holds them all, else the longest runs, at
-- most 16 of them.
abbrev pub ArePlacesFor : Case → List Run → Type 0
ArePlacesFor case to =
    (step : ℕ) × (free : List Run) × IsStepOf (heads_of case.to.device) case.set.extents step × AreFreeRunsOf case.to free
    × AreChosen free (length (tracks_of case.set.extents)) step to

-- the longest free runs are too short
abbrev pub HasNoPlaces : Case → Type 0
HasNoPlaces case =
    (step longest : ℕ) × (free : List Run) × IsStepOf (heads_of case.to.device) case.set.extents step × AreFreeRunsOf case.to free
    × AreTooShort free (length (tracks_of case.set.extents)) step longest
