-- The places of a part on the volume as it was loaded, and on what it is.
use Rattle.std.proofs.Common.{ℕ, List, sym, ap, subst}
use Rattle.ckd_image.specs.Device.{heads_of}
use Rattle.free_map.specs.declared.run.Run.{Run}
use Rattle.free_map.specs.Several.{AreChosen, AreTooShort}
use Rattle.job_turns.specs.job_copies.step_plans.Parts.{IsStepFor}
use Rattle.job_restores.specs.declared.restoring.Restoring.{Restoring}
use Rattle.job_restores.specs.Case.{Case}
use Rattle.job_restores.specs.Loaded.{AreRestored}
use Rattle.job_restores.specs.Places.{ArePlacesFor, HasNoPlaces}

module _ (restoring : Restoring) (step : ℕ) (step_is : IsStepFor (heads_of restoring.target.now.device) restoring.part.now.kind step) (case : Case) (are : AreRestored restoring case) where
  step_told : IsStepFor (heads_of case.to.device) case.part.kind step
  step_told =
      subst (λ (heads : ℕ). IsStepFor heads case.part.kind step) (sym (ap heads_of are.to_is.device_is))
      (subst (λ (kind : ℕ). IsStepFor (heads_of restoring.target.now.device) kind step) (sym are.kind_is) step_is)

  -- what is chosen among the free runs that were loaded
  pub places_for : (runs : List Run) → AreChosen restoring.target.now.free.runs restoring.part.now.tracks step runs → ArePlacesFor case runs
  places_for runs chosen = (
    step,
    restoring.target.now.free.runs,
    step_told,
    are.to_is.free_are,
    subst (λ (need : ℕ). AreChosen restoring.target.now.free.runs need step runs) (sym are.tracks_are) chosen,
  )

  -- that they are too short
  pub no_places : (longest : ℕ) → AreTooShort restoring.target.now.free.runs restoring.part.now.tracks step longest → HasNoPlaces case
  no_places longest short = (
    step,
    longest,
    restoring.target.now.free.runs,
    step_told,
    are.to_is.free_are,
    subst (λ (need : ℕ). AreTooShort restoring.target.now.free.runs need step longest) (sym are.tracks_are) short,
  )
