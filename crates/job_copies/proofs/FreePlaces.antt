-- The places of a copy on the volume as it was loaded, and on what it is.
use Rattle.std.proofs.Common.{◌≡◌, ℕ, List, length, sym, ap, subst, ◌∙◌}
use Rattle.ckd_image.specs.Device.{heads_of}
use Rattle.free_map.specs.declared.run.Run.{Run}
use Rattle.free_map.specs.Free.{IsFree}
use Rattle.free_map.specs.Several.{ArePlaces, AreChosen, AreTooShort}
use Rattle.volume_model.specs.Unit.{Extent, tracks_of}
use Rattle.vtoc_core.specs.declared.volume.Row.{Row}
use Rattle.vtoc_core.specs.declared.volume.Volume.{Volume}
use Rattle.step_room.proofs.vtoc_render.PlacedTakes.{heads_same}
use Rattle.plan_core.specs.Consolidate.{IsStepOf}
use Rattle.step_room.specs.unit_steps.Plans.{HasRow}
use Rattle.step_room.proofs.unit_steps.Blocks.{from_slots}
use Rattle.step_room.specs.step_plans.Plans.{IsSound, ArePlacesOn, extents_from}
use Rattle.job_copies.specs.declared.copying.Copying.{Copying}
use Rattle.job_copies.specs.Case.{Case}
use Rattle.job_copies.specs.Loaded.{AreCopied, MayCopy}
use Rattle.job_copies.specs.Places.{ArePlacesFor, HasNoPlaces}
use Rattle.job_copies.proofs.Replaced.{origin_described}
use Rattle.job_copies.proofs.Rows.{same_origin}

-- the free tracks of a volume are of its device
pub free_heads : (volume : Volume) → IsSound volume → volume.free.heads ≡ heads_of volume.device
free_heads volume sound = sound.3.loaded.volume.space.heads_are ∙ sym (heads_same (from_slots sound.3))

module _ (copying : Copying) (may : MayCopy copying) (row : Row) (has : HasRow copying.source.now copying.name row) (need step : ℕ)
    (need_is : need ≡ length (tracks_of (extents_from copying.source.now.device row.extents)))
    (step_is : IsStepOf (heads_of copying.target.now.device) (extents_from copying.source.now.device row.extents) step) where
  -- places for one row of the name are places for each
  pub places_on : (runs : List Run) → ArePlaces (IsFree copying.target.now.free) need step runs → (other : Row) → HasRow copying.source.now copying.name other
      → ArePlacesOn copying.source.now other copying.target.now runs
  places_on runs places other other_is =
      subst (λ (r : Row). ArePlacesOn copying.source.now r copying.target.now runs) (same_origin may row other has other_is)
      (record { step = step; step_is = step_is; places = subst (λ (n : ℕ). ArePlaces (IsFree copying.target.now.free) n step runs) need_is places })

  module _ (case : Case) (are : AreCopied copying case) where
    extents_same : case.set.extents ≡ extents_from copying.source.now.device row.extents
    extents_same = (origin_described may are row has).extents_are

    step_told : IsStepOf (heads_of case.to.device) case.set.extents step
    step_told =
        subst (λ (heads : ℕ). IsStepOf heads case.set.extents step) (sym (ap heads_of are.to_is.device_is))
        (subst (λ (extents : List Extent). IsStepOf (heads_of copying.target.now.device) extents step) (sym extents_same) step_is)

    need_told : need ≡ length (tracks_of case.set.extents)
    need_told = need_is ∙ ap (λ (extents : List Extent). length (tracks_of extents)) (sym extents_same)

    -- what is chosen among the free runs that were loaded
    pub places_for : (runs : List Run) → AreChosen copying.target.now.free.runs need step runs → ArePlacesFor case runs
    places_for runs chosen = (
      step,
      copying.target.now.free.runs,
      step_told,
      are.to_is.free_are,
      subst (λ (n : ℕ). AreChosen copying.target.now.free.runs n step runs) need_told chosen,
    )

    pub no_places : (longest : ℕ) → AreTooShort copying.target.now.free.runs need step longest → HasNoPlaces case
    no_places longest short = (
      step,
      longest,
      copying.target.now.free.runs,
      step_told,
      are.to_is.free_are,
      subst (λ (n : ℕ). AreTooShort copying.target.now.free.runs n step longest) need_told short,
    )
