-- The reading of a pool on which no slide is open is what its blocks hold.
use Rattle.std.proofs.Common.{◌≡◌, ℕ, ◌<◌, Bool, List, false, Some, sym, subst, ◌∙◌}
use Rattle.std.specs.Prelude.{slice_get}
use Rattle.dasd_pool.specs.Disk.{State}
use Rattle.redo_core.specs.declared.control.Control.{Control}
use Rattle.redo_core.specs.declared.control.Control.TheVariants.{Idle}
use Rattle.redo_core.specs.Reading.{journal_of, fills_of}
use Rattle.redo_core.proofs.Crash.{closed_overlay}
use Rattle.volume_model.specs.Reads.{IsUnit}
use Rattle.volume_model.specs.Sound.{Slots}
use Rattle.volume_model.specs.Unit.{UnitModel}
use Rattle.move_core.specs.Facts.{Facts}
use Rattle.move_core.specs.Stands.{is_sliding, place_in, IsAfterSlide, IsSettled}
use Rattle.move_core.specs.Taking.{IsQuiet}
use Rattle.unit_change.specs.Described.{own_place}

module _ (facts : Facts) (state : State) (units : List UnitModel) (room : ℕ) (fills : List Bool) (quiet : IsQuiet facts.shape state room fills)
    (settled : IsSettled facts state units) where
  pub own_slots : (u : ℕ) → u < journal_of facts.shape → settled.stands.reading.volumes u ≡ state.contents u
  own_slots u less =
      λ i b. (settled.stands.reads.volumes_are u b less ∙ closed_overlay facts.shape.block_size (journal_of facts.shape) state.contents quiet.rest.closed u b) i

  pub control_idle : settled.stands.reading.control ≡ Idle
  control_idle = settled.stands.reads.obeys.control_is ∙ sym quiet.rest.reads.obeys.control_is

  pub same_fills : (u : ℕ) → u < journal_of facts.shape → settled.stands.reading.fills u ≡ fills_of fills u
  same_fills u less = settled.stands.reads.obeys.fills_are u less ∙ sym (quiet.rest.reads.obeys.fills_are u less)

  pub units_found : units ≡ settled.stands.means.found
  units_found = subst (λ (control : Control). IsAfterSlide settled.stands.reading.room control settled.stands.means.found units) control_idle settled.stands.means.after

  -- each unit is what its blocks say, and whether a fill is open on it
  pub unit_stands : (u : ℕ) (model : UnitModel) → u < journal_of facts.shape → slice_get settled.stands.means.found u ≡ Some model
      → IsUnit (fills_of fills u) false own_place (facts.shape.head u) (facts.shape.blocks u) (state.contents u) model
  unit_stands u model less at =
      let reading = settled.stands.reading in
      let head = facts.shape.head u in
      let blocks = facts.shape.blocks u in
      subst (λ (slots : Slots). IsUnit (fills_of fills u) false own_place head blocks slots model) (own_slots u less)
      (subst (λ (control : Control). IsUnit (fills_of fills u) (is_sliding control u) (place_in control u) head blocks (reading.volumes u) model) control_idle
      (subst (λ (filling : Bool). IsUnit filling (is_sliding reading.control u) (place_in reading.control u) head blocks (reading.volumes u) model) (same_fills u less)
      (settled.stands.means.found_are.each u model at)))
