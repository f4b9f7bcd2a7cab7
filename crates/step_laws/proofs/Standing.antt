-- The units for which an image stands are proper.
use Rattle.std.proofs.Common.{ℕ, List, ◌∷◌, [], refl, sym, subst}
use Rattle.redo_core.specs.declared.control.Control.{Control}
use Rattle.redo_core.specs.declared.control.Control.TheVariants.{Idle, Slide}
use Rattle.volume_model.specs.Unit.{OnlineVolume, UnitModel, AreByName, online}
use Rattle.move_core.specs.Stands.{moved_to, Slides, IsAfterSlide}
use Rattle.step_laws.specs.Outcome.{IsProper, AreProper, StandsProper}
use Rattle.step_laws.proofs.Changes.{sets_before, sets_after, apart_renamed}
use Rattle.step_laws.proofs.Names.{renamed, still_by_name}
use Rattle.step_laws.proofs.RowNames.{online_proper}
use Rattle.step_laws.proofs.Units.{replaced_proper}

-- a slide leaves the names as they are
slides_proper : (room from to len : ℕ) (before after : OnlineVolume) → Slides room from to len before after → IsProper before → IsProper after
slides_proper room from to len before after slides was =
    let change = slides.changes in
    let set = slides.extent.set in
    let next = moved_to slides.extent to len in
    record {
      order = subst AreByName (sym (sets_after change (next ∷ []) refl))
          (still_by_name _ _ (renamed change.front change.back set next refl) (subst AreByName (sets_before change (set ∷ []) refl) was.order));
      apart = apart_renamed change set next refl refl refl was.apart;
    }

after_proper : (room : ℕ) (control : Control) (found units : List UnitModel) → IsAfterSlide room control found units → AreProper found → AreProper units
after_proper room Idle found units after proper = subst AreProper (sym after) proper
after_proper room (Slide unit from to len done) found units (before, next, replaces, slides) proper =
    replaced_proper replaces proper (slides_proper room from to len before next slides)

pub stands_proper : StandsProper
stands_proper facts image units stands =
    let found : AreProper stands.means.found = λ unit volume at. online_proper (stands.means.found_are.each unit (online volume) at).1 in
    after_proper stands.reading.room stands.reading.control stands.means.found units stands.means.after found
