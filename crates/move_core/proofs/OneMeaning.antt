-- What an image says of its units is one list, and so is what it stands for where no slide is open.
use Rattle.std.proofs.Common.{◌≡◌, ℕ, ◌<◌, List, get_or, Bool, Some, sym, subst, ◌∙◌, arith}
use Rattle.std.specs.Prelude.{slice_get}
use Rattle.std.proofs.lemmas.List.{same_lists}
use Rattle.std.proofs.lemmas.Option.{slice_get-get_or}
use Rattle.dasd_pool.specs.Disk.{Image}
use Rattle.redo_core.specs.declared.control.Control.{Control}
use Rattle.redo_core.specs.declared.control.Control.TheVariants.{Idle}
use Rattle.redo_core.specs.Reading.{journal_of}
use Rattle.volume_model.specs.Reads.{IsUnit}
use Rattle.volume_model.specs.Sound.{Slots}
use Rattle.volume_model.specs.Unit.{UnitModel}
use Rattle.move_core.specs.Facts.{Facts}
use Rattle.move_core.specs.Stands.{is_sliding, place_in, IsAfterSlide, Stands}
use Rattle.move_core.proofs.OneUnit.{one_unit}

module _ (facts : Facts) (image : Image) (a b : List UnitModel) (one : Stands facts image a) (other : Stands facts image b) where
  control_is : other.reading.control ≡ one.reading.control
  control_is = other.reads.obeys.control_is ∙ sym one.reads.obeys.control_is

  fills_are : (u : ℕ) → u < journal_of facts.shape → other.reading.fills u ≡ one.reading.fills u
  fills_are u less = other.reads.obeys.fills_are u less ∙ sym (one.reads.obeys.fills_are u less)

  volumes_are : (u : ℕ) → u < journal_of facts.shape → other.reading.volumes u ≡ one.reading.volumes u
  volumes_are u less = λ i track. (other.reads.volumes_are u track less ∙ sym (one.reads.volumes_are u track less)) i

  unit_is : (u : ℕ) → u < journal_of facts.shape → (x y : UnitModel) → slice_get one.means.found u ≡ Some x → slice_get other.means.found u ≡ Some y → x ≡ y
  unit_is u less x y at there =
      let head = facts.shape.head u in
      let blocks = facts.shape.blocks u in
      let r = one.reading in
      let F : Bool → Type 0 = λ f. IsUnit f (is_sliding other.reading.control u) (place_in other.reading.control u) head blocks (other.reading.volumes u) y in
      let C : Control → Type 0 = λ c. IsUnit (r.fills u) (is_sliding c u) (place_in c u) head blocks (other.reading.volumes u) y in
      let V : Slots → Type 0 = λ v. IsUnit (r.fills u) (is_sliding r.control u) (place_in r.control u) head blocks v y in
      let moved = subst V (volumes_are u less) (subst C control_is (subst F (fills_are u less) (other.means.found_are.each u y there))) in
      one_unit (is_sliding r.control u) (place_in r.control u) head blocks (r.volumes u) (r.fills u) x y (one.means.found_are.each u x at) moved

  pub found_is : one.means.found ≡ other.means.found
  found_is =
      same_lists one.means.found other.means.found (one.means.found_are.count ∙ sym other.means.found_are.count)
      (λ u d within.
      let less : u < journal_of facts.shape = omega (arith, within, one.means.found_are.count) in
      unit_is u less (get_or one.means.found u d) (get_or other.means.found u d) (slice_get-get_or one.means.found u d within)
      (slice_get-get_or other.means.found u d (omega (arith, less, other.means.found_are.count))))

  pub one_meaning : one.reading.control ≡ Idle → a ≡ b
  one_meaning idle =
      let first : a ≡ one.means.found = subst (λ (c : Control). IsAfterSlide one.reading.room c one.means.found a) idle one.means.after in
      let last : b ≡ other.means.found = subst (λ (c : Control). IsAfterSlide other.reading.room c other.means.found b) (control_is ∙ idle) other.means.after in
      first ∙ found_is ∙ sym last
