-- What an image stands for is one list of units, whether or not a slide is open.
use Rattle.std.proofs.Common.{◌≡◌, ℕ, List, ◌∷◌, ◌++◌, Some, refl, sym, ap, subst, ◌∙◌}
use Rattle.std.specs.Prelude.{slice_get}
use Rattle.dasd_pool.specs.Disk.{Image}
use Rattle.dasd_pool.proofs.Slices.{get_there}
use Rattle.redo_core.specs.declared.control.Control.{Control}
use Rattle.redo_core.specs.declared.control.Control.TheVariants.{Idle, Slide}
use Rattle.volume_model.specs.Unit.{OnlineVolume, UnitModel, online}
use Rattle.move_core.specs.Facts.{Facts}
use Rattle.move_core.specs.Stands.{is_sliding, place_in, Slides, IsAfterSlide, Stands}
use Rattle.move_core.proofs.OneMeaning.{found_is, one_meaning}
use Rattle.slide_laws.specs.OneList.{OneList}
use Rattle.slide_laws.proofs.Splits.{split_there}
use Rattle.slide_laws.proofs.ExtentsOnce.{sets_once}
use Rattle.slide_laws.proofs.OneSlide.{slides_same}

abbrev volume_of : OnlineVolume → UnitModel → OnlineVolume
volume_of other (online volume) = volume
volume_of other unit = other

module _ (facts : Facts) (image : Image) (a b : List UnitModel) (one : Stands facts image a) (other : Stands facts image b) where
  found_same : one.means.found ≡ other.means.found
  found_same = found_is facts image a b one other

  last_after : IsAfterSlide one.reading.room one.reading.control one.means.found b
  last_after =
      let control : other.reading.control ≡ one.reading.control = other.reads.obeys.control_is ∙ sym one.reads.obeys.control_is in
      let room : other.reading.room ≡ one.reading.room = other.room_is ∙ sym one.room_is in
      let found : other.means.found ≡ one.means.found = sym found_same in
      subst (λ (n : ℕ). IsAfterSlide n one.reading.control one.means.found b) room
      (subst (λ (c : Control). IsAfterSlide other.reading.room c one.means.found b) control
      (subst (λ (units : List UnitModel). IsAfterSlide other.reading.room other.reading.control units b) found other.means.after))

  by_slide : (unit from to len done : ℕ) → IsAfterSlide one.reading.room (Slide unit from to len done) one.means.found a
      → IsAfterSlide one.reading.room (Slide unit from to len done) one.means.found b → a ≡ b
  by_slide unit from to len done (before, after, replaces, slides) (others, others_after, replaces_too, slides_too) =
      let r = one.reading in
      let split =
      split_there replaces.front replaces.back (online before) replaces_too.front replaces_too.back (online others) (replaces.long ∙ sym replaces_too.long) (sym replaces.before_is ∙ replaces_too.before_is) in
      let before_same : before ≡ others = ap (volume_of before) split.1 in
      let at : slice_get one.means.found unit ≡ Some (online before) =
      subst (λ (units : List UnitModel). slice_get units unit ≡ Some (online before)) (sym replaces.before_is)
      (subst (λ (n : ℕ). slice_get (replaces.front ++ (online before ∷ replaces.back)) n ≡ Some (online before)) replaces.long (get_there replaces.front replaces.back (online before))) in
      let on = (one.means.found_are.each unit (online before) at).1 in
      let once =
      sets_once (is_sliding r.control unit) (place_in r.control unit) (facts.shape.head unit) (facts.shape.blocks unit) (r.volumes unit) before on from len in
      let after_same : after ≡ others_after =
      slides_same r.room from to len before after others_after once slides (subst (λ (volume : OnlineVolume). Slides r.room from to len volume others_after) (sym before_same) slides_too) in
      replaces.after_is ∙ (λ i. split.0 i ++ (online (after_same i) ∷ split.2 i)) ∙ sym replaces_too.after_is

  by_control : (control : Control) → one.reading.control ≡ control → a ≡ b
  by_control Idle is = one_meaning facts image a b one other is
  by_control (Slide unit from to len done) is =
      by_slide unit from to len done (subst (λ (c : Control). IsAfterSlide one.reading.room c one.means.found a) is one.means.after)
      (subst (λ (c : Control). IsAfterSlide one.reading.room c one.means.found b) is last_after)

pub one_list : OneList
one_list facts image a b one other = by_control facts image a b one other one.reading.control refl
