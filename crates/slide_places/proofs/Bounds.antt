-- A stop may make anything of the places of a stretch, and a longer stretch would have a place that counts.
use Rattle.std.proofs.Common.{◌≡◌, inr, ℕ, ◌+◌, ◌-◌, ◌<◌, ◌==◌, List, true, false, refl, sym, subst, arith}
use Rattle.std.specs.Prelude.{◌&&◌, nat_le, nat_lt, if◌then◌else◌}
use Rattle.std.proofs.lemmas.Bool.Decides.{nat_tests}
use Rattle.dasd_pool.specs.Disk.{Shape}
use Rattle.free_map.specs.Runs.{InRuns}
use Rattle.redo_core.specs.declared.control.Control.{Control}
use Rattle.redo_core.specs.declared.control.Control.TheVariants.{Slide}
use Rattle.redo_core.specs.Reading.{Reading}
use Rattle.volume_model.specs.Unit.{OnlineVolume, UnitModel, online, runs_of_sets}
use Rattle.move_core.specs.Stands.{is_sliding, place_in, Slides, IsAfterSlide, Means, RestsOn}
use Rattle.move_core.proofs.Frames.{set_track_below}
use Rattle.move_core.proofs.Standing.{GoesDown, place_down, image_stands}
use Rattle.move_core.proofs.Unused.{masked, masked_settled, masked_left}
use Rattle.slide_places.specs.Places.{in_stretch, NextPlacesMayBeLost, OneMoreIsAPlace}
use Rattle.slide_places.proofs.Places.{extent_held, opened, sliding_there, next_unused}

pub next_may_be_lost : NextPlacesMayBeLost
next_may_be_lost facts state units unit from to len done count image settled is stretch spares =
    let may = in_stretch unit to done count in
    let unused = next_unused facts.shape settled.stands.reading units unit from to len done count settled.stands.means is stretch in
    image_stands facts (masked may state) units image (masked_settled may facts state units settled unused) (masked_left may state image spares)

-- the first track that isn't done is at its own place
own_place : (unit from to len done : ℕ) → place_in (Slide unit from to len done) unit (from + done) ≡ from + done
own_place unit from to len done =
    let left : ((unit == unit) && (nat_le from (from + done) && nat_lt (from + done) (from + done))) ≡ false = grind (arith, nat_tests) in
    (λ i. if left i then to + (from + done - from) else from + done)

-- and is the last place of a stretch that is longer by one
last_place : (unit from to done : ℕ) → to < from → in_stretch unit to done (from - to + 1) unit (from + done) ≡ true
last_place unit from to done down = grind (arith, nat_tests)

module _ (shape : Shape) (reading : Reading) (units : List UnitModel) (unit from to len done : ℕ) (means : Means shape reading units)
    (is : reading.control ≡ Slide unit from to len done) (left : done + (from - to) < len) where
  abbrev pair : IsAfterSlide reading.room (Slide unit from to len done) means.found units
  pair = opened shape reading units unit from to len done means is

  abbrev before : OnlineVolume
  before = pair.0

  abbrev slides : Slides reading.room from to len before pair.1
  slides = pair.3

  held : InRuns (runs_of_sets before.sets) (from + done)
  held = extent_held reading.room from to len before pair.1 slides (from + done) (omega arith) (omega (arith, left, slides.down))

  rests : RestsOn shape reading means.found unit (from + done)
  rests =
      let there = sliding_there shape reading units unit from to len done means is in
      let on = (means.found_are.each unit (online before) there).1 in
      let slots = reading.volumes unit in
      let place = place_in reading.control unit in
      let down : GoesDown reading.control = subst GoesDown (sym is) slides.down in
      let below =
      set_track_below (is_sliding reading.control unit) place (shape.head unit) (shape.blocks unit) slots slots before on (place_down reading.control down unit)
      (λ block less vital. refl) (from + done) held in
      let at : place (from + done) ≡ from + done =
      subst (λ (c : Control). place_in c unit (from + done) ≡ from + done) (sym is) (own_place unit from to len done) in
      (online before, there, below, inr (inr (inr (from + done, held, at))))

pub one_more : OneMoreIsAPlace
one_more shape reading units unit from to len done means is left =
    let down = (slides shape reading units unit from to len done means is left).down in
    (last_place unit from to done down, rests shape reading units unit from to len done means is left)
