-- The law of places: no track that an advance of an open slide writes is the place of a text.
use Rattle.std.specs.Prelude.{◌≡◌, ℕ, ◌+◌, ◌-◌, ◌<◌, ◌≤◌, Bool, true, ◌==◌, ◌&&◌, nat_le, nat_lt, List}
use Rattle.dasd_pool.specs.Disk.{Image, Shape, State, Spares}
use Rattle.redo_core.specs.declared.control.Control.TheVariants.{Slide}
use Rattle.redo_core.specs.Reading.{Reading}
use Rattle.volume_model.specs.Unit.{UnitModel}
use Rattle.move_core.specs.Facts.{Facts}
use Rattle.move_core.specs.Stands.{Means, RestsOn, AreUnused, Stands, IsSettled}

-- The next tracks of a slide from one track to another, behind those that are done: so many, at most as many as it goes down, and no more than are left.
pub record IsStretch (from to len done count : ℕ) : Type 0 where
  pub most : count ≤ from - to
  pub within : done + count ≤ len

-- a block is one of the places that these tracks go to
abbrev pub in_stretch : ℕ → ℕ → ℕ → ℕ → ℕ → ℕ → Bool
in_stretch unit to done count u b = (u == unit) && (nat_le (to + done) b && nat_lt b (to + done + count))

-- No meaning rests on the places that the next tracks go to: they may be written at any time.
abbrev pub NextPlacesAreUnused : Type 0
NextPlacesAreUnused =
    (shape : Shape) (reading : Reading) (units : List UnitModel) (unit from to len done count : ℕ)
    → (means : Means shape reading units) → reading.control ≡ Slide unit from to len done → IsStretch from to len done count
    → AreUnused (in_stretch unit to done count) shape reading means.found

-- Whatever a settled pool's next places hold, and whatever a stop makes of them, what is left stands for the same units.
abbrev pub NextPlacesMayBeLost : Type 0
NextPlacesMayBeLost =
    (facts : Facts) (state : State) (units : List UnitModel) (unit from to len done count : ℕ) (image : Image)
    → (settled : IsSettled facts state units) → settled.stands.reading.control ≡ Slide unit from to len done → IsStretch from to len done count
    → Spares (in_stretch unit to done count) state image → Stands facts image units

-- It is no more than that: with one track more than the slide goes down, where so many are left, the last one written is the place of the first text that isn't done.
abbrev pub OneMoreIsAPlace : Type 0
OneMoreIsAPlace =
    (shape : Shape) (reading : Reading) (units : List UnitModel) (unit from to len done : ℕ)
    → (means : Means shape reading units) → reading.control ≡ Slide unit from to len done → done + (from - to) < len
    → (in_stretch unit to done (from - to + 1) unit (from + done) ≡ true) × RestsOn shape reading means.found unit (from + done)
