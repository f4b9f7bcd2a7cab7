-- The units that an image stands for, whether or not a slide is open.
use Rattle.std.specs.Prelude.{◌≡◌, List}
use Rattle.dasd_pool.specs.Disk.{Image}
use Rattle.volume_model.specs.Unit.{UnitModel}
use Rattle.move_core.specs.Facts.{Facts}
use Rattle.move_core.specs.Stands.{Stands}

-- However long its blocks are, an image stands for one list of units at most.
abbrev pub OneList : Type 0
OneList = (facts : Facts) (image : Image) (a b : List UnitModel) → (one : Stands facts image a) → (other : Stands facts image b) → a ≡ b
