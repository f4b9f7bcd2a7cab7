-- Steps lead from units to at most one list of units.
use Rattle.std.specs.Prelude.{◌≡◌, ◌≢◌, ℕ, List, AllPairs, Some, slice_get}
use Rattle.dasd_pool.specs.Disk.{Image}
use Rattle.volume_model.specs.Unit.{AreByName, OnlineVolume, UnitModel, online}
use Rattle.move_core.specs.declared.steps.Step.{Step}
use Rattle.move_core.specs.Facts.{Facts}
use Rattle.move_core.specs.Stands.{Stands}
use Rattle.move_core.specs.Steps.{Reaches}

-- the data sets of a volume stand in the order of their names, and no two have one
pub record IsProper (volume : OnlineVolume) : Type 0 where
  pub order : AreByName volume.sets
  pub apart : AllPairs (λ one other. one.name ≢ other.name) volume.sets

-- so on each unit that is online
abbrev pub AreProper : List UnitModel → Type 0
AreProper units = (unit : ℕ) (volume : OnlineVolume) → slice_get units unit ≡ Some (online volume) → IsProper volume

-- the units for which an image stands are such
abbrev pub StandsProper : Type 0
StandsProper = (facts : Facts) (image : Image) (units : List UnitModel) → Stands facts image units → AreProper units

-- so are those that steps lead to from such
abbrev pub StaysProper : Type 0
StaysProper = (facts : Facts) (before after : List UnitModel) (steps : List Step) → AreProper before → Reaches facts before steps after → AreProper after

-- and these are at most one list
abbrev pub OneOutcome : Type 0
OneOutcome =
    (facts : Facts) (before a b : List UnitModel) (steps : List Step) → AreProper before → Reaches facts before steps a → Reaches facts before steps b → a ≡ b
