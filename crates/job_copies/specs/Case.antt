-- A data set that is to be copied, and the one that its copy replaces.
use Rattle.std.specs.Prelude.{◌≡◌, Bool, true, Contains}
use Rattle.dsn_filter.specs.declared.dsn.Dsn.{Dsn}
use Rattle.volume_model.specs.Pinned.{IsNameOf}
use Rattle.volume_model.specs.Unit.{DataSet, OnlineVolume}
use Rattle.job_copies.specs.declared.wish.Wish.{Wish}

-- a data set of a volume, the volume to which it is to be copied, whether both are of one unit, its name, the one of its copy, and what the statement asks
pub record Case : Type 0 where
  pub from : OnlineVolume
  pub to : OnlineVolume
  pub within : Bool
  pub name : Dsn
  pub new : Dsn
  pub set : DataSet
  pub wish : Wish

-- the copy would stand on the volume of its origin, under the name of its origin
abbrev pub IsOwn : Case → Type 0
IsOwn case = (case.within ≡ true) × (case.new ≡ case.name)

-- a data set of the copy's name stands where the copy is to stand
pub record IsNamesake (case : Case) (other : DataSet) : Type 0 where
  pub there : Contains case.to.sets other
  pub name_is : IsNameOf case.new other.name

-- the copy replaces it: the statement asks for it, and it isn't the origin itself
pub record Replaces (case : Case) (other : DataSet) : Type 0 where
  pub asked : case.wish.replace ≡ true
  pub another : ¬ IsOwn case
  pub namesake : IsNamesake case other

abbrev pub ReplacesSome : Case → Type 0
ReplacesSome case = (other : DataSet) × Replaces case other
