-- What a session's pool stands for.
use Rattle.std.specs.Prelude.{◌≡◌, ℕ, List, Contains, Some, slice_get}
use Rattle.dasd_pool.specs.declared.pool.Pool.{Ghosts}
use Rattle.dsn_filter.specs.declared.dsn.Dsn.{Dsn}
use Rattle.volume_model.specs.Pinned.{IsNameOf}
use Rattle.volume_model.specs.Unit.{DataSet, OnlineVolume, UnitModel, online}
use Rattle.move_core.specs.Facts.{Facts, Inputs, no_inputs}
use Rattle.move_core.specs.Stands.{IsSettled}
use Rattle.unit_session.specs.Sessions.{SessionView}

-- what never changes of a session's pool, where the inputs hold this
abbrev pub facts_for : {P : Type 0} → Ghosts P → SessionView P → Inputs → Facts
facts_for pools session inputs = record { shape = pools.shape session.pool; names = session.names; room = session.room; inputs = inputs }

-- and where they hold nothing
abbrev pub facts_of : {P : Type 0} → Ghosts P → SessionView P → Facts
facts_of pools session = facts_for pools session no_inputs

-- for all units that the session's pool stands for, where it tells
abbrev pub ForUnits : {P : Type 0} → Ghosts P → SessionView P → (List UnitModel → Type 0) → Type 0
ForUnits pools session Holds = pools.tells → (units : List UnitModel) → IsSettled (facts_of pools session) (pools.disk session.pool).state units → Holds units

-- the data set of a name, on the volume of a unit
pub record IsSet (units : List UnitModel) (unit : ℕ) (name : Dsn) (volume : OnlineVolume) (set : DataSet) : Type 0 where
  pub online_is : slice_get units unit ≡ Some (online volume)
  pub there : Contains volume.sets set
  pub name_is : IsNameOf name set.name
