-- A data set that is to be copied, as its volumes were loaded, and as they are.
use Rattle.std.specs.Prelude.{◌≡◌, true, Contains}
use Rattle.dsn_filter.specs.Dsn.{IsDsn}
use Rattle.volume_model.specs.Pinned.{IsNameOf}
use Rattle.vtoc_core.specs.declared.volume.Row.{Row}
use Rattle.step_room.specs.unit_change.Described.{Describes}
use Rattle.step_room.specs.unit_steps.Plans.{HasRow}
use Rattle.step_room.specs.step_plans.Plans.{IsSound}
use Rattle.job_copies.specs.declared.copying.Copying.{Copying}
use Rattle.job_copies.specs.Case.{Case}

-- it is there, the copy has a name, and within one unit both volumes are the same
pub record MayCopy (copying : Copying) : Type 0 where
  pub sound : IsSound copying.source.now
  pub target_sound : IsSound copying.target.now
  pub row : Row
  pub row_is : HasRow copying.source.now copying.name row
  pub new_is : IsDsn copying.new
  pub one : copying.within ≡ true → copying.target.now ≡ copying.source.now

-- the volumes are as they were loaded, and the data set is the one of its name
pub record AreCopied (copying : Copying) (case : Case) : Type 0 where
  pub from_is : Describes copying.source.now case.from
  pub to_is : Describes copying.target.now case.to
  pub within_is : case.within ≡ copying.within
  pub name_is : case.name ≡ copying.name
  pub new_is : case.new ≡ copying.new
  pub wish_is : case.wish ≡ copying.wish
  pub there : Contains case.from.sets case.set
  pub named : IsNameOf case.name case.set.name
