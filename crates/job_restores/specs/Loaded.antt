-- A part that is to be restored, as the volume was loaded, and as it is.
use Rattle.std.specs.Prelude.{◌≡◌}
use Rattle.dsn_filter.specs.Dsn.{IsDsn}
use Rattle.job_turns.specs.job_copies.step_room.unit_change.Described.{Describes}
use Rattle.job_turns.specs.job_copies.step_plans.Plans.{IsSound}
use Rattle.job_restores.specs.declared.restoring.Restoring.{Restoring}
use Rattle.job_restores.specs.Case.{Case}

-- its new name is one, and the volume was loaded from its slots
pub record MayRestore (restoring : Restoring) : Type 0 where
  pub sound : IsSound restoring.target.now
  pub new_is : IsDsn restoring.new

-- the volume is as it was loaded, and the part says what its head does
pub record AreRestored (restoring : Restoring) (case : Case) : Type 0 where
  pub to_is : Describes restoring.target.now case.to
  pub f1_is : case.part.f1 ≡ restoring.part.now.f1
  pub tracks_are : case.part.tracks ≡ restoring.part.now.tracks
  pub kind_is : case.part.kind ≡ restoring.part.now.kind
  pub new_is : case.new ≡ restoring.new
  pub wish_is : case.wish ≡ restoring.wish
