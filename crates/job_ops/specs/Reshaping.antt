-- A data set that stays on its volume gets other extents: when it may, and what became of it.
use Rattle.std.specs.Prelude.{◌≡◌, ◌⊎◌, if◌then◌else◌, ℕ, List, [], ◌∷◌, ◌++◌, Contains, Some, None, slice_get, Result, Ok, Err}
use Rattle.dasd_pool.specs.declared.pool.Pool.{Ghosts}
use Rattle.dsn_filter.specs.declared.dsn.Dsn.{Dsn}
use Rattle.volume_model.specs.Pinned.{IsNameOf}
use Rattle.volume_model.specs.Unit.{Extent, DataSet, OnlineVolume, UnitModel, online}
use Rattle.vtoc_core.specs.declared.volume.Row.{Row}
use Rattle.vtoc_core.specs.declared.volume.Volume.{Volume}
use Rattle.unit_load.specs.declared.state.UnitState.{UnitState}
use Rattle.move_core.specs.declared.steps.Step.{Step}
use Rattle.move_core.specs.declared.steps.Step.TheVariants as steps
use Rattle.move_core.specs.Facts.{shown}
use Rattle.move_core.specs.Runs.{IsRun, moves_of}
use Rattle.move_core.specs.Steps.{JoinsExtents, moved, shrunk}
use Rattle.dump_sets.specs.job_turns.job_copies.unit_steps.Plans.{IsLoadedAt, HasRow}
use Rattle.dump_sets.specs.job_turns.job_steps.unit_session.Sessions.{SessionView, IsSameSession}
use Rattle.dump_sets.specs.job_turns.job_steps.declared.cut.Cut.{Cut}
use Rattle.dump_sets.specs.job_turns.job_steps.Carried.{pending_cut}
use Rattle.dump_sets.specs.job_turns.job_acts.declared.acts.Acted.{Acted}
use Rattle.dump_sets.specs.job_turns.job_acts.declared.acts.Acted.TheVariants as ends
use Rattle.dump_sets.specs.job_turns.job_acts.Making.{MayBeChanged, MayPlan}
use Rattle.dump_sets.specs.job_turns.job_acts.Acting.{KeepsFacts, CutKeepsFacts, pool_acted, pending_acted, IsGoing}
use Rattle.job_ops.specs.declared.reshaping.Layout.{Layout}
use Rattle.job_ops.specs.declared.reshaping.Layout.TheVariants as layouts
use Rattle.job_ops.specs.declared.reshaping.Reshape.{Reshape}
use Rattle.dump_sets.specs.job_turns.job_steps.Units.{ForUnits}
use Rattle.job_ops.specs.Reasons.{LacksRoomFor}

-- ---- what a data set becomes

-- the step that gives a data set its layout
abbrev pub step_to : ℕ → Dsn → Layout → Step
step_to unit name (layouts.Front keep) = steps.Shrink unit name keep
step_to unit name (layouts.Joined run) = steps.Move unit name (run ∷ [])

abbrev pub step_of : Reshape → Step
step_of reshape = step_to reshape.unit reshape.name reshape.layout

-- the data set with it
abbrev pub IsReshaped : Layout → DataSet → DataSet → Type 0
IsReshaped (layouts.Front keep) set put = put ≡ shrunk keep set
IsReshaped (layouts.Joined run) set put = (extents : List Extent) × JoinsExtents set.extents (run ∷ []) extents × (put ≡ moved set extents)

-- ---- before

-- its step can be planned
abbrev pub MayReshape : ℕ → List UnitState → Reshape → Type 0
MayReshape room units reshape = MayPlan room units (step_of reshape)

-- it says rightly whether the free space of its volume isn't stated
abbrev pub NeedsRepair : List UnitState → Reshape → Type 0
NeedsRepair units reshape = (volume : Volume) → IsLoadedAt units reshape.unit volume → reshape.repair ≡ volume.repair

-- ---- behind

-- its steps
abbrev pub steps_of_reshape : Reshape → List Step
steps_of_reshape reshape = (if reshape.repair then steps.Repair reshape.unit ∷ [] else []) ++ (step_of reshape ∷ [])

-- the data set that is changed, and its volume
pub record IsTarget (units : List UnitModel) (reshape : Reshape) (volume : OnlineVolume) (set : DataSet) : Type 0 where
  pub online_is : slice_get units reshape.unit ≡ Some (online volume)
  pub there : Contains volume.sets set
  pub name_is : IsNameOf reshape.name set.name

-- the VTOC has no room for it
abbrev pub LacksRoomToReshape : Reshape → List UnitModel → Type 0
LacksRoomToReshape reshape units =
    (volume : OnlineVolume) (set : DataSet) → IsTarget units reshape volume set → (put : DataSet) × IsReshaped reshape.layout set put × LacksRoomFor volume (set ∷ []) (put ∷ [])

-- it has room for it
abbrev pub HasRoomToReshape : Reshape → List UnitModel → Type 0
HasRoomToReshape reshape units =
    (volume : OnlineVolume) (set put : DataSet) → IsTarget units reshape volume set → IsReshaped reshape.layout set put → ¬ LacksRoomFor volume (set ∷ []) (put ∷ [])

-- the unit's volume can be changed as before, and has the data sets that it had
abbrev pub StaysChangeable : ℕ → List UnitState → List UnitState → ℕ → Type 0
StaysChangeable room before after unit =
    (old : MayBeChanged room before unit) → (new : MayBeChanged room after unit)
    × ((name : Dsn) (row : Row) → HasRow old.volume name row → (other : Row) × HasRow new.volume name other)

-- Done: all steps were made, for which there was room. Full: nothing was done, and there was no room. Cut: before the first step, or within them, for which
-- there was room.
abbrev pub ReshapeAnswers : {P : Type 0} → Ghosts P → SessionView P → Reshape → List Step → Result (Acted P) (Cut P) → Type 0
ReshapeAnswers pools session reshape added (Ok (ends.Done next)) =
    (added ≡ steps_of_reshape reshape) × KeepsFacts pools session next × StaysChangeable session.room session.units next.units reshape.unit × ForUnits pools session (HasRoomToReshape reshape)
ReshapeAnswers pools session reshape added (Ok (ends.Full next)) = (added ≡ []) × IsSameSession pools session next × ForUnits pools session (LacksRoomToReshape reshape)
ReshapeAnswers pools session reshape added (Err cut) =
    CutKeepsFacts pools session cut
    × (((added ≡ []) × (pending_cut cut ≡ None))
    ⊎ ((rest : List Step) × (steps_of_reshape reshape ≡ moves_of added (pending_cut cut) ++ rest) × ForUnits pools session (HasRoomToReshape reshape)))

pub record EndsReshape {P : Type 0} (pools : Ghosts P) (session : SessionView P) (reshape : Reshape) (before after : List Step) (result : Result (Acted P) (Cut P)) : Type 0 where
  pub added : List Step
  pub steps_are : after ≡ before ++ added
  pub run : IsRun pools.tells (shown pools session.pool) (shown pools (pool_acted result)) (IsGoing result) added (pending_acted result)
  pub answers : ReshapeAnswers pools session reshape added result
