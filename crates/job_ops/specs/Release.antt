-- What RELEASE does and says: of each data set the tracks behind those that it keeps are given back.
use Rattle.std.specs.Prelude.{◌≡◌, ◌⊎◌, ℕ, ◌-◌, ◌<◌, ◌≤◌, List, [], ◌∷◌, ◌++◌, length}
use Rattle.ckd_image.specs.Device.{heads_of}
use Rattle.dsn_filter.specs.declared.dsn.Dsn.{Dsn}
use Rattle.enq_table.specs.declared.hold.Hold.{Hold}
use Rattle.volume_model.specs.Pinned.{kept_tracks}
use Rattle.volume_model.specs.Unit.{DataSet, OnlineVolume, tracks_of}
use Rattle.move_core.specs.declared.steps.Step.{Step}
use Rattle.move_core.specs.declared.steps.Step.TheVariants.{Shrink}
use Rattle.move_core.specs.Steps.{shrunk}
use Rattle.job_lines.specs.declared.message.Message.{Message}
use Rattle.job_lines.specs.declared.message.Message.TheVariants as messages
use Rattle.job_lines.specs.declared.message.Reason.{Reason}
use Rattle.job_ops.specs.declared.task.Task.TheVariants as tasks
use Rattle.job_ops.specs.Reasons.{LacksRoomFor, PreventsInPlace}
use Rattle.job_ops.specs.Sets.{TakesTurn}
use Rattle.dump_sets.specs.job_turns.Stating.{repairs, rebuilt}
use Rattle.job_ops.specs.Task.{StaysFor, severity_for}
use Rattle.dump_sets.specs.job_turns.Turns.{Action}

-- the tracks of a data set
abbrev pub size_of : DataSet → ℕ
size_of set = length (tracks_of set.extents)

-- those that it keeps
abbrev pub keep_of : OnlineVolume → DataSet → ℕ
keep_of volume set = kept_tracks (heads_of volume.device) set

-- it has more than it keeps
abbrev pub HasUnused : OnlineVolume → DataSet → Type 0
HasUnused volume set = keep_of volume set < size_of set

-- what prevents the release of a data set; for the room in the VTOC it is looked at where there is something to give back
abbrev pub Prevents : List Hold → OnlineVolume → Dsn → DataSet → Reason → Type 0
Prevents held volume name set =
    PreventsInPlace held name set (StaysFor tasks.Release (heads_of volume.device) set) ⊥
    (HasUnused volume set × LacksRoomFor volume (set ∷ []) (shrunk (keep_of volume set) set ∷ []))

-- the tracks behind those that are kept are given back, if there are any
abbrev pub GivesBack : ℕ → Dsn → OnlineVolume → DataSet → List Step → List Message → Type 0
GivesBack unit name volume set steps said =
    ((size_of set ≤ keep_of volume set) × (steps ≡ []) × (said ≡ messages.Released set.name 0 ∷ []))
    ⊎ (HasUnused volume set × (steps ≡ repairs unit volume ++ (Shrink unit name (keep_of volume set) ∷ []))
    × (said ≡ rebuilt volume ++ (messages.Released set.name (size_of set - keep_of volume set) ∷ [])))

-- the turn of a name
abbrev pub ReleasesSet : List Hold → ℕ → Dsn → Action
ReleasesSet held unit name = TakesTurn (λ volume set. Prevents held volume name set) (severity_for tasks.Release) (GivesBack unit name) unit name
