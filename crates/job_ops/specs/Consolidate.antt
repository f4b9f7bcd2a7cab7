-- What CONSOLIDATE does and says: each data set of several extents moves into one.
use Rattle.std.specs.Prelude.{◌≡◌, ◌⊎◌, ℕ, ◌<◌, List, [], ◌∷◌, ◌++◌, length}
use Rattle.ckd_image.specs.Device.{heads_of}
use Rattle.dsn_filter.specs.declared.dsn.Dsn.{Dsn}
use Rattle.enq_table.specs.declared.hold.Hold.{Hold}
use Rattle.free_map.specs.declared.run.Run.{Run}
use Rattle.volume_model.specs.Unit.{Extent, DataSet, OnlineVolume, tracks_of, IsFreeTrack}
use Rattle.plan_core.specs.Consolidate.{IsPlaceFor, HasNoPlace}
use Rattle.move_core.specs.declared.steps.Step.{Step}
use Rattle.move_core.specs.declared.steps.Step.TheVariants.{Move}
use Rattle.move_core.specs.Steps.{JoinsExtents, moved}
use Rattle.job_lines.specs.declared.message.Message.{Message}
use Rattle.job_lines.specs.declared.message.Message.TheVariants as messages
use Rattle.job_lines.specs.declared.message.Reason.{Reason}
use Rattle.job_ops.specs.declared.task.Task.TheVariants as tasks
use Rattle.job_ops.specs.Reasons.{LacksRoomFor, PreventsInPlace}
use Rattle.job_ops.specs.Sets.{TakesTurn}
use Rattle.dump_sets.specs.job_turns.Stating.{repairs, rebuilt}
use Rattle.job_ops.specs.Task.{StaysFor, severity_for}
use Rattle.dump_sets.specs.job_turns.Turns.{Action}

-- it is scattered
abbrev pub HasSeveral : DataSet → Type 0
HasSeveral set = 1 < length set.extents

-- the first track of its place: the lowest from which all its tracks have room on free ones
abbrev pub IsPlaceOf : OnlineVolume → DataSet → ℕ → Type 0
IsPlaceOf volume set first = IsPlaceFor (IsFreeTrack volume) (heads_of volume.device) set.extents first

-- no free run holds them all
abbrev pub LacksPlace : OnlineVolume → DataSet → Type 0
LacksPlace volume set = HasNoPlace (IsFreeTrack volume) (heads_of volume.device) set.extents

-- as many tracks as it has, from one on
abbrev pub run_from : ℕ → DataSet → Run
run_from first set = record { first = first; len = length (tracks_of set.extents) }

-- the VTOC has no room for it at its place
abbrev pub LacksRoomAtPlace : OnlineVolume → DataSet → Type 0
LacksRoomAtPlace volume set =
    (first : ℕ) × (extents : List Extent) × IsPlaceOf volume set first × JoinsExtents set.extents (run_from first set ∷ []) extents
    × LacksRoomFor volume (set ∷ []) (moved set extents ∷ [])

-- what prevents that a data set becomes one extent; place and room are looked for where it has several
abbrev pub Prevents : List Hold → OnlineVolume → Dsn → DataSet → Reason → Type 0
Prevents held volume name set =
    PreventsInPlace held name set (StaysFor tasks.Consolidate (heads_of volume.device) set) (HasSeveral set × LacksPlace volume set) (HasSeveral set × LacksRoomAtPlace volume set)

-- it moves to its place, if it has several extents, and else nothing is done or said
abbrev pub ComesTogether : ℕ → Dsn → OnlineVolume → DataSet → List Step → List Message → Type 0
ComesTogether unit name volume set steps said =
    ((¬ HasSeveral set) × (steps ≡ []) × (said ≡ []))
    ⊎ (HasSeveral set × ((first : ℕ) × IsPlaceOf volume set first × (steps ≡ repairs unit volume ++ (Move unit name (run_from first set ∷ []) ∷ []))
    × (said ≡ rebuilt volume ++ (messages.Consolidated set.name (length set.extents) first ∷ []))))

-- the turn of a name
abbrev pub ConsolidatesSet : List Hold → ℕ → Dsn → Action
ConsolidatesSet held unit name = TakesTurn (λ volume set. Prevents held volume name set) (severity_for tasks.Consolidate) (ComesTogether unit name) unit name
