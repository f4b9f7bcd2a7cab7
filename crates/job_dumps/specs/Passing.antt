-- The turns of data sets in a dump: words that link the parts of that.
use Rattle.std.specs.Prelude.{◌≡◌, ◌↔◌, ℕ, ◌≤◌, Bool, true, false, IsTrue, List, [], ◌∷◌, length, All, Option, Some, None, slice_get}
use Rattle.dasd_pool.specs.declared.pool.Pool.{Ghosts}
use Rattle.dsn_filter.specs.declared.dsn.Dsn.{Dsn}
use Rattle.dump_fmt.specs.declared.progress.Progress.{Progress}
use Rattle.dump_fmt.specs.Outs.{OutSeen}
use Rattle.dump_fmt.specs.Parts.{DumpPart}
use Rattle.volume_model.specs.Unit.{DataSet, OnlineVolume, UnitModel, online}
use Rattle.vtoc_core.specs.declared.volume.Row.{Row}
use Rattle.vtoc_core.specs.declared.volume.Volume.{Volume}
use Rattle.unit_load.specs.declared.state.UnitState.{UnitState}
use Rattle.job_turns.specs.job_copies.step_room.Room.{IsFullFor}
use Rattle.job_turns.specs.job_copies.unit_steps.Plans.{HasRow, IsLoadedAt, tracks_in}
use Rattle.job_lines.specs.declared.message.Reason.{Reason}
use Rattle.job_turns.specs.job_steps.unit_session.Sessions.{SessionView}
use Rattle.job_lines.specs.Order.{IsFirst}
use Rattle.job_turns.specs.job_steps.Units.{ForUnits, IsSet}
use Rattle.job_dumps.specs.declared.pass.DumpScene.{DumpScene}
use Rattle.job_dumps.specs.Dumped.{DumpRequest, DumpsSet, DumpsSets, IsCutDump, IsUnderWayFor}
use Rattle.job_dumps.specs.Putting.{AreInOrder, HasBegun, HasPut, HoldsNow}
use Rattle.job_dumps.specs.Reasons.{PreventsAtFirst, changes_sets, first_reasons}
use Rattle.job_dumps.specs.Texts.{IsAt, IsOfRow}

abbrev pub request_in : DumpScene → DumpRequest
request_in scene = record { unit = scene.unit; wish = scene.wish; held = scene.held.now; today = scene.today }

-- whether the VTOC of a unit has room for stating the free space of its volume is told right
abbrev pub SaysFull : ℕ → Bool → List UnitModel → Type 0
SaysFull unit full units = (volume : OnlineVolume) → slice_get units unit ≡ Some (online volume) → (IsTrue full ↔ IsFullFor volume [] [])

-- ---- one name

-- nothing prevents its dump, as far as neither its tracks nor the room in the VTOC are asked
abbrev pub GoesSoFar : DumpRequest → Dsn → List UnitModel → Type 0
GoesSoFar request name units =
    (volume : OnlineVolume) (set : DataSet) → IsSet units request.unit name volume set
    → All (λ reason. ¬ PreventsAtFirst request.held request.today request.wish volume name set reason) first_reasons

-- this does
abbrev pub IsRefusedSoFar : DumpRequest → Dsn → Reason → List UnitModel → Type 0
IsRefusedSoFar request name reason units =
    (volume : OnlineVolume) (set : DataSet) → IsSet units request.unit name volume set
    → IsFirst (PreventsAtFirst request.held request.today request.wish volume name set) first_reasons reason

-- it had its turn
pub record TakesTurn {P X : Type 0} (pools : Ghosts P) (seen : X → OutSeen) (session : SessionView P) (request : DumpRequest) (name : Dsn) (progress : Progress) (outs : List X)
    (after : Progress) (sent : List X) (reason : Option Reason) : Type 0 where
  pub at : IsAt session.units request.unit name
  pub parts : List DumpPart
  pub one : length parts ≤ 1
  pub of_row : All (IsOfRow at.volume at.row) parts
  pub dumped : ForUnits pools session (λ units. DumpsSet request name units reason parts)
  pub put : HasPut seen at.volume.device at.row.name (length (tracks_in at.volume at.row)) parts None progress outs after sent

-- it was cut in its turn
pub record LeavesTurn {P X : Type 0} (pools : Ghosts P) (seen : X → OutSeen) (session : SessionView P) (request : DumpRequest) (name : Dsn) (progress : Progress) (outs : List X)
    (after : Progress) (sent : List X) : Type 0 where
  pub at : IsAt session.units request.unit name
  pub current : Option DumpPart
  pub under_way : ForUnits pools session (λ units. IsUnderWayFor request (name ∷ []) units current)
  pub put : HasPut seen at.volume.device at.row.name (length (tracks_in at.volume at.row)) [] current progress outs after sent

-- It can be changed once it stands in the dump, as far as its unit was loaded: it has at most 16 extents, and the VTOC has room for stating the free space.
pub record CanBeChanged (units : List UnitState) (scene : DumpScene) (name : Dsn) : Type 0 where
  pub few : (volume : Volume) (row : Row) → IsLoadedAt units scene.unit volume → HasRow volume name row → length row.extents ≤ 16
  pub room : changes_sets scene.wish ≡ true → scene.full ≡ false

-- ---- all names

-- a dump of these data sets of a unit's volume was begun
pub record BeginsDump {X : Type 0} (seen : X → OutSeen) (units : List UnitState) (unit : ℕ) (names : List Dsn) (progress : Progress) (outs : List X) : Type 0 where
  pub volume : Volume
  pub loaded : IsLoadedAt units unit volume
  pub order : AreInOrder volume names
  pub begun : HasBegun seen volume.device progress outs

-- whichever dump of the unit's volume was begun, these parts stand in it, and this one is under way
abbrev pub HoldsParts : {X : Type 0} → (X → OutSeen) → List UnitState → ℕ → List DumpPart → Option DumpPart → Progress → List X → Progress → List X → Type 0
HoldsParts seen units unit parts current progress outs after sent = (volume : Volume) → IsLoadedAt units unit volume → HoldsNow seen volume.device parts current progress outs after sent

-- each name had its turn
pub record TakesAll {P X : Type 0} (pools : Ghosts P) (seen : X → OutSeen) (session : SessionView P) (request : DumpRequest) (names : List Dsn) (progress : Progress) (outs : List X)
    (after : Progress) (sent : List X) (told : List (Option Reason)) : Type 0 where
  pub parts : List DumpPart
  pub dumped : ForUnits pools session (λ units. DumpsSets request names units told parts)
  pub holds : HoldsParts seen session.units request.unit parts None progress outs after sent

-- they were cut in their turns
pub record LeavesAll {P X : Type 0} (pools : Ghosts P) (seen : X → OutSeen) (session : SessionView P) (request : DumpRequest) (names : List Dsn) (progress : Progress) (outs : List X)
    (after : Progress) (sent : List X) : Type 0 where
  pub parts : List DumpPart
  pub current : Option DumpPart
  pub cut : ForUnits pools session (λ units. IsCutDump request names units parts current)
  pub holds : HoldsParts seen session.units request.unit parts current progress outs after sent

-- each that is dumped can be changed then
abbrev pub DumpedCanBeChanged : List UnitState → DumpScene → List Dsn → List (Option Reason) → Type 0
DumpedCanBeChanged units scene [] [] = Unit {0}
DumpedCanBeChanged units scene (name ∷ names) (reason ∷ told) = (reason ≡ None → CanBeChanged units scene name) × DumpedCanBeChanged units scene names told
DumpedCanBeChanged units scene _ _ = ⊥
