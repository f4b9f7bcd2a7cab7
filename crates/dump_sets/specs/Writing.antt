-- A dump that is written on outputs, and what stands there where it was cut: words that link the parts of that.
use Rattle.std.specs.Prelude.{◌≡◌, ◌⊎◌, ℕ, List, Option, None}
use Rattle.dasd_pool.specs.declared.pool.Pool.{Ghosts}
use Rattle.dsn_filter.specs.declared.dsn.Dsn.{Dsn}
use Rattle.dump_fmt.specs.declared.outs.OutState.TheVariants as states
use Rattle.dump_fmt.specs.declared.piece.DumpHead.{DumpHead}
use Rattle.dump_fmt.specs.Outs.{OutSeen, AreFinished}
use Rattle.dump_fmt.specs.Parts.{DumpPart}
use Rattle.dump_fmt.specs.Text.{dump_text, front_text}
use Rattle.dump_fmt.specs.Writing.{IsWritten}
use Rattle.vtoc_core.specs.declared.volume.Volume.{Volume}
use Rattle.unit_load.specs.declared.state.UnitState.{UnitState}
use Rattle.job_dumps.specs.job_turns.job_copies.unit_steps.Plans.{IsLoadedAt}
use Rattle.job_lines.specs.declared.message.Reason.{Reason}
use Rattle.job_dumps.specs.job_turns.job_steps.unit_session.Sessions.{SessionView}
use Rattle.job_dumps.specs.job_turns.job_steps.Units.{ForUnits}
use Rattle.job_dumps.specs.Dumped.{DumpRequest, DumpsSets, IsCutDump}
use Rattle.job_dumps.specs.Putting.{AreInOrder, holding}

-- The dump of data sets stands on the outputs at these places, which are whole or lost.
pub record WritesDump {P X : Type 0} (pools : Ghosts P) (seen : X → OutSeen) (session : SessionView P) (request : DumpRequest) (head : DumpHead) (names : List Dsn) (places : List ℕ)
    (before after : List X) (told : List (Option Reason)) : Type 0 where
  pub parts : List DumpPart
  pub dumped : ForUnits pools session (λ units. DumpsSets request names units told parts)
  pub written : IsWritten seen states.Whole (dump_text head (holding parts None)) places before after
  pub durable : AreFinished seen places after

-- it was cut: the parts of the first data sets stand there, and what is under way
pub record LeavesFront {P X : Type 0} (pools : Ghosts P) (seen : X → OutSeen) (session : SessionView P) (request : DumpRequest) (head : DumpHead) (names : List Dsn) (places : List ℕ)
    (before after : List X) : Type 0 where
  pub parts : List DumpPart
  pub current : Option DumpPart
  pub cut : ForUnits pools session (λ units. IsCutDump request names units parts current)
  pub written : IsWritten seen states.Cut (front_text head (holding parts current)) places before after

-- or before anything of it stood there
abbrev pub LeavesDump : {P X : Type 0} → Ghosts P → (X → OutSeen) → SessionView P → DumpRequest → DumpHead → List Dsn → List ℕ → List X → List X → Type 0
LeavesDump pools seen session request head names places before after =
    (after ≡ before) ⊎ LeavesFront pools seen session request head names places before after

-- the names are those of data sets of the unit's volume, in the order of names, and the header is of its device
pub record IsOrderedFor (units : List UnitState) (unit : ℕ) (head : DumpHead) (names : List Dsn) : Type 0 where
  pub volume : Volume
  pub loaded : IsLoadedAt units unit volume
  pub device_is : head.device ≡ volume.device
  pub order : AreInOrder volume names
