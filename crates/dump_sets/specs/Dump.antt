-- What DUMP does and says: the data sets that a filter takes are dumped on the named outputs, and those that stand in the dump are changed, where that is asked.
use Rattle.std.specs.Prelude.{◌≡◌, ◌≢◌, ◌⊎◌, ℕ, Bool, true, false, List, [], ◌∷◌, ◌++◌, map, Option, None, slice_get, Some}
use Rattle.dd_names.specs.declared.dd.DdName.{DdName}
use Rattle.dsn_filter.specs.declared.dsn.Dsn.{Dsn}
use Rattle.dump_fmt.specs.declared.outs.OutState.TheVariants as states
use Rattle.dump_fmt.specs.declared.piece.DumpHead.{DumpHead}
use Rattle.dump_fmt.specs.Outs.{OutSeen, AreFinished, EachAt, HasTaken}
use Rattle.dump_fmt.specs.Parts.{DumpPart}
use Rattle.dump_fmt.specs.Text.{dump_text, front_text}
use Rattle.sysin_lang.specs.declared.command.Filter.{Filter}
use Rattle.vol_label.specs.declared.serial.Serial.{Serial}
use Rattle.volume_model.specs.Unit.{OnlineVolume, UnitModel, online}
use Rattle.move_core.specs.declared.steps.Step.{Step}
use Rattle.job_dumps.specs.job_turns.job_copies.job_select.Selection.{Selects}
use Rattle.job_lines.specs.declared.message.Message.{Message}
use Rattle.job_lines.specs.declared.message.Message.TheVariants as messages
use Rattle.job_lines.specs.declared.message.Reason.{Reason}
use Rattle.job_outputs.specs.Outputs.{ArePlacesOf, LetsOutputs, RefusesOutputs}
use Rattle.job_dumps.specs.declared.wish.DumpWish.{DumpWish}
use Rattle.job_dumps.specs.Dumped.{DumpRequest, DumpsSets, IsCutDump}
use Rattle.job_dumps.specs.Putting.{holding}
use Rattle.job_dumps.specs.Reasons.{changes_sets}
use Rattle.job_dumps.specs.job_turns.declared.units.UnitUse.{UnitUse}
use Rattle.job_dumps.specs.job_turns.Refusal.{IsUnitOf, IsUnknown, Lets, Refuses, standing_of}
use Rattle.job_dumps.specs.job_turns.Setting.{Setting}
use Rattle.job_dumps.specs.job_turns.Turns.{Action, AreCutTurns, Turns}
use Rattle.dump_sets.specs.Changing.{ChangesSet}
use Rattle.dump_sets.specs.Telling.{SaysSets, lost_lines, some_whole, taken_of}

-- ---- what refuses the statement

-- its unit, which is changed where data sets are
abbrev pub use_of : DumpWish → Serial → UnitUse
use_of wish serial = record { serial = serial; changes = changes_sets wish }

-- The name of its unit is unknown, and else something stands against its outputs, and else against the unit.
abbrev pub RefusesDump : Setting → DumpWish → Serial → List DdName → List UnitModel → List OutSeen → Message → Type 0
RefusesDump setting wish serial names units outs message =
    ((¬ IsUnknown setting.facts.names (use_of wish serial)) × RefusesOutputs outs names message)
    ⊎ ((IsUnknown setting.facts.names (use_of wish serial) ⊎ LetsOutputs outs names)
    × Refuses setting.facts.names setting.facts.room (map standing_of units) (use_of wish serial ∷ []) message)

-- Nothing refuses it: the filter takes these data sets of the unit's volume, and the outputs are at these places.
pub record GoesOnOutputs (setting : Setting) (filter : Filter) (wish : DumpWish) (serial : Serial) (names : List DdName) (outs : List OutSeen) (units : List UnitModel) (unit : ℕ)
    (sets : List Dsn) (places : List ℕ) : Type 0 where
  pub lets : Lets setting.facts.names setting.facts.room (map standing_of units) (use_of wish serial ∷ [])
  pub lets_outputs : LetsOutputs outs names
  pub unit_is : IsUnitOf setting.facts.names serial unit
  pub volume : OnlineVolume
  pub online_is : slice_get units unit ≡ Some (online volume)
  pub sets_are : Selects filter setting.today volume.sets sets
  pub places_are : ArePlacesOf outs names places

-- ---- the dump

-- its header: device and serial of the volume, the number of tracks of its unit, and the day
abbrev pub head_of : Setting → ℕ → OnlineVolume → DumpHead
head_of setting unit volume = record {
  full = false;
  device = volume.device;
  serial = volume.serial;
  tracks = setting.facts.shape.blocks unit;
  day = setting.today;
  vtoc = 0;
}

abbrev pub request_of : Setting → DumpWish → ℕ → DumpRequest
request_of setting wish unit = record { unit = unit; wish = wish; held = setting.held; today = setting.today }

-- It stands: each output at the places took its text behind what it held, and is whole and durable, or took a front of it and is lost. Every other output is as
-- it was.
pub record StandsOnOutputs (setting : Setting) (wish : DumpWish) (unit : ℕ) (sets : List Dsn) (places : List ℕ) (units : List UnitModel) (before after : List OutSeen)
    (told : List (Option Reason)) : Type 0 where
  pub volume : OnlineVolume
  pub online_is : slice_get units unit ≡ Some (online volume)
  pub parts : List DumpPart
  pub dumped : DumpsSets (request_of setting wish unit) sets units told parts
  pub written : EachAt (HasTaken states.Whole (dump_text (head_of setting unit volume) (holding parts None))) places before after
  pub durable : AreFinished (λ out. out) places after

-- It was cut: the parts of the first data sets stand there, and what is under way.
pub record IsCutOnOutputs (setting : Setting) (wish : DumpWish) (unit : ℕ) (sets : List Dsn) (places : List ℕ) (units : List UnitModel) (before after : List OutSeen) : Type 0 where
  pub volume : OnlineVolume
  pub online_is : slice_get units unit ≡ Some (online volume)
  pub parts : List DumpPart
  pub current : Option DumpPart
  pub cut : IsCutDump (request_of setting wish unit) sets units parts current
  pub written : EachAt (HasTaken states.Cut (front_text (head_of setting unit volume) (holding parts current))) places before after

-- ---- what follows it

-- Where no output is whole, that is said, and no data set is changed. Else those that stand in the dump are changed, where that is asked.
abbrev pub ChangesTaken : (whole changes : Bool) → Setting → DumpWish → ℕ → List Dsn → Action
ChangesTaken false changes setting wish unit taken units steps said = (steps ≡ []) × (said ≡ messages.NoOutputWhole ∷ [])
ChangesTaken true false setting wish unit taken units steps said = (steps ≡ []) × (said ≡ [])
ChangesTaken true true setting wish unit taken units steps said = Turns setting.facts (ChangesSet wish unit) taken units steps said

-- it was cut there
abbrev pub IsCutInChanges : (whole changes : Bool) → Setting → DumpWish → ℕ → List Dsn → List UnitModel → List Step → Option Step → Type 0
IsCutInChanges true true setting wish unit taken units steps pending = AreCutTurns setting.facts (ChangesSet wish unit) taken units steps pending
IsCutInChanges whole changes setting wish unit taken units steps pending = (steps ≡ []) × (pending ≡ None)

-- what is told of the data sets and the outputs is said before
pub record FollowsDump (setting : Setting) (wish : DumpWish) (names : List DdName) (unit : ℕ) (sets : List Dsn) (places : List ℕ) (after : List OutSeen) (told : List (Option Reason))
    (units : List UnitModel) (steps : List Step) (said : List Message) : Type 0 where
  pub of_sets : List Message
  pub of_sets_are : SaysSets (some_whole after places) sets told of_sets
  pub rest : List Message
  pub said_are : said ≡ of_sets ++ (lost_lines after names places ++ rest)
  pub changes : ChangesTaken (some_whole after places) (changes_sets wish) setting wish unit (taken_of sets told) units steps rest

abbrev pub IsCutBehind : Setting → DumpWish → ℕ → List Dsn → List ℕ → List OutSeen → List (Option Reason) → List UnitModel → List Step → Option Step → Type 0
IsCutBehind setting wish unit sets places after told = IsCutInChanges (some_whole after places) (changes_sets wish) setting wish unit (taken_of sets told)

-- ---- the statement

-- the dump of these data sets on the outputs at these places
abbrev pub Dumps : Setting → DumpWish → List DdName → ℕ → List Dsn → List ℕ → (before after : List OutSeen) → Action
Dumps setting wish names unit sets places before after units steps said =
    (told : List (Option Reason)) × StandsOnOutputs setting wish unit sets places units before after told
    × FollowsDump setting wish names unit sets places after told units steps said

-- It was cut: before it called an output; within the dump, so that nothing was done; or once the dump stood.
abbrev pub IsCutIn : Setting → DumpWish → ℕ → List Dsn → List ℕ → (before after : List OutSeen) → List UnitModel → List Step → Option Step → Type 0
IsCutIn setting wish unit sets places before after units steps pending =
    (((after ≡ before) ⊎ IsCutOnOutputs setting wish unit sets places units before after) × (steps ≡ []) × (pending ≡ None))
    ⊎ ((told : List (Option Reason)) × StandsOnOutputs setting wish unit sets places units before after told × IsCutBehind setting wish unit sets places after told units steps pending)

-- It is refused; or its filter takes no data set, and no output is called; or it dumps those that it takes.
abbrev pub DumpsDataSets : Setting → Filter → Serial → List DdName → DumpWish → (before after : List OutSeen) → Action
DumpsDataSets setting filter serial names wish before after units steps said =
    ((message : Message) × RefusesDump setting wish serial names units before message × (steps ≡ []) × (said ≡ message ∷ []) × (after ≡ before))
    ⊎ ((unit : ℕ) × (sets : List Dsn) × (places : List ℕ) × GoesOnOutputs setting filter wish serial names before units unit sets places
    × (((sets ≡ []) × (steps ≡ []) × (said ≡ messages.NothingSelected ∷ []) × (after ≡ before))
    ⊎ ((sets ≢ []) × Dumps setting wish names unit sets places before after units steps said)))

abbrev pub IsCutDumping : Setting → Filter → Serial → List DdName → DumpWish → (before after : List OutSeen) → List UnitModel → List Step → Option Step → Type 0
IsCutDumping setting filter serial names wish before after units steps pending =
    ((after ≡ before) × (steps ≡ []) × (pending ≡ None))
    ⊎ ((unit : ℕ) × (sets : List Dsn) × (places : List ℕ) × GoesOnOutputs setting filter wish serial names before units unit sets places
    × IsCutIn setting wish unit sets places before after units steps pending)
