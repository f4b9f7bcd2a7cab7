-- What the parts of a DUMP are asked for and answer: words that link them.
use Rattle.std.specs.Prelude.{◌≡◌, ◌≢◌, ℕ, ◌<◌, true, false, List, [], ◌++◌, length, map, All, AllPairs, Option, Some, slice_get}
use Rattle.by_rules.specs.declared.day.Day.{Day}
use Rattle.dd_names.specs.declared.dd.DdName.{DdName}
use Rattle.dsn_filter.specs.declared.dsn.Dsn.{Dsn}
use Rattle.dsn_filter.specs.Dsn.{IsDsn}
use Rattle.dump_fmt.specs.declared.outs.OutState.TheVariants.{Unused}
use Rattle.dump_fmt.specs.declared.piece.DumpHead.{DumpHead}
use Rattle.dump_fmt.specs.Outs.{AreDistinct, OutSeen}
use Rattle.vtoc_core.specs.declared.volume.Volume.{Volume}
use Rattle.volume_change.specs.declared.change.Change.TheVariants.{Repair}
use Rattle.unit_load.specs.declared.state.UnitState.{UnitState}
use Rattle.job_dumps.specs.job_turns.job_copies.unit_steps.Plans.{IsLoadedAt}
use Rattle.job_dumps.specs.job_turns.job_copies.step_room.step_plans.vtoc_render.Next.{IsNext}
use Rattle.job_lines.specs.declared.message.Message.{Message}
use Rattle.job_lines.specs.declared.message.Reason.{Reason}
use Rattle.job_dumps.specs.job_turns.job_acts.Making.{MayBeChanged}
use Rattle.job_dumps.specs.declared.wish.DumpWish.{DumpWish}
use Rattle.job_dumps.specs.Putting.{AreInOrder}
use Rattle.job_dumps.specs.Reasons.{changes_sets}
use Rattle.dump_sets.specs.Changing.{MayChangeSets}
use Rattle.dump_sets.specs.Telling.{SaysSets, lost_lines, some_whole, taken_of}

-- the header of a dump of a loaded volume
pub record IsHeadFor (tracks : ℕ) (volume : Volume) (today : Day) (head : DumpHead) : Type 0 where
  pub logical : head.full ≡ false
  pub device_is : head.device ≡ volume.device
  pub serial_is : head.serial ≡ volume.serial
  pub tracks_are : head.tracks ≡ tracks
  pub day_is : head.day ≡ today
  pub no_vtoc : head.vtoc ≡ 0

-- the lines of data sets and outputs
pub record AreDumpLines (outs : List OutSeen) (names : List DdName) (sets : List Dsn) (places : List ℕ) (told : List (Option Reason)) (said : List Message) : Type 0 where
  pub of_sets : List Message
  pub of_sets_are : SaysSets (some_whole outs places) sets told of_sets
  pub said_are : said ≡ of_sets ++ lost_lines outs names places

-- ---- what is to be dumped

-- the names are those of data sets in their order, each of them another
pub record AreTaken (units : List UnitState) (unit : ℕ) (sets : List Dsn) : Type 0 where
  pub volume : Volume
  pub loaded : IsLoadedAt units unit volume
  pub order : AreInOrder volume sets
  pub named : All IsDsn sets
  pub apart : AllPairs (λ name other. name ≢ other) sets

-- a volume that may be changed, and whose free space can be stated
pub record CanState (room : ℕ) (units : List UnitState) (unit : ℕ) : Type 0 where
  pub may : MayBeChanged room units unit
  pub stated : Volume
  pub states : IsNext may.volume Repair stated

-- a dump may be begun on the outputs at these places, one for each name
pub record AreReady {X : Type 0} (state : X → OutSeen) (outs : List X) (names : List DdName) (places : List ℕ) : Type 0 where
  pub some : 0 < length places
  pub named : length places ≡ length names
  pub within : All (λ place. place < length outs) places
  pub distinct : AreDistinct places
  pub unused : All (λ place. slice_get (map (λ out. (state out).state) outs) place ≡ Some Unused) places

-- what follows a dump can be done
pub record MayFollow (room : ℕ) (units : List UnitState) (wish : DumpWish) (unit : ℕ) (sets : List Dsn) (told : List (Option Reason)) : Type 0 where
  pub named : All IsDsn sets
  pub apart : AllPairs (λ name other. name ≢ other) sets
  pub count : length told ≡ length sets
  pub may : changes_sets wish ≡ true → taken_of sets told ≢ [] → MayChangeSets room units unit (taken_of sets told)
