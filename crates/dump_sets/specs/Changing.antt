-- What a DUMP does with a data set that stands in it: it counts as dumped, or it goes, or both, one behind the other.
use Rattle.std.specs.Prelude.{◌≡◌, ◌≢◌, ℕ, ◌≤◌, if◌then◌else◌, List, [], ◌∷◌, ◌++◌, length, All}
use Rattle.dsn_filter.specs.declared.dsn.Dsn.{Dsn}
use Rattle.volume_model.specs.Pinned.{IsNameOf}
use Rattle.volume_model.specs.Unit.{DataSet, OnlineVolume, UnitModel}
use Rattle.vtoc_core.specs.declared.volume.Row.{Row}
use Rattle.vtoc_core.specs.declared.volume.Volume.{Volume}
use Rattle.volume_change.specs.declared.change.Change.TheVariants.{Repair}
use Rattle.unit_load.specs.declared.state.UnitState.{UnitState}
use Rattle.move_core.specs.declared.steps.Step.{Step}
use Rattle.move_core.specs.declared.steps.Step.TheVariants as steps
use Rattle.job_dumps.specs.job_turns.job_copies.unit_steps.Plans.{HasRow}
use Rattle.job_dumps.specs.job_turns.job_copies.step_room.step_plans.vtoc_render.Next.{IsNext}
use Rattle.job_dumps.specs.job_turns.job_steps.Units.{IsSet}
use Rattle.job_lines.specs.declared.message.Message.{Message}
use Rattle.job_lines.specs.declared.message.Message.TheVariants as messages
use Rattle.job_dumps.specs.job_turns.job_acts.Making.{MayBeChanged, repair_steps}
use Rattle.job_dumps.specs.declared.wish.DumpWish.{DumpWish}
use Rattle.job_dumps.specs.job_turns.Stating.{repairs, rebuilt, due, rebuilt_in}
use Rattle.dump_sets.specs.declared.changing.Dumped.{Dumped}

-- ---- steps and lines

abbrev pub changing_steps : DumpWish → ℕ → Dsn → List Step
changing_steps wish unit name = (if wish.reset then steps.ResetFlag unit name ∷ [] else []) ++ (if wish.delete then steps.Delete unit name ∷ [] else [])

abbrev pub changing_lines : DumpWish → List ℕ → List Message
changing_lines wish text = (if wish.reset then messages.Reset text ∷ [] else []) ++ (if wish.delete then messages.Deleted text ∷ [] else [])

-- The turn of a name. The free space of its volume is stated before, where it isn't.
pub record ChangesSet (wish : DumpWish) (unit : ℕ) (name : Dsn) (units : List UnitModel) (done : List Step) (said : List Message) : Type 0 where
  pub volume : OnlineVolume
  pub set : DataSet
  pub set_is : IsSet units unit name volume set
  pub steps_are : done ≡ repairs unit volume ++ changing_steps wish unit name
  pub said_are : said ≡ rebuilt volume ++ changing_lines wish set.name

-- ---- the same of units as they were loaded

abbrev pub steps_of_dumped : List UnitState → Dumped → List Step
steps_of_dumped units dumped = repair_steps (due units dumped.unit) ++ changing_steps dumped.wish dumped.unit dumped.name

pub record AreLines (units : List UnitState) (dumped : Dumped) (said : List Message) : Type 0 where
  pub text : List ℕ
  pub text_is : IsNameOf dumped.name text
  pub said_are : said ≡ rebuilt_in units dumped.unit ++ changing_lines dumped.wish text

-- a data set of a loaded volume that has at most 16 extents
abbrev pub HasFew : Volume → Dsn → Type 0
HasFew volume name = (row : Row) × HasRow volume name row × (length row.extents ≤ 16)

-- Data sets of a unit can be changed one after the other: its volume may be changed, there is room for stating its free space, and each has at most 16 extents.
pub record MayChangeSets (room : ℕ) (units : List UnitState) (unit : ℕ) (names : List Dsn) : Type 0 where
  pub may : MayBeChanged room units unit
  pub stated : Volume
  pub states : IsNext may.volume Repair stated
  pub sets : All (HasFew may.volume) names

-- those of other names still can
abbrev pub StaysForOthers : ℕ → List UnitState → List UnitState → ℕ → Dsn → Type 0
StaysForOthers room before after unit name = (names : List Dsn) → All (λ other. other ≢ name) names → MayChangeSets room before unit names → MayChangeSets room after unit names
