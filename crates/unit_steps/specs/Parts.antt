-- What a planned part of a dump leaves, and its step.
use Rattle.std.specs.Prelude.{◌≡◌, ℕ, ◌-◌, Bool, true, false, List, ◌++◌, length, replicate, Some}
use Rattle.ckd_image.specs.Device.{heads_of}
use Rattle.dasd_pool.specs.Disk.{Image, Shape}
use Rattle.dd_names.specs.declared.dd.DdName.{DdName}
use Rattle.dsn_filter.specs.declared.dsn.Dsn.{Dsn}
use Rattle.free_map.specs.declared.run.Run.{Run}
use Rattle.volume_model.specs.Reads.{AreTexts}
use Rattle.volume_change.specs.declared.change.Change.{Change}
use Rattle.unit_change.specs.vtoc_render.declared.change.Rendered.{Rendered}
use Rattle.unit_change.specs.Described.{own_place}
use Rattle.unit_load.specs.declared.state.UnitState.{UnitState}
use Rattle.move_core.specs.declared.steps.Origin.TheVariants as origins
use Rattle.move_core.specs.declared.steps.Step.{Step}
use Rattle.move_core.specs.declared.steps.Step.TheVariants as steps
use Rattle.move_core.specs.Facts.{Facts, Original}
use Rattle.move_core.specs.Steps.{empty_text}
use Rattle.unit_steps.specs.Copied.{DifferOnFree, AreShortOn}
use Rattle.unit_steps.specs.Loaded.{HaveStates, AreLoaded, TakeLoaded, KeepVtocs, AreVtocsOf}
use Rattle.unit_steps.specs.Plans.{PlansPart, tracks_in}
use Rattle.unit_steps.specs.Rendering.{WereRendered, entries_of}

-- an input holds this part of a dump
abbrev pub HoldsPart : DdName → ℕ → Original → Facts → Type 0
HoldsPart input number original facts = facts.inputs.part input number ≡ Some original

-- its tracks hold its texts, and those behind them are empty
abbrev pub GivesPart : {replaced : Bool} {units : List UnitState} {original : Original} {unit : ℕ} {name : Dsn} {to : List Run} {changes : List (ℕ × Change)}
    → PlansPart replaced units original unit name to changes → Image → Type 0
GivesPart {original = original} {unit = unit} plan new =
    AreTexts (heads_of plan.volume.device) own_place (new unit) (tracks_in plan.volume plan.row)
    (original.texts ++ replicate (length (tracks_in plan.volume plan.row) - length original.texts) empty_text)

-- the step that puts a part of a dump beside other data sets, or in the place of the one that has its name
abbrev pub step_of_part : Bool → ℕ → Dsn → List Run → DdName → ℕ → Step
step_of_part false unit name to input number = steps.Add unit name to (origins.Part input number)
step_of_part true unit name to input number = steps.Replace unit name to (origins.Part input number)

-- A part was planned on the volumes as they were loaded, and rendered; then free tracks were written, and hold its texts. Now the entries take the units by
-- its step, whatever the facts are under which an input holds that part.
abbrev pub PartsTakeUnits : Type 0
PartsTakeUnits =
    (shape : Shape) (room : ℕ) (old new : Image) (units : List UnitState) (vtocs : List (List ℕ)) (replaced : Bool) (original : Original) (input : DdName) (number unit : ℕ) (name : Dsn)
    (to : List Run) (changes : List (ℕ × Change)) (rendered : List Rendered)
    → HaveStates shape units → AreLoaded shape old units → KeepVtocs shape units vtocs → AreVtocsOf old units vtocs
    → (plan : PlansPart replaced units original unit name to changes) → WereRendered units vtocs changes rendered → DifferOnFree units old new → AreShortOn shape new → GivesPart plan new
    → TakeLoaded (HoldsPart input number original) shape room units new (step_of_part replaced unit name to input number) (entries_of changes rendered)
