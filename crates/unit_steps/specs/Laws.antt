-- What holds of plans, whatever carries them out.
use Rattle.std.specs.Prelude.{◌≡◌, ◌≢◌, ℕ, ◌-◌, ◌/◌, ◌<◌, ◌≤◌, Bool, None, true, false, List, length, All}
use Rattle.dasd_pool.specs.Calls.{size_in}
use Rattle.dasd_pool.specs.Disk.{Image, Shape, State}
use Rattle.redo_core.specs.Phases.{targets}
use Rattle.redo_core.specs.Reading.{among, journal_of, placed}
use Rattle.volume_model.specs.Unit.{UnitModel}
use Rattle.vtoc_core.specs.declared.volume.Volume.{Volume}
use Rattle.volume_change.specs.declared.change.Change.{Change}
use Rattle.volume_change.specs.declared.change.Change.TheVariants.{Mark}
use Rattle.unit_change.specs.vtoc_render.declared.change.Rendered.{Rendered}
use Rattle.unit_load.specs.declared.state.UnitState.{UnitState}
use Rattle.move_core.specs.Facts.{Facts, HasInputs}
use Rattle.move_core.specs.Stands.{AreUnused, IsSettled}
use Rattle.move_core.specs.Taking.{IsQuiet}
use Rattle.unit_steps.specs.declared.plan.Plan.{Plan}
use Rattle.unit_steps.specs.Loaded.{HaveStates, AreLoaded, HaveFills, TakeLoaded, KeepVtocs, AreVtocsOf}
use Rattle.unit_steps.specs.Plans.{IsLoadedAt, IsPlan, IsOfUnits}
use Rattle.unit_steps.specs.Rendering.{WereRendered, entries_of, AreReady, AreOfUnits, units_after, VtocsAfter}
use Rattle.unit_steps.specs.Copied.{IsFreeAt, DifferOnFree, AreShortOn, AreHeld}

-- Of a quiet pool whose volumes were loaded no meaning rests on a free track.
abbrev pub FreeTracksMayBeWritten : Type 0
FreeTracksMayBeWritten =
    (facts : Facts) (state : State) (models : List UnitModel) (units : List UnitState) (room : ℕ) (fills : List Bool) (may : ℕ → ℕ → Bool)
    → AreLoaded facts.shape state.contents units → HaveFills fills units → IsQuiet facts.shape state room fills → (settled : IsSettled facts state models)
    → ((u b : ℕ) → may u b ≡ true → IsFreeAt units u b) → AreUnused may facts.shape settled.stands.reading settled.stands.means.found

-- Where only free tracks are written, each unit loads as it did, and the kept slots are those of the volumes.
abbrev pub CopiedUnitsLoad : Type 0
CopiedUnitsLoad =
    (shape : Shape) (old new : Image) (units : List UnitState) (vtocs : List (List ℕ))
    → HaveStates shape units → AreLoaded shape old units → AreVtocsOf old units vtocs → DifferOnFree units old new → AreShortOn shape new → AreLoaded shape new units × AreVtocsOf new units vtocs

-- each volume's blocks have the size that its head says
abbrev pub AreSized : Shape → Type 0
AreSized shape = (u : ℕ) → u < journal_of shape → shape.block_size u ≡ size_in (shape.head u)

-- Rendered changes of at most two units fit one commit, where each VTOC has at most half as many tracks as the commit may have entries.
abbrev pub EntriesAreReady : Type 0
EntriesAreReady =
    (shape : Shape) (room : ℕ) (units : List UnitState) (vtocs : List (List ℕ)) (changes : List (ℕ × Change)) (rendered : List Rendered)
    → AreSized shape → HaveStates shape units → KeepVtocs shape units vtocs → WereRendered units vtocs changes rendered → AreOfUnits changes → length changes ≤ 2
    → All (λ change. (volume : Volume) → IsLoadedAt units change.0 volume → volume.vtoc.len ≤ (room - 1) / 2) changes
    → AreReady shape room (entries_of changes rendered)

-- With the rendered tracks in place the kept slots are those of the rendered volumes.
abbrev pub PatchedVtocsAreKept : Type 0
PatchedVtocsAreKept =
    (shape : Shape) (units : List UnitState) (old new : List (List ℕ)) (changes : List (ℕ × Change)) (rendered : List Rendered)
    → HaveStates shape units → KeepVtocs shape units old → WereRendered units old changes rendered → AreOfUnits changes → VtocsAfter units old changes rendered new
    → All (λ change. change.1 ≢ Mark) changes → KeepVtocs shape (units_after units changes rendered) new

-- Once the entries are in place each unit loads as it was rendered, the others as they did, and the kept slots are those of the volumes.
abbrev pub SwitchedUnitsLoad : Type 0
SwitchedUnitsLoad =
    (shape : Shape) (contents : Image) (units : List UnitState) (old new : List (List ℕ)) (changes : List (ℕ × Change)) (rendered : List Rendered)
    → HaveStates shape units → AreLoaded shape contents units → KeepVtocs shape units old → AreVtocsOf contents units old → WereRendered units old changes rendered
    → AreOfUnits changes → All (λ change. change.1 ≢ Mark) changes → VtocsAfter units old changes rendered new
    → AreLoaded shape (placed contents (entries_of changes rendered)) (units_after units changes rendered)
    × AreVtocsOf (placed contents (entries_of changes rendered)) (units_after units changes rendered) new

-- With the rendered changes in place the units fit the same fills: one that is changed is online, before and after.
abbrev pub SwitchedUnitsKeepFills : Type 0
SwitchedUnitsKeepFills =
    (fills : List Bool) (units : List UnitState) (vtocs : List (List ℕ)) (changes : List (ℕ × Change)) (rendered : List Rendered)
    → HaveFills fills units → WereRendered units vtocs changes rendered → HaveFills fills (units_after units changes rendered)

-- The entries of rendered changes are other slots than their blocks hold: a block that holds the same with them in place has none.
abbrev pub UnchangedHaveNoEntry : Type 0
UnchangedHaveNoEntry =
    (shape : Shape) (room : ℕ) (contents : Image) (units : List UnitState) (vtocs : List (List ℕ)) (changes : List (ℕ × Change)) (rendered : List Rendered)
    → KeepVtocs shape units vtocs → AreLoaded shape contents units → AreVtocsOf contents units vtocs → WereRendered units vtocs changes rendered
    → AreReady shape room (entries_of changes rendered)
    → (u b : ℕ) → placed contents (entries_of changes rendered) u b ≡ contents u b → among (targets (entries_of changes rendered)) u b ≡ false

-- A plan's changes are of at most two units, and none is a mark.
abbrev pub PlansAreSmall : Type 0
PlansAreSmall =
    (units : List UnitState) (plan : Plan) → IsPlan units plan
    → AreOfUnits plan.changes × (length plan.changes ≤ 2) × All (λ change. change.1 ≢ Mark) plan.changes

-- A plan was made on the volumes as they were loaded, and its changes rendered; then free tracks were written, and hold the texts that the plan puts
-- there, which come from units. Now the entries of its changes take the units by its step, whatever the inputs hold.
abbrev pub PlansTakeUnits : Type 0
PlansTakeUnits =
    (shape : Shape) (room : ℕ) (old new : Image) (units : List UnitState) (vtocs : List (List ℕ)) (plan : Plan) (rendered : List Rendered)
    → HaveStates shape units → AreLoaded shape old units → KeepVtocs shape units vtocs → AreVtocsOf old units vtocs → IsPlan units plan → IsOfUnits plan.step
    → WereRendered units vtocs plan.changes rendered → DifferOnFree units old new → AreShortOn shape new → AreHeld units plan.tracks plan.changes old new
    → TakeLoaded (HasInputs None) shape room units new plan.step (entries_of plan.changes rendered)
