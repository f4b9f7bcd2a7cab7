-- A step that is planned or copied, what its calls hand on, and why a plan is refused.
use Rattle.std.specs.Prelude.{◌≡◌, ℕ, ◌-◌, ◌*◌, ◌/◌, ◌<◌, Bool, true, List, [], ◌∷◌, ◌++◌, length, Any, All, slice_get, Option, Some, None, Result, Ok, Err}
use Rattle.ckd_image.specs.Device.{slot_of}
use Rattle.dasd_pool.specs.Count.{Rose}
use Rattle.dasd_pool.specs.Disk.{Image, Shape, IsSynced}
use Rattle.dasd_pool.specs.declared.pool.Pool.{Ghosts}
use Rattle.dd_names.specs.declared.dd.DdName.{DdName}
use Rattle.dsn_filter.specs.declared.dsn.Dsn.{Dsn}
use Rattle.free_map.specs.declared.run.Run.{Run}
use Rattle.free_map.specs.Runs.{HasTrack}
use Rattle.redo_core.specs.declared.entries.Entry.{Entry}
use Rattle.redo_core.specs.Reading.{journal_of, placed}
use Rattle.vtoc_core.specs.declared.volume.Volume.{Volume}
use Rattle.vtoc_write.specs.declared.blocks.Block.{Block}
use Rattle.vtoc_write.specs.Written.{AreAscending}
use Rattle.volume_change.specs.declared.change.Change.{Change}
use Rattle.unit_steps.specs.vtoc_render.declared.change.Rendered.{Rendered}
use Rattle.unit_steps.specs.vtoc_render.Loads.{LoadsFrom}
use Rattle.unit_steps.specs.vtoc_render.Next.{HasNoRoom, MayChange}
use Rattle.unit_load.specs.declared.state.UnitState.{UnitState}
use Rattle.move_core.specs.declared.steps.Origin.TheVariants as origins
use Rattle.move_core.specs.declared.steps.Step.{Step}
use Rattle.move_core.specs.declared.steps.Step.TheVariants as steps
use Rattle.move_core.specs.Facts.{Facts, HasInputs, Original}
use Rattle.unit_steps.specs.Loaded.{TakeLoaded}
use Rattle.unit_steps.specs.declared.plan.Plan.{Plan}
use Rattle.unit_steps.specs.Parts.{GivesPart, HoldsPart, step_of_part}
use Rattle.unit_steps.specs.Plans.{IsLoadedAt, IsOfUnits, IsPlan, PlansPart}
use Rattle.unit_steps.specs.Rendering.{WereRendered, entries_of, AreReady}
use Rattle.unit_session.specs.declared.copies.Copies.{Copies}
use Rattle.unit_session.specs.declared.copies.GivenTracks.{GivenTracks}
use Rattle.unit_session.specs.declared.fault.PlanFault.{PlanFault}
use Rattle.unit_session.specs.declared.fault.PlanFault.TheVariants as faults
use Rattle.unit_session.specs.declared.fault.PlanStop.{PlanStop}
use Rattle.unit_session.specs.declared.fault.PlanStop.TheVariants as stops
use Rattle.unit_session.specs.Copies.{AreCopiesOf, IsFirstBad, HaveTexts, MayCopy, OnCopies}
use Rattle.unit_session.specs.Given.{AreGivenOf, MayGive, OnGiven}
use Rattle.unit_session.specs.Sessions.{SessionView, BrokenView, IsSameSession}

-- ---- views

-- a session, a plan of its units, the copies that the plan needs or the tracks that the caller gives, its rendered changes, and their entries
pub record PlannedView (P : Type 0) : Type 0 where
  pub session : SessionView P
  pub plan : Plan
  pub copies : Option Copies
  pub given : Option GivenTracks
  pub rendered : List Rendered
  pub entries : List Entry

-- a session on whose volumes the copies stand, the plan, its rendered changes, and their entries
pub record CopiedView (P : Type 0) : Type 0 where
  pub session : SessionView P
  pub plan : Plan
  pub rendered : List Rendered
  pub entries : List Entry

-- ---- what calls hand on

abbrev pub pool_planned : {P : Type 0} → Result (PlannedView P) (PlanStop P) → P
pool_planned (Ok planned) = planned.session.pool
pool_planned (Err (stops.Kept session fault)) = session.pool
pool_planned (Err (stops.Failed broken)) = broken.pool

abbrev pub pool_copied : {P : Type 0} → Result (CopiedView P) (BrokenView P) → P
pool_copied (Ok next) = next.session.pool
pool_copied (Err broken) = broken.pool

abbrev pub pool_given : {P : Type 0} → Result (PlannedView P) (BrokenView P) → P
pool_given (Ok next) = next.session.pool
pool_given (Err broken) = broken.pool

abbrev pub pool_switched : {P : Type 0} → Result (SessionView P) (BrokenView P) → P
pool_switched (Ok session) = session.pool
pool_switched (Err broken) = broken.pool

-- the step that a switch did
abbrev pub done_by : {V W : Type 0} → Step → Result V W → List Step
done_by step (Ok value) = step ∷ []
done_by step (Err broken) = []

-- the step that is under way behind it
abbrev pub pending_by : {V W : Type 0} → Step → Result V W → Option Step
pending_by step (Ok value) = None
pending_by step (Err broken) = Some step

-- each block of a volume that holds the same with these entries in place holds it
abbrev pub SparesUnchanged : Shape → Image → List Entry → Image → Type 0
SparesUnchanged shape contents entries image =
    (u b : ℕ) → u < journal_of shape → placed contents entries u b ≡ contents u b → image u b ≡ contents u b

-- each unit that changes name may be written
abbrev pub MayWriteAll : Shape → List (ℕ × Change) → Type 0
MayWriteAll shape changes = All (λ change. shape.may_write change.0 ≡ true) changes

-- ---- why a plan is refused

-- a volume that it changes has an index
abbrev pub IsIndexed : List UnitState → List (ℕ × Change) → Type 0
IsIndexed units changes = Any (λ change. (volume : Volume) × IsLoadedAt units change.0 volume × (volume.indexed ≡ true)) changes

-- or a VTOC of more tracks than half of what a commit may have
abbrev pub IsLong : ℕ → List UnitState → List (ℕ × Change) → Type 0
IsLong room units changes = Any (λ change. (volume : Volume) × IsLoadedAt units change.0 volume × ((room - 1) / 2 < volume.vtoc.len)) changes

-- the VTOC of the volume that is loaded on a change's unit has room for it
abbrev pub HasRoom : List UnitState → ℕ × Change → Type 0
HasRoom units change = (volume : Volume) → IsLoadedAt units change.0 volume → (need free : ℕ) → ¬ HasNoRoom volume change.1 need free

-- for the first of the changes whose VTOC has no room: it needs so many records more, and so many are free
pub record LacksRecordsFor (units : List UnitState) (changes : List (ℕ × Change)) (need free : ℕ) : Type 0 where
  pub front : List (ℕ × Change)
  pub unit : ℕ
  pub change : Change
  pub back : List (ℕ × Change)
  pub changes_are : changes ≡ front ++ ((unit, change) ∷ back)
  pub earlier : All (HasRoom units) front
  pub volume : Volume
  pub loaded : IsLoadedAt units unit volume
  pub full : HasNoRoom volume change need free

-- no index and no long VTOC is in the way
pub record MayBegin (room : ℕ) (units : List UnitState) (changes : List (ℕ × Change)) : Type 0 where
  pub not_indexed : ¬ IsIndexed units changes
  pub not_long : ¬ IsLong room units changes

-- what stands against changes before anything is read
abbrev pub IsBar : ℕ → List UnitState → List (ℕ × Change) → PlanFault → Type 0
IsBar room units changes faults.Indexed = IsIndexed units changes
IsBar room units changes faults.Long = (¬ IsIndexed units changes) × IsLong room units changes
IsBar room units changes _ = ⊥

-- one change was not rendered: its VTOC has no room, or an index, or memory ran out
abbrev pub IsRenderFault : List UnitState → ℕ → Change → PlanFault → Type 0
IsRenderFault units unit change (faults.Full need free) = (volume : Volume) × IsLoadedAt units unit volume × HasNoRoom volume change need free
IsRenderFault units unit change faults.Indexed = (volume : Volume) × IsLoadedAt units unit volume × (volume.indexed ≡ true)
IsRenderFault units unit change faults.NoMemory = Unit {0}
IsRenderFault units unit change _ = ⊥

-- one of changes was not
abbrev pub AreRenderFault : List UnitState → List (ℕ × Change) → PlanFault → Type 0
AreRenderFault units changes (faults.Full need free) = LacksRecordsFor units changes need free
AreRenderFault units changes faults.Indexed = IsIndexed units changes
AreRenderFault units changes faults.NoMemory = Unit {0}
AreRenderFault units changes _ = ⊥

-- each track that a plan copies has a text
abbrev pub HaveAllTexts : {P : Type 0} → Ghosts P → SessionView P → Plan → Type 0
HaveAllTexts pools session plan =
    (copies : Option Copies) × AreCopiesOf session.units plan.tracks plan.changes copies
    × (pools.tells → OnCopies (HaveTexts (pools.disk session.pool).state.contents) copies)

-- The first of these refuses a plan: an index, a long VTOC, a track to be copied that has no text, a full VTOC. Else the pool failed or memory ran out.
abbrev pub IsPlanFault : {P : Type 0} → Ghosts P → SessionView P → Plan → P → PlanFault → Type 0
IsPlanFault pools session plan new faults.Indexed = IsIndexed session.units plan.changes
IsPlanFault pools session plan new faults.Long = (¬ IsIndexed session.units plan.changes) × IsLong session.room session.units plan.changes
IsPlanFault pools session plan new (faults.Bad unit track) =
    MayBegin session.room session.units plan.changes
    × ((copies : Copies) × AreCopiesOf session.units plan.tracks plan.changes (Some copies)
    × (pools.tells → IsFirstBad (pools.disk session.pool).state.contents copies unit track))
IsPlanFault pools session plan new (faults.Full need free) =
    (MayBegin session.room session.units plan.changes × HaveAllTexts pools session plan) × LacksRecordsFor session.units plan.changes need free
IsPlanFault pools session plan new faults.Pool = Rose (pools.faults session.pool) (pools.faults new)
IsPlanFault pools session plan new faults.NoMemory = Unit {0}

-- a refused plan leaves the session as it was, for this cause; the pool doesn't fail in another way
abbrev pub IsKeptAs : {P : Type 0} → Ghosts P → SessionView P → (SessionView P → PlanFault → Type 0) → PlanStop P → Type 0
IsKeptAs pools session Cause (stops.Kept kept fault) = IsSameSession pools session kept × Cause kept fault
IsKeptAs pools session Cause (stops.Failed broken) = ⊥

-- ---- what is carried between the calls

-- each of the changes may be made on a volume that was loaded from its kept slots
abbrev pub HaveVolumes : List UnitState → List (List ℕ) → List (ℕ × Change) → Type 0
HaveVolumes units vtocs changes =
    All (λ change. (volume : Volume) × (slots : List ℕ) × IsLoadedAt units change.0 volume × (slice_get vtocs change.0 ≡ Some slots)
    × LoadsFrom volume slots × MayChange volume change.1) changes

-- blocks of the tracks of a run in ascending order, each with a slot of so many bytes
pub record BlocksAreOf (run : Run) (size : ℕ) (blocks : List Block) : Type 0 where
  pub held : All (λ block. HasTrack run block.track) blocks
  pub long : All (λ block. length block.slot ≡ size) blocks
  pub ascending : AreAscending blocks

-- the rendered tracks of a unit are tracks of its VTOC, whose slots are kept
pub record MayPatchUnit (units : List UnitState) (vtocs : List (List ℕ)) (unit : ℕ) (rendered : Rendered) : Type 0 where
  pub volume : Volume
  pub slots : List ℕ
  pub loaded : IsLoadedAt units unit volume
  pub kept : slice_get vtocs unit ≡ Some slots
  pub whole : length slots ≡ volume.vtoc.len * slot_of volume.device
  pub blocks : BlocksAreOf volume.vtoc (slot_of volume.device) rendered.blocks

-- so of each change
abbrev pub MayPatch : List UnitState → List (List ℕ) → List (ℕ × Change) → List Rendered → Type 0
MayPatch units vtocs (change ∷ changes) (one ∷ more) = MayPatchUnit units vtocs change.0 one × MayPatch units vtocs changes more
MayPatch units vtocs _ _ = Unit {0}

-- all that a plan needs is there, and nothing is to go to the control block
pub record IsReady {P : Type 0} (pools : Ghosts P) (planned : PlannedView P) (slot : List ℕ) (control : Option (List ℕ)) : Type 0 where
  pub plan : IsPlan planned.session.units planned.plan
  pub copies : AreCopiesOf planned.session.units planned.plan.tracks planned.plan.changes planned.copies
  pub may : OnCopies (MayCopy (pools.shape planned.session.pool)) planned.copies
  pub size : OnCopies (λ copies. length slot ≡ slot_of copies.device) planned.copies
  pub texts : pools.tells → OnCopies (HaveTexts (pools.disk planned.session.pool).state.contents) planned.copies
  pub given : AreGivenOf planned.session.units planned.plan.tracks planned.plan.changes planned.given
  pub may_give : OnGiven (MayGive (pools.shape planned.session.pool)) planned.given
  pub room : OnGiven (λ given. length slot ≡ slot_of given.device) planned.given
  pub rendered : WereRendered planned.session.units planned.session.vtocs planned.plan.changes planned.rendered
  pub entries_are : planned.entries ≡ entries_of planned.plan.changes planned.rendered
  pub entries : AreReady (pools.shape planned.session.pool) planned.session.room planned.entries
  pub writable : MayWriteAll (pools.shape planned.session.pool) planned.plan.changes
  pub alone : control ≡ None

-- ---- a part

-- What is copied is a part of a dump: the step puts it, it was planned so, and its tracks hold its texts.
pub record IsMadeOf {P : Type 0} (pools : Ghosts P) (copied : CopiedView P) (original : Original) : Type 0 where
  pub replaced : Bool
  pub unit : ℕ
  pub name : Dsn
  pub to : List Run
  pub input : DdName
  pub number : ℕ
  pub step_is : copied.plan.step ≡ step_of_part replaced unit name to input number
  pub part : PlansPart replaced copied.session.units original unit name to copied.plan.changes
  pub gives : pools.tells → GivesPart part (pools.disk copied.session.pool).state.contents

-- the input that a step takes a part from holds it
abbrev pub HoldsOriginal : Step → Original → Facts → Type 0
HoldsOriginal (steps.Add unit name to (origins.Part input number)) original facts = HoldsPart input number original facts
HoldsOriginal (steps.Replace unit name to (origins.Part input number)) original facts = HoldsPart input number original facts
HoldsOriginal step original facts = ⊥

-- one commit makes the step, of these entries alone
pub record MaySwitch {P : Type 0} (pools : Ghosts P) (copied : CopiedView P) (control : Option (List ℕ)) : Type 0 where
  pub plan : IsPlan copied.session.units copied.plan
  pub rendered : WereRendered copied.session.units copied.session.vtocs copied.plan.changes copied.rendered
  pub entries_are : copied.entries ≡ entries_of copied.plan.changes copied.rendered
  pub entries : AreReady (pools.shape copied.session.pool) copied.session.room copied.entries
  pub alone : control ≡ None
  pub synced : pools.tells → IsSynced (pools.disk copied.session.pool).state
  pub takes : pools.tells → IsOfUnits copied.plan.step → TakeLoaded (HasInputs None) (pools.shape copied.session.pool) copied.session.room copied.session.units
      (pools.disk copied.session.pool).state.contents copied.plan.step copied.entries
  pub part : pools.tells → (original : Original) → IsMadeOf pools copied original
      → TakeLoaded (HoldsOriginal copied.plan.step original) (pools.shape copied.session.pool) copied.session.room copied.session.units
      (pools.disk copied.session.pool).state.contents copied.plan.step copied.entries
