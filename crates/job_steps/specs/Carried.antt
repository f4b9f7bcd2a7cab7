-- What is left where a step was planned or carried out, and where a statement was cut.
use Rattle.std.specs.Prelude.{◌≡◌, ℕ, List, [], ◌∷◌, All, slice_set, Option, Some, None, Result, Ok, Err}
use Rattle.dasd_pool.specs.declared.pool.Pool.{Ghosts}
use Rattle.vtoc_core.specs.declared.volume.Volume.{Volume}
use Rattle.volume_change.specs.declared.change.Change.{Change}
use Rattle.unit_session.specs.vtoc_render.Next.{IsNext}
use Rattle.unit_load.specs.declared.state.UnitState.{UnitState}
use Rattle.unit_load.specs.declared.state.UnitState.TheVariants.{Online}
use Rattle.move_core.specs.declared.steps.Step.{Step}
use Rattle.unit_session.specs.unit_steps.declared.plan.Plan.{Plan}
use Rattle.unit_session.specs.unit_steps.Plans.{IsLoadedAt}
use Rattle.unit_session.specs.Sessions.{SessionView, BrokenView, IsSameSession}
use Rattle.unit_session.specs.Planned.{PlannedView, LacksRecordsFor}
use Rattle.job_steps.specs.declared.cut.Cut.{Cut}
use Rattle.job_steps.specs.declared.cut.Cut.TheVariants as cuts
use Rattle.job_steps.specs.declared.steps.Attempt.{Attempt}
use Rattle.job_steps.specs.declared.steps.Attempt.TheVariants as attempts

-- ---- what a statement leaves that goes on or was cut

abbrev pub pool_cut : {P : Type 0} → Cut P → P
pool_cut (cuts.Halted broken) = broken.pool
pool_cut (cuts.Short session) = session.pool

abbrev pub pool_left : {P : Type 0} → Result (SessionView P) (Cut P) → P
pool_left (Ok session) = session.pool
pool_left (Err cut) = pool_cut cut

-- the step that is under way
abbrev pub pending_cut : {P : Type 0} → Cut P → Option Step
pending_cut (cuts.Halted broken) = broken.pending
pending_cut (cuts.Short session) = None

abbrev pub pending_left : {P : Type 0} → Result (SessionView P) (Cut P) → Option Step
pending_left (Ok session) = None
pending_left (Err cut) = pending_cut cut

-- the pool didn't fail
abbrev pub IsShort : {P : Type 0} → Cut P → Type 0
IsShort (cuts.Halted broken) = ⊥
IsShort (cuts.Short session) = Unit {0}

abbrev pub Continues : {P : Type 0} → Result (SessionView P) (Cut P) → Type 0
Continues (Ok session) = Unit {0}
Continues (Err cut) = IsShort cut

-- ---- an attempt

abbrev pub pool_tried : {P : Type 0} → Result (Attempt P) (Cut P) → P
pool_tried (Ok (attempts.Ready planned)) = planned.session.pool
pool_tried (Ok (attempts.Full session)) = session.pool
pool_tried (Err cut) = pool_cut cut

abbrev pub pending_tried : {P : Type 0} → Result (Attempt P) (Cut P) → Option Step
pending_tried (Ok attempt) = None
pending_tried (Err cut) = pending_cut cut

abbrev pub IsTried : {P : Type 0} → Result (Attempt P) (Cut P) → Type 0
IsTried (Ok attempt) = Unit {0}
IsTried (Err cut) = IsShort cut

-- there is a volume after each change
abbrev pub HaveNext : List UnitState → List (ℕ × Change) → Type 0
HaveNext units changes = All (λ change. (volume : Volume) × (next : Volume) × IsLoadedAt units change.0 volume × IsNext volume change.1 next) changes

-- a plan of the session's units is ready, or the VTOC of one of its changes has no room; the session is as it was
abbrev pub IsReadyOrFull : {P : Type 0} → Ghosts P → SessionView P → Plan → Attempt P → Type 0
IsReadyOrFull pools session plan (attempts.Ready planned) = IsSameSession pools session planned.session × (planned.plan ≡ plan) × HaveNext session.units plan.changes
IsReadyOrFull pools session plan (attempts.Full kept) = IsSameSession pools session kept × ((need : ℕ) × (free : ℕ) × LacksRecordsFor session.units plan.changes need free)

-- a statement was cut before a step was under way, and a session that is left is as it was
abbrev pub IsCutBefore : {P : Type 0} → Ghosts P → SessionView P → Cut P → Type 0
IsCutBefore pools session (cuts.Halted broken) = broken.pending ≡ None
IsCutBefore pools session (cuts.Short kept) = IsSameSession pools session kept

-- ---- a step

-- the steps that were done
abbrev pub steps_of : {P : Type 0} → Step → Result (SessionView P) (Cut P) → List Step
steps_of step (Ok session) = step ∷ []
steps_of step (Err cut) = []

-- this step is under way
abbrev pub IsUnderWay : {P : Type 0} → Step → BrokenView P → Type 0
IsUnderWay step broken = broken.pending ≡ Some step

abbrev pub pending_made : {P : Type 0} → Result (SessionView P) (BrokenView P) → Option Step
pending_made (Ok session) = None
pending_made (Err broken) = broken.pending

-- on one unit stands the volume after a change, and all others are as they were
pub record IsUnitAfter (units : List UnitState) (unit : ℕ) (change : Change) (after : List UnitState) : Type 0 where
  pub volume : Volume
  pub next : Volume
  pub loaded : IsLoadedAt units unit volume
  pub next_is : IsNext volume change next
  pub after_is : after ≡ slice_set units unit (Online next)

-- so for each of several changes, one after the other
abbrev pub AreUnitsAfter : List UnitState → List (ℕ × Change) → List UnitState → Type 0
AreUnitsAfter units [] after = after ≡ units
AreUnitsAfter units (change ∷ changes) after = (between : List UnitState) × IsUnitAfter units change.0 change.1 between × AreUnitsAfter between changes after

-- a session behind a planned step
pub record AreAfter {P : Type 0} (pools : Ghosts P) (planned : PlannedView P) (session : SessionView P) : Type 0 where
  pub shape : pools.shape session.pool ≡ pools.shape planned.session.pool
  pub room : session.room ≡ planned.session.room
  pub names : session.names ≡ planned.session.names
  pub units : AreUnitsAfter planned.session.units planned.plan.changes session.units

-- a planned step was cut: it is under way, or nothing was done
abbrev pub IsCutIn : {P : Type 0} → Ghosts P → PlannedView P → Cut P → Type 0
IsCutIn pools planned (cuts.Halted broken) = IsUnderWay planned.plan.step broken
IsCutIn pools planned (cuts.Short kept) = IsSameSession pools planned.session kept
