-- Steps that are looked at and done one after the other: when they may be, and what became of them.
use Rattle.std.specs.Prelude.{◌≡◌, ◌⊎◌, ℕ, ◌≤◌, List, [], ◌∷◌, ◌++◌, length, take, All, Contains, Option, None, Result, Ok, Err, IfOk, IfErr}
use Rattle.dasd_pool.specs.declared.pool.Pool.{Ghosts}
use Rattle.vtoc_core.specs.declared.volume.Volume.{Volume}
use Rattle.unit_load.specs.declared.state.UnitState.{UnitState}
use Rattle.move_core.specs.declared.steps.Step.{Step}
use Rattle.move_core.specs.Facts.{shown}
use Rattle.move_core.specs.Runs.{IsRun, moves_of}
use Rattle.step_room.specs.unit_steps.declared.plan.Plan.{Plan}
use Rattle.step_room.specs.unit_steps.Plans.{IsLoadedAt, IsPlan}
use Rattle.step_room.specs.step_plans.Plans.{IsSound}
use Rattle.job_steps.specs.unit_session.Sessions.{SessionView, IsSameSession}
use Rattle.job_steps.specs.unit_session.Planned.{LacksRecordsFor}
use Rattle.job_steps.specs.declared.cut.Cut.{Cut}
use Rattle.job_steps.specs.declared.cut.Cut.TheVariants as cuts
use Rattle.job_steps.specs.declared.steps.Attempt.{Attempt}
use Rattle.job_steps.specs.Carried.{pool_cut, pending_cut, IsShort, pool_left, pending_left, Continues, pool_tried, pending_tried, IsTried, IsReadyOrFull, IsCutBefore, HaveNext, AreUnitsAfter}
use Rattle.job_acts.specs.declared.acts.Acts.{Acts}
use Rattle.job_acts.specs.declared.acts.Looked.{Looked}
use Rattle.job_acts.specs.declared.acts.Looked.TheVariants as looks
use Rattle.job_acts.specs.declared.acts.Acted.{Acted}
use Rattle.job_acts.specs.declared.acts.Acted.TheVariants as ends
use Rattle.job_acts.specs.Making.{MayPlan, IsStepPlan}

-- ---- sessions

-- what never changes of a session stays
pub record KeepsFacts {P : Type 0} (pools : Ghosts P) (old new : SessionView P) : Type 0 where
  pub shape : pools.shape new.pool ≡ pools.shape old.pool
  pub names : new.names ≡ old.names
  pub room : new.room ≡ old.room

-- so of the one that a cut leaves
abbrev pub CutKeepsFacts : {P : Type 0} → Ghosts P → SessionView P → Cut P → Type 0
CutKeepsFacts pools session (cuts.Halted broken) = Unit {0}
CutKeepsFacts pools session (cuts.Short kept) = KeepsFacts pools session kept

-- each volume was loaded from the slots of its VTOC
abbrev pub AreSound : List UnitState → Type 0
AreSound units = (unit : ℕ) (volume : Volume) → IsLoadedAt units unit volume → IsSound volume

-- ---- one step

-- it was made ready on the session's units, or a VTOC has no room for it, or it was cut before anything was done
pub record IsAttemptOf {P : Type 0} (pools : Ghosts P) (session : SessionView P) (step : Step) (result : Result (Attempt P) (Cut P)) : Type 0 where
  pub run : IsRun pools.tells (shown pools session.pool) (shown pools (pool_tried result)) (IsTried result) [] (pending_tried result)
  pub tried : IfOk result (λ attempt. (plan : Plan) × IsStepPlan session.room session.units step plan × IsReadyOrFull pools session plan attempt)
  pub cut : IfErr result (IsCutBefore pools session)

-- there is a plan of it, and a volume after each of its changes
pub record Fits (units : List UnitState) (step : Step) : Type 0 where
  pub plan : Plan
  pub step_is : plan.step ≡ step
  pub lawful : IsPlan units plan
  pub next : HaveNext units plan.changes

-- there is a plan of it for which a VTOC has no room
pub record LacksRoom (units : List UnitState) (step : Step) : Type 0 where
  pub plan : Plan
  pub step_is : plan.step ≡ step
  pub lawful : IsPlan units plan
  pub need : ℕ
  pub free : ℕ
  pub full : LacksRecordsFor units plan.changes need free

-- the units behind it
abbrev pub IsDone : List UnitState → Step → List UnitState → Type 0
IsDone units step after = (plan : Plan) × (plan.step ≡ step) × IsPlan units plan × AreUnitsAfter units plan.changes after

-- ---- several

-- they can be done one after the other: the first can be planned, and no plan of it lacks room, and so the next behind it
abbrev pub MayDo : ℕ → List UnitState → List Step → Type 0
MayDo room units [] = Unit {0}
MayDo room units (step ∷ steps) =
    MayPlan room units step × (¬ LacksRoom units step) × ((after : List UnitState) → IsDone units step after → AreSound after → MayDo room after steps)

-- the units behind them
abbrev pub AreDone : List UnitState → List Step → List UnitState → Type 0
AreDone units [] after = after ≡ units
AreDone units (step ∷ steps) after = (between : List UnitState) × IsDone units step between × AreSound between × AreDone between steps after

abbrev pub AllFit : List UnitState → List Step → Type 0
AllFit units steps = All (Fits units) steps

abbrev pub SomeLacks : List UnitState → List Step → Type 0
SomeLacks units steps = (step : Step) × Contains steps step × LacksRoom units step

-- Ok: all were done. Cut: within them.
abbrev pub StepsAnswer : {P : Type 0} → Ghosts P → SessionView P → List Step → List Step → Result (SessionView P) (Cut P) → Type 0
StepsAnswer pools session steps added (Ok next) = (added ≡ steps) × KeepsFacts pools session next × AreDone session.units steps next.units
StepsAnswer pools session steps added (Err cut) = CutKeepsFacts pools session cut × ((rest : List Step) × (steps ≡ moves_of added (pending_cut cut) ++ rest))

pub record EndsSteps {P : Type 0} (pools : Ghosts P) (session : SessionView P) (steps before after : List Step) (result : Result (SessionView P) (Cut P)) : Type 0 where
  pub added : List Step
  pub steps_are : after ≡ before ++ added
  pub run : IsRun pools.tells (shown pools session.pool) (shown pools (pool_left result)) (Continues result) added (pending_left result)
  pub answers : StepsAnswer pools session steps added result

-- ---- a look at several, which does nothing

abbrev pub pool_looked : {P : Type 0} → Result (Looked P) (Cut P) → P
pool_looked (Ok (looks.Fits session)) = session.pool
pool_looked (Ok (looks.Full session)) = session.pool
pool_looked (Err cut) = pool_cut cut

abbrev pub pending_looked : {P : Type 0} → Result (Looked P) (Cut P) → Option Step
pending_looked (Ok looked) = None
pending_looked (Err cut) = pending_cut cut

abbrev pub GoesOn : {P : Type 0} → Result (Looked P) (Cut P) → Type 0
GoesOn (Ok looked) = Unit {0}
GoesOn (Err cut) = IsShort cut

-- all fit, or one lacks room, or it was cut
abbrev pub LookAnswers : {P : Type 0} → Ghosts P → SessionView P → List Step → Result (Looked P) (Cut P) → Type 0
LookAnswers pools session steps (Ok (looks.Fits next)) = IsSameSession pools session next × AllFit session.units steps
LookAnswers pools session steps (Ok (looks.Full next)) = IsSameSession pools session next × SomeLacks session.units steps
LookAnswers pools session steps (Err cut) = IsCutBefore pools session cut

pub record EndsLook {P : Type 0} (pools : Ghosts P) (session : SessionView P) (steps : List Step) (result : Result (Looked P) (Cut P)) : Type 0 where
  pub run : IsRun pools.tells (shown pools session.pool) (shown pools (pool_looked result)) (GoesOn result) [] (pending_looked result)
  pub answers : LookAnswers pools session steps result

-- ---- acts

-- the steps that are looked at before anything is done
abbrev pub looked_at : Acts → List Step
looked_at acts = take acts.looked acts.steps.items

-- they can be planned; and where all of them fit, all steps can be done
pub record MayAct (room : ℕ) (units : List UnitState) (acts : Acts) : Type 0 where
  pub within : acts.looked ≤ length acts.steps.items
  pub looks : All (MayPlan room units) (looked_at acts)
  pub may : AllFit units (looked_at acts) → MayDo room units acts.steps.items

abbrev pub pool_acted : {P : Type 0} → Result (Acted P) (Cut P) → P
pool_acted (Ok (ends.Done session)) = session.pool
pool_acted (Ok (ends.Full session)) = session.pool
pool_acted (Err cut) = pool_cut cut

abbrev pub pending_acted : {P : Type 0} → Result (Acted P) (Cut P) → Option Step
pending_acted (Ok acted) = None
pending_acted (Err cut) = pending_cut cut

abbrev pub IsGoing : {P : Type 0} → Result (Acted P) (Cut P) → Type 0
IsGoing (Ok acted) = Unit {0}
IsGoing (Err cut) = IsShort cut

-- Of steps the first of which were looked at. Done: all were made, and those that were looked at had room. Full: one of these had none, and nothing was done.
-- Cut: before the first step, or within them, and those that were looked at had room.
abbrev pub ActsAnswer : {P : Type 0} → Ghosts P → SessionView P → (steps seen added : List Step) → Result (Acted P) (Cut P) → Type 0
ActsAnswer pools session steps seen added (Ok (ends.Done next)) =
    (added ≡ steps) × KeepsFacts pools session next × AreDone session.units steps next.units × AllFit session.units seen
ActsAnswer pools session steps seen added (Ok (ends.Full next)) = (added ≡ []) × IsSameSession pools session next × SomeLacks session.units seen
ActsAnswer pools session steps seen added (Err cut) =
    CutKeepsFacts pools session cut
    × (((added ≡ []) × (pending_cut cut ≡ None)) ⊎ ((rest : List Step) × (steps ≡ moves_of added (pending_cut cut) ++ rest) × AllFit session.units seen))

pub record EndsActs {P : Type 0} (pools : Ghosts P) (session : SessionView P) (steps seen before after : List Step) (result : Result (Acted P) (Cut P)) : Type 0 where
  pub added : List Step
  pub steps_are : after ≡ before ++ added
  pub run : IsRun pools.tells (shown pools session.pool) (shown pools (pool_acted result)) (IsGoing result) added (pending_acted result)
  pub answers : ActsAnswer pools session steps seen added result
