-- How a part of a statement ends.
use Rattle.std.specs.Prelude.{◌≡◌, List, ◌++◌, Option, Result, Ok, Err, IfOk, IfErr}
use Rattle.dasd_pool.specs.declared.pool.Pool.{Ghosts}
use Rattle.volume_model.specs.Unit.{UnitModel}
use Rattle.move_core.specs.declared.steps.Step.{Step}
use Rattle.move_core.specs.Facts.{shown}
use Rattle.move_core.specs.Runs.{IsRun}
use Rattle.job_acts.specs.job_steps.unit_session.Sessions.{SessionView}
use Rattle.job_acts.specs.job_steps.declared.cut.Cut.{Cut}
use Rattle.job_acts.specs.job_steps.declared.cut.Cut.TheVariants as cuts
use Rattle.job_acts.specs.job_steps.Carried.{pool_left, pending_left, pending_cut, Continues}
use Rattle.job_acts.specs.job_steps.Units.{ForUnits}
use Rattle.job_lines.specs.declared.message.Message.{Message}
use Rattle.job_acts.specs.Acting.{KeepsFacts}
use Rattle.job_turns.specs.Turns.{Action}

-- a session that is left keeps its facts
abbrev pub LeavesFacts : {P : Type 0} → Ghosts P → SessionView P → Result (SessionView P) (Cut P) → Type 0
LeavesFacts pools session (Ok next) = KeepsFacts pools session next
LeavesFacts pools session (Err (cuts.Short kept)) = KeepsFacts pools session kept
LeavesFacts pools session (Err (cuts.Halted broken)) = Unit {0}

-- What a part of a statement does that goes on from a session: its steps are added to those of the run, and its messages to those of the statement. They are
-- those of an action, or it was cut within them.
pub record Ends {P : Type 0} (pools : Ghosts P) (Means : Action) (IsCut : List UnitModel → List Step → Option Step → Type 0) (session : SessionView P)
    (steps_before steps_after : List Step) (messages_before messages_after : List Message) (result : Result (SessionView P) (Cut P)) : Type 0 where
  pub added : List Step
  pub said : List Message
  pub steps_are : steps_after ≡ steps_before ++ added
  pub messages_are : messages_after ≡ messages_before ++ said
  pub run : IsRun pools.tells (shown pools session.pool) (shown pools (pool_left result)) (Continues result) added (pending_left result)
  pub facts : LeavesFacts pools session result
  pub ended : IfOk result (λ next. ForUnits pools session (λ units. Means units added said))
  pub cut : IfErr result (λ cut. ForUnits pools session (λ units. IsCut units added (pending_cut cut)))
