-- A step that was made ready, or has no room.
use Rattle.std.proofs.Common.{◌≡◌, [], None, Result, Ok, Err, sym, ap, subst, ◌∙◌}
use Rattle.std.specs.Prelude.{IfOk, IfErr}
use Rattle.dasd_pool.specs.declared.pool.Pool.{Ghosts}
use Rattle.move_core.specs.declared.steps.Step.{Step}
use Rattle.move_core.specs.Facts.{shown}
use Rattle.move_core.specs.Runs.{IsRun}
use Rattle.move_core.proofs.Running.{run_idle}
use Rattle.step_room.specs.unit_steps.declared.plan.Plan.{Plan}
use Rattle.step_room.specs.unit_steps.Plans.{IsPlan}
use Rattle.job_steps.specs.unit_session.Sessions.{SessionView, IsSameSession}
use Rattle.job_steps.specs.unit_session.Planned.{PlannedView}
use Rattle.job_steps.specs.declared.cut.Cut.{Cut}
use Rattle.job_steps.specs.declared.cut.Cut.TheVariants as cuts
use Rattle.job_steps.specs.declared.steps.Attempt.{Attempt}
use Rattle.job_steps.specs.declared.steps.Attempt.TheVariants as attempts
use Rattle.job_steps.specs.Carried.{pool_tried, pending_tried, IsTried, IsReadyOrFull, IsCutBefore, HaveNext}
use Rattle.job_acts.specs.Making.{IsStepPlan}
use Rattle.job_acts.specs.Acting.{IsAttemptOf, LacksRoom}
use Rattle.job_acts.proofs.Sessions.{same_itself}

-- the session is as it was
pub record IsReadyFor {P : Type 0} (pools : Ghosts P) (session : SessionView P) (step : Step) (planned : PlannedView P) : Type 0 where
  pub same : IsSameSession pools session planned.session
  pub run : IsRun pools.tells (shown pools session.pool) (shown pools planned.session.pool) (Unit {0}) [] None
  pub step_is : planned.plan.step ≡ step
  pub lawful : IsPlan session.units planned.plan
  pub next : HaveNext session.units planned.plan.changes

pub record IsFullAt {P : Type 0} (pools : Ghosts P) (session : SessionView P) (step : Step) (kept : SessionView P) : Type 0 where
  pub same : IsSameSession pools session kept
  pub run : IsRun pools.tells (shown pools session.pool) (shown pools kept.pool) (Unit {0}) [] None
  pub lacks : LacksRoom session.units step

module _ {P : Type 0} (pools : Ghosts P) where
  ready : (session : SessionView P) (step : Step) (planned : PlannedView P) → IsAttemptOf pools session step (Ok (attempts.Ready planned)) → IsReadyFor pools session step planned
  ready session step planned is =
      let plan = is.tried.0 in
      let planned_is : planned.plan ≡ plan = is.tried.2.1 in
      record {
        same = is.tried.2.0;
        run = is.run;
        step_is = ap (λ (p : Plan). p.step) planned_is ∙ is.tried.1.step_is;
        lawful = subst (λ (p : Plan). IsPlan session.units p) (sym planned_is) is.tried.1.lawful;
        next = subst (λ (p : Plan). HaveNext session.units p.changes) (sym planned_is) is.tried.2.2;
      }

  full : (session : SessionView P) (step : Step) (kept : SessionView P) → IsAttemptOf pools session step (Ok (attempts.Full kept)) → IsFullAt pools session step kept
  full session step kept is = record {
    same = is.tried.2.0;
    run = is.run;
    lacks =
        record { plan = is.tried.0; step_is = is.tried.1.step_is; lawful = is.tried.1.lawful; need = is.tried.2.1.0; free = is.tried.2.1.1; full = is.tried.2.1.2 };
  }

  pub ready_at : (session : SessionView P) (step : Step) (planned : PlannedView P) (attempt : Attempt P) → attempt ≡ attempts.Ready planned → IsAttemptOf pools session step (Ok attempt)
      → IsReadyFor pools session step planned
  ready_at session step planned attempt at is = ready session step planned (subst (λ (a : Attempt P). IsAttemptOf pools session step (Ok a)) at is)

  pub full_at : (session : SessionView P) (step : Step) (kept : SessionView P) (attempt : Attempt P) → attempt ≡ attempts.Full kept → IsAttemptOf pools session step (Ok attempt)
      → IsFullAt pools session step kept
  full_at session step kept attempt at is = full session step kept (subst (λ (a : Attempt P). IsAttemptOf pools session step (Ok a)) at is)

  module _ (session : SessionView P) (step : Step) where
    pub attempt_of : (plan : Plan) (result : Result (Attempt P) (Cut P)) → IsStepPlan session.room session.units step plan
        → IsRun pools.tells (shown pools session.pool) (shown pools (pool_tried result)) (IsTried result) [] (pending_tried result) → IfOk result (IsReadyOrFull pools session plan)
        → IfErr result (IsCutBefore pools session) → IsAttemptOf pools session step result
    attempt_of plan (Ok attempt) is run tried cut = record { run = run; tried = (plan, is, tried); cut = cut }
    attempt_of plan (Err short) is run tried cut = record { run = run; tried = tt; cut = cut }

    pub attempt_short : IsAttemptOf pools session step (Err (cuts.Short session))
    attempt_short = record { run = run_idle (tt {0}); tried = tt; cut = same_itself pools session }
