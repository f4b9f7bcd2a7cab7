-- The runs of a step: one that was planned, and one that was made.
use Rattle.std.proofs.Common.{◌≡◌, List, [], ◌∷◌, length, Option, Some, None, Result, Ok, Err, sym, ap, subst, ◌∙◌, arith}
use Rattle.std.specs.Prelude.{IfOk, IfErr}
use Rattle.std.proofs.lemmas.Option.{none-some}
use Rattle.dasd_pool.specs.Count.{Rose}
use Rattle.dasd_pool.specs.declared.pool.Pool.{Ghosts}
use Rattle.move_core.specs.declared.steps.Step.{Step}
use Rattle.move_core.specs.Facts.{Facts, shown}
use Rattle.move_core.specs.Runs.{AreCalls, IsRun, IsRunFor, Ended}
use Rattle.move_core.proofs.Running.{calls_allow, calls_pending, run_behind, run_less, run_of}
use Rattle.unit_load.specs.declared.state.UnitState.{UnitState}
use Rattle.unit_session.specs.unit_steps.declared.plan.Plan.{Plan}
use Rattle.unit_session.specs.unit_steps.Plans.{IsPlan}
use Rattle.unit_session.specs.unit_steps.Rendering.{WereRendered, units_after}
use Rattle.unit_session.proofs.unit_steps.Small.{plans_small}
use Rattle.unit_session.specs.declared.fault.PlanFault.{PlanFault}
use Rattle.unit_session.specs.declared.fault.PlanFault.TheVariants as faults
use Rattle.unit_session.specs.declared.fault.PlanStop.{PlanStop}
use Rattle.unit_session.specs.declared.fault.PlanStop.TheVariants as stops
use Rattle.unit_session.specs.Sessions.{SessionView, BrokenView}
use Rattle.unit_session.specs.Planned.{PlannedView, CopiedView, IsKeptAs, IsPlanFault, pool_planned, pool_switched, done_by, pending_by}
use Rattle.job_steps.specs.Carried.{AreAfter, AreUnitsAfter, pending_made}
use Rattle.job_steps.proofs.AfterUnits.{units_made}

module _ {P : Type 0} (pools : Ghosts P) where
  -- a pool that failed while a step was planned
  pub plan_failed : (session kept : SessionView P) (plan : Plan) (stop : PlanStop P) (fault : PlanFault) (broken : BrokenView P) → stop ≡ stops.Kept kept fault → fault ≡ faults.Pool
      → IsRun pools.tells (shown pools session.pool) (shown pools (pool_planned {P = P} (Err stop))) (Unit {0}) [] None
      → IsKeptAs pools session (λ left. IsPlanFault pools session plan left.pool) stop → (broken.pool ≡ kept.pool) × (broken.pending ≡ None)
      → IsRun pools.tells (shown pools session.pool) (shown pools broken.pool) ⊥ [] broken.pending
  plan_failed session kept plan stop fault broken stop_is fault_is run refused left =
      let ran : IsRun pools.tells (shown pools session.pool) (shown pools kept.pool) (Unit {0}) [] None =
      subst (λ (s : PlanStop P). IsRun pools.tells (shown pools session.pool) (shown pools (pool_planned {P = P} (Err s))) (Unit {0}) [] None) stop_is run in
      let rose : Rose (pools.faults session.pool) (pools.faults kept.pool) =
      (subst (λ (f : PlanFault). IsKeptAs pools session (λ other. IsPlanFault pools session plan other.pool) (stops.Kept kept f)) fault_is
      (subst (λ (s : PlanStop P). IsKeptAs pools session (λ other. IsPlanFault pools session plan other.pool) s) stop_is refused)).1 in
      subst (λ (p : P). IsRun pools.tells (shown pools session.pool) (shown pools p) ⊥ [] broken.pending) (sym left.0)
      (subst (λ (o : Option Step). IsRun pools.tells (shown pools session.pool) (shown pools kept.pool) ⊥ [] o) (sym left.1) (run_less (λ never. absurd never) (λ not. rose) ran))

  -- a pool that failed before the commit: the step is under way
  pub failed_run : {allows : Facts → Type 0} (step : Step) (old : P) (broken : BrokenView P) → AreCalls pools.tells (shown pools old) (shown pools broken.pool) ⊥ [] None → broken.pending ≡ Some step
      → IsRunFor allows pools.tells (shown pools old) (shown pools broken.pool) ⊥ [] broken.pending
  failed_run {allows} step old broken calls pending =
      subst (λ (o : Option Step). IsRunFor allows pools.tells (shown pools old) (shown pools broken.pool) ⊥ [] o) (sym pending)
      (run_of (calls_pending (λ never. never) (calls.cause (λ never. never)) (calls_allow (λ facts same allowed. tt {0}) calls)) (λ no_steps none_pending. none-some step (sym none_pending)))

  module _ (planned : PlannedView P) (copied : CopiedView P) (plan_is : copied.plan ≡ planned.plan)
      (first : AreCalls pools.tells (shown pools planned.session.pool) (shown pools copied.session.pool) (Unit {0}) [] None) where
    -- the copies, and then the commit: the step is done, or under way
    pub made_run : {allows : Facts → Type 0} (result : Result (SessionView P) (BrokenView P))
        → IsRunFor allows pools.tells (shown pools copied.session.pool) (shown pools (pool_switched result)) (Ended result) (done_by copied.plan.step result) (pending_by copied.plan.step result)
        → IfErr result (λ broken. broken.pending ≡ Some copied.plan.step)
        → IsRunFor allows pools.tells (shown pools planned.session.pool) (shown pools (pool_switched result)) (Ended result) (done_by planned.plan.step result) (pending_made result)
    made_run {allows} (Ok session) run pending =
        subst (λ (p : Plan). IsRunFor allows pools.tells (shown pools planned.session.pool) (shown pools session.pool) (Unit {0}) (p.step ∷ []) None) plan_is
        (run_behind (calls_allow (λ facts same allowed. tt {0}) first) tt run (λ no_steps none_pending. omega (arith, ap (λ (l : List Step). length l) no_steps)))
    made_run {allows} (Err broken) run pending =
        subst (λ (o : Option Step). IsRunFor allows pools.tells (shown pools planned.session.pool) (shown pools broken.pool) ⊥ [] o) (sym pending)
        (run_behind (calls_allow (λ facts same allowed. tt {0}) first) tt run (λ no_steps none_pending. none-some copied.plan.step (sym none_pending)))

    -- what they leave
    pub made_after : {allows : Facts → Type 0} (result : Result (SessionView P) (BrokenView P))
        → IsRunFor allows pools.tells (shown pools copied.session.pool) (shown pools (pool_switched result)) (Ended result) (done_by copied.plan.step result) (pending_by copied.plan.step result)
        → (copied.session.room ≡ planned.session.room) × (copied.session.names ≡ planned.session.names) × (copied.session.units ≡ planned.session.units)
        → IsPlan copied.session.units copied.plan → WereRendered copied.session.units copied.session.vtocs copied.plan.changes copied.rendered
        → IfOk result (λ session. session.units ≡ units_after copied.session.units copied.plan.changes copied.rendered)
        → IfOk result (λ session. (session.room ≡ copied.session.room) × (session.names ≡ copied.session.names)) → IfOk result (AreAfter pools planned)
    made_after (Ok session) run still is were units rest =
        let made : AreUnitsAfter copied.session.units copied.plan.changes session.units =
        subst (λ (l : List UnitState). AreUnitsAfter copied.session.units copied.plan.changes l) (sym units)
        (units_made copied.session.units copied.session.vtocs copied.plan.changes copied.rendered (plans_small copied.session.units copied.plan is).0 were) in
        record {
          shape = run.shape ∙ first.shape;
          room = rest.0 ∙ still.0;
          names = rest.1 ∙ still.1;
          units =
              subst (λ (p : Plan). AreUnitsAfter planned.session.units p.changes session.units) plan_is
              (subst (λ (l : List UnitState). AreUnitsAfter l copied.plan.changes session.units) still.2 made);
        }
    made_after (Err broken) run still is were units rest = tt
