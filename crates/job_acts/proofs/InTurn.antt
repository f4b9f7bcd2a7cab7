-- Steps that are done one after the other.
use Rattle.std.proofs.Common.{◌≡◌, ◌⊎◌, inl, inr, ℕ, List, [], ◌∷◌, ◌++◌, Option, Some, None, Ok, Err, refl, sym, ap, subst, ◌∙◌, append_assoc}
use Rattle.std.specs.Prelude.{Result}
use Rattle.std.proofs.lemmas.List.{append-nil}
use Rattle.dasd_pool.specs.declared.pool.Pool.{Ghosts}
use Rattle.unit_load.specs.declared.state.UnitState.{UnitState}
use Rattle.move_core.specs.declared.steps.Step.{Step}
use Rattle.move_core.specs.Facts.{shown}
use Rattle.move_core.specs.Runs.{IsRun, moves_of}
use Rattle.move_core.proofs.Running.{run_idle, run_then, run_halted}
use Rattle.job_steps.specs.unit_session.Sessions.{SessionView}
use Rattle.job_steps.specs.unit_session.Planned.{PlannedView}
use Rattle.job_steps.specs.declared.cut.Cut.{Cut}
use Rattle.job_steps.specs.Carried.{pool_cut, pending_cut, IsShort, IsCutIn, AreAfter, AreUnitsAfter}
use Rattle.job_acts.specs.Making.{MayPlan}
use Rattle.job_acts.specs.Acting.{KeepsFacts, AreSound, IsAttemptOf, LacksRoom, IsDone, MayDo, EndsSteps, StepsAnswer}
use Rattle.job_acts.proofs.Attempts.{IsReadyFor}
use Rattle.job_acts.proofs.Sessions.{no_change, keeps_same, keeps_then, cut_facts_then, cut_before, cut_in, after_facts}

moves_more : (step : Step) (done : List Step) (pending : Option Step) → moves_of (step ∷ done) pending ≡ step ∷ moves_of done pending
moves_more step done None = refl
moves_more step done (Some other) = refl

module _ {P : Type 0} (pools : Ghosts P) where
  -- ---- one step

  -- it was cut before anything was done
  pub step_before : (session : SessionView P) (step : Step) (before after : List Step) (cut : Cut P) → after ≡ before → IsAttemptOf pools session step (Err cut)
      → EndsSteps pools session (step ∷ []) before after (Err cut)
  step_before session step before after cut same is =
      let left = cut_before pools session cut is.cut in
      record {
        added = [];
        steps_are = same ∙ sym (append-nil before);
        run = is.run;
        answers = (left.0, (step ∷ [], ap (λ (pending : Option Step). moves_of [] pending ++ (step ∷ [])) (sym left.1)));
      }

  -- it was cut in it
  pub step_in : (session : SessionView P) (step : Step) (planned : PlannedView P) (before after : List Step) (cut : Cut P) → IsReadyFor pools session step planned
      → after ≡ before ++ [] → IsRun pools.tells (shown pools planned.session.pool) (shown pools (pool_cut cut)) (IsShort cut) [] (pending_cut cut) → IsCutIn pools planned cut
      → EndsSteps pools session (step ∷ []) before after (Err cut)
  step_in session step planned before after cut ready same run is =
      let left = cut_in pools planned cut is in
      record {
        added = [];
        steps_are = same;
        run = run_halted ready.run (tt {0}) run;
        answers = (cut_facts_then pools cut (keeps_same pools ready.same) left.0, front left.1);
      }
    where
      front : ((pending_cut cut ≡ None) ⊎ (pending_cut cut ≡ Some planned.plan.step)) → (rest : List Step) × (step ∷ [] ≡ moves_of [] (pending_cut cut) ++ rest)
      front (inl none) = (step ∷ [], ap (λ (pending : Option Step). moves_of [] pending ++ (step ∷ [])) (sym none))
      front (inr some) = ([], ap (λ (pending : Option Step). moves_of [] pending ++ []) (sym (some ∙ ap (λ (s : Step). Some s) ready.step_is)))

  -- it was done
  pub step_done : (session : SessionView P) (step : Step) (planned : PlannedView P) (next : SessionView P) (before after : List Step) → IsReadyFor pools session step planned
      → after ≡ before ++ (step ∷ [])
      → IsRun pools.tells (shown pools planned.session.pool) (shown pools next.pool) (Unit {0}) (step ∷ []) None → AreAfter pools planned next → AreSound next.units
      → EndsSteps pools session (step ∷ []) before after (Ok next)
  step_done session step planned next before after ready same run is sound = record {
    added = step ∷ [];
    steps_are = same;
    run = run_then ready.run (tt {0}) run;
    answers = (
      refl,
      keeps_then pools (keeps_same pools ready.same) (after_facts pools planned next is),
      (
        next.units,
        (planned.plan, ready.step_is, ready.lawful, subst (λ (units : List UnitState). AreUnitsAfter units planned.plan.changes next.units) ready.same.units is.units),
        sound,
        refl,
      ),
    );
  }

  -- ---- several

  no_step : (session : SessionView P) (steps : List Step) → EndsSteps pools session [] steps steps (Ok session)
  no_step session steps = record { added = []; steps_are = sym (append-nil steps); run = run_idle (tt {0}); answers = (refl, no_change pools session, refl) }

  step_cut : (step : Step) (later : List Step) (session : SessionView P) (before after : List Step) (cut : Cut P) → EndsSteps pools session (step ∷ []) before after (Err cut)
      → EndsSteps pools session (step ∷ later) before after (Err cut)
  step_cut step later session before after cut is =
      let rest = is.answers.1.0 in
      record {
        added = is.added;
        steps_are = is.steps_are;
        run = is.run;
        answers = (is.answers.0, (rest ++ later, ap (λ (list : List Step). list ++ later) is.answers.1.1 ∙ append_assoc (moves_of is.added (pending_cut cut)) rest later));
      }

  module _ {step : Step} (later : List Step) {session next : SessionView P} {before between after : List Step} {result : Result (SessionView P) (Cut P)} (sound : AreSound next.units)
      (first : EndsSteps pools session (step ∷ []) before between (Ok next)) (behind : EndsSteps pools next later between after result) where
    one : first.added ≡ step ∷ []
    one = first.answers.0

    done : IsDone session.units step next.units
    done = subst (IsDone session.units step) (sym first.answers.2.3) first.answers.2.1

    answers : (answer : Result (SessionView P) (Cut P)) → StepsAnswer pools next later behind.added answer → StepsAnswer pools session (step ∷ later) (first.added ++ behind.added) answer
    answers (Ok last) is = (
      ap (λ (list : List Step). list ++ behind.added) one ∙ ap (λ (list : List Step). step ∷ list) is.0,
      keeps_then pools first.answers.1 is.1,
      (next.units, done, sound, is.2),
    )
    answers (Err cut) is = (
      cut_facts_then pools cut first.answers.1 is.0,
      (
        is.1.0,
        ap (λ (list : List Step). step ∷ list) is.1.1
            ∙ ap (λ (list : List Step). list ++ is.1.0) (sym (moves_more step behind.added (pending_cut cut)))
            ∙ ap (λ (list : List Step). moves_of (list ++ behind.added) (pending_cut cut) ++ is.1.0) (sym one),
      ),
    )

    step_then : EndsSteps pools session (step ∷ later) before after result
    step_then = record {
      added = first.added ++ behind.added;
      steps_are = behind.steps_are ∙ ap (λ (list : List Step). list ++ behind.added) first.steps_are ∙ append_assoc before first.added behind.added;
      run = run_then first.run (tt {0}) behind.run;
      answers = answers result behind.answers;
    }

  -- ---- what is left of steps leads to all of them

  pub record LeadsSteps (all left : List Step) (first now : SessionView P) (steps_first steps_now : List Step) : Type 0 where
    pub keeps : KeepsFacts pools first now
    pub may : MayDo now.room now.units left
    pub leads : (after : List Step) (result : Result (SessionView P) (Cut P)) → EndsSteps pools now left steps_now after result → EndsSteps pools first all steps_first after result

  pub leads_begin : (all : List Step) (first : SessionView P) (steps : List Step) → MayDo first.room first.units all → LeadsSteps all all first first steps steps
  leads_begin all first steps may = record { keeps = no_change pools first; may = may; leads = λ after result ends. ends }

  module _ {all left : List Step} {first now : SessionView P} {steps_first steps_now : List Step} (to : LeadsSteps all left first now steps_first steps_now)
      {step : Step} {later : List Step} (is : left ≡ step ∷ later) where
    may_first : MayDo now.room now.units (step ∷ later)
    may_first = subst (MayDo now.room now.units) is to.may

    pub plan_first : MayPlan now.room now.units step
    plan_first = may_first.0

    pub room_first : ¬ LacksRoom now.units step
    room_first = may_first.1

    pub leads_more : {steps : List Step} {next : SessionView P} → AreSound next.units → EndsSteps pools now (step ∷ []) steps_now steps (Ok next)
        → LeadsSteps all later first next steps_first steps
    leads_more {steps} {next} sound turn =
        let done : IsDone now.units step next.units = subst (IsDone now.units step) (sym turn.answers.2.3) turn.answers.2.1 in
        record {
          keeps = keeps_then pools to.keeps turn.answers.1;
          may = subst (λ (room : ℕ). MayDo room next.units later) (sym turn.answers.1.room) (may_first.2 next.units done sound);
          leads = λ after result ends.
              to.leads after result (subst (λ (list : List Step). EndsSteps pools now list steps_now after result) (sym is) (step_then later sound turn ends));
        }

    pub leads_cut : {steps : List Step} {cut : Cut P} → EndsSteps pools now (step ∷ []) steps_now steps (Err cut) → EndsSteps pools first all steps_first steps (Err cut)
    leads_cut {steps} {cut} turn =
        to.leads steps (Err cut) (subst (λ (list : List Step). EndsSteps pools now list steps_now steps (Err cut)) (sym is) (step_cut step later now steps_now steps cut turn))

  pub leads_end : {all left : List Step} {first now : SessionView P} {steps_first steps_now : List Step} → LeadsSteps all left first now steps_first steps_now → left ≡ []
      → EndsSteps pools first all steps_first steps_now (Ok now)
  leads_end {all} {left} {first} {now} {steps_first} {steps_now} to is =
      to.leads steps_now (Ok now) (subst (λ (list : List Step). EndsSteps pools now list steps_now steps_now (Ok now)) (sym is) (no_step now steps_now))
