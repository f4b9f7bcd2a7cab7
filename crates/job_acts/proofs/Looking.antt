-- A look at steps, one after the other.
use Rattle.std.proofs.Common.{◌≡◌, inl, inr, List, [], ◌∷◌, ◌++◌, Contains, None, Ok, Err, sym, subst}
use Rattle.std.proofs.lemmas.List.Elements.{All-nil, All-cons, All-append}
use Rattle.dasd_pool.specs.declared.pool.Pool.{Ghosts}
use Rattle.unit_load.specs.declared.state.UnitState.{UnitState}
use Rattle.move_core.specs.declared.steps.Step.{Step}
use Rattle.move_core.specs.Facts.{shown}
use Rattle.move_core.specs.Runs.{IsRun}
use Rattle.move_core.proofs.Running.{run_idle, run_then, run_halted}
use Rattle.vtoc_layout.proofs.Distinct.{first_or_later, in_none, at_first}
use Rattle.job_steps.specs.unit_session.Sessions.{SessionView, IsSameSession}
use Rattle.job_steps.specs.unit_session.Planned.{PlannedView}
use Rattle.job_steps.specs.declared.cut.Cut.{Cut}
use Rattle.job_steps.specs.declared.cut.Cut.TheVariants as cuts
use Rattle.job_steps.specs.Carried.{IsCutBefore}
use Rattle.job_acts.specs.declared.acts.Looked.TheVariants as looks
use Rattle.job_acts.specs.Acting.{IsAttemptOf, Fits, LacksRoom, AllFit, EndsLook}
use Rattle.job_acts.proofs.Attempts.{IsReadyFor, IsFullAt}
use Rattle.job_acts.proofs.Sessions.{same_itself, same_then}

module _ {P : Type 0} (pools : Ghosts P) where
  -- ---- one step

  pub look_ready : (session : SessionView P) (step : Step) (planned : PlannedView P) (left : SessionView P) → IsReadyFor pools session step planned → left ≡ planned.session
      → EndsLook pools session (step ∷ []) (Ok (looks.Fits left))
  look_ready session step planned left ready same =
      let one : EndsLook pools session (step ∷ []) (Ok (looks.Fits planned.session)) = record {
        run = ready.run;
        answers = (
          ready.same,
          All-cons (Fits session.units) step [] (record { plan = planned.plan; step_is = ready.step_is; lawful = ready.lawful; next = ready.next }) (All-nil (Fits session.units)),
        );
      } in
      subst (λ (s : SessionView P). EndsLook pools session (step ∷ []) (Ok (looks.Fits s))) (sym same) one

  pub look_full : (session : SessionView P) (step : Step) (kept : SessionView P) → IsFullAt pools session step kept → EndsLook pools session (step ∷ []) (Ok (looks.Full kept))
  look_full session step kept full = record { run = full.run; answers = (full.same, (step, at_first step [], full.lacks)) }

  pub look_cut : (session : SessionView P) (step : Step) (cut : Cut P) → IsAttemptOf pools session step (Err cut) → EndsLook pools session (step ∷ []) (Err cut)
  look_cut session step cut is = record { run = is.run; answers = is.cut }

  -- ---- several

  -- the steps so far fit, and the session is as it was
  pub record SeenSoFar (first now : SessionView P) (seen : List Step) : Type 0 where
    pub same : IsSameSession pools first now
    pub run : IsRun pools.tells (shown pools first.pool) (shown pools now.pool) (Unit {0}) [] None
    pub fit : AllFit first.units seen

  pub seen_none : (session : SessionView P) → SeenSoFar session session []
  seen_none session = record { same = same_itself pools session; run = run_idle (tt {0}); fit = All-nil (Fits session.units) }

  module _ {first now : SessionView P} {seen : List Step} (so_far : SeenSoFar first now seen) where
    pub seen_more : {next : SessionView P} (step : Step) → EndsLook pools now (step ∷ []) (Ok (looks.Fits next)) → SeenSoFar first next (seen ++ (step ∷ []))
    seen_more {next} step is = record {
      same = same_then pools so_far.same is.answers.0;
      run = run_then so_far.run (tt {0}) is.run;
      fit =
          All-append (Fits first.units) seen (step ∷ []) so_far.fit (subst (λ (units : List UnitState). AllFit units (step ∷ [])) so_far.same.units is.answers.1);
    }

    pub seen_all : (all : List Step) → all ≡ seen → EndsLook pools first all (Ok (looks.Fits now))
    seen_all all same = record { run = so_far.run; answers = (so_far.same, subst (AllFit first.units) (sym same) so_far.fit) }

    pub seen_full : {kept : SessionView P} (step : Step) (all : List Step) → Contains all step → EndsLook pools now (step ∷ []) (Ok (looks.Full kept))
        → EndsLook pools first all (Ok (looks.Full kept))
    seen_full {kept} step all there is =
        let lacks = is.answers.1 in
        let same : step ≡ lacks.0 = elim (first_or_later step lacks.0 [] lacks.1) [ inl one ↦ one | inr none ↦ absurd (in_none lacks.0 none) ] in
        record {
          run = run_then so_far.run (tt {0}) is.run;
          answers = (
            same_then pools so_far.same is.answers.0,
            (
              lacks.0,
              subst (λ (s : Step). Contains all s) same there,
              subst (λ (units : List UnitState). LacksRoom units lacks.0) so_far.same.units lacks.2,
            ),
          );
        }

    pub seen_cut : {cut : Cut P} (step : Step) (all : List Step) → EndsLook pools now (step ∷ []) (Err cut) → EndsLook pools first all (Err cut)
    seen_cut {cut} step all is = record { run = run_halted so_far.run (tt {0}) is.run; answers = before cut is.answers }
      where
        before : (c : Cut P) → IsCutBefore pools now c → IsCutBefore pools first c
        before (cuts.Halted broken) none = none
        before (cuts.Short kept) same = same_then pools so_far.same same
