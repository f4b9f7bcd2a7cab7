-- Parts of a statement behind one another: their facts and their ends.
use Rattle.std.proofs.Common.{◌≡◌, inl, refl, List, [], ◌++◌, Option, None, sym, subst, ◌∙◌}
use Rattle.std.specs.Prelude.{Result, Ok, Err, IfOk, IfErr}
use Rattle.std.proofs.lemmas.List.{append-nil}
use Rattle.dasd_pool.specs.Count.{Rose}
use Rattle.dasd_pool.specs.declared.pool.Pool.{Ghosts}
use Rattle.volume_model.specs.Unit.{UnitModel}
use Rattle.move_core.specs.declared.steps.Step.{Step}
use Rattle.move_core.specs.Facts.{shown}
use Rattle.move_core.specs.Runs.{IsRun}
use Rattle.move_core.proofs.Running.{run_idle, run_less, run_then}
use Rattle.job_acts.specs.job_steps.unit_session.Sessions.{SessionView, BrokenView, IsSameSession}
use Rattle.job_lines.specs.declared.message.Message.{Message}
use Rattle.job_acts.specs.job_steps.declared.cut.Cut.{Cut}
use Rattle.job_acts.specs.job_steps.declared.cut.Cut.TheVariants as cuts
use Rattle.job_acts.specs.job_steps.Carried.{pending_cut}
use Rattle.job_acts.specs.Acting.{KeepsFacts, CutKeepsFacts}
use Rattle.job_acts.proofs.Sessions.{no_change, keeps_same, keeps_then, for_old}
use Rattle.job_acts.specs.job_steps.Units.{ForUnits}
use Rattle.job_turns.specs.Ends.{LeavesFacts, Ends}
use Rattle.job_turns.specs.Turns.{Action, IsCutAction}

-- where memory ran out, no more is told
pub only_short : {P : Type 0} (kept : SessionView P) (before after : List Message) (result : Result (SessionView P) (Cut P))
    → IfErr result (λ cut. (cut ≡ cuts.Short kept) × (after ≡ before)) → IfErr result (λ cut. cut ≡ cuts.Short kept)
only_short kept before after (Ok next) err = tt
only_short kept before after (Err cut) err = err.0

module _ {P : Type 0} (pools : Ghosts P) where
  pub leaves_then : {old mid : SessionView P} (result : Result (SessionView P) (Cut P)) → KeepsFacts pools old mid → LeavesFacts pools mid result → LeavesFacts pools old result
  leaves_then {old} {mid} (Ok next) one other = keeps_then pools one other
  leaves_then {old} {mid} (Err (cuts.Short kept)) one other = keeps_then pools one other
  leaves_then {old} {mid} (Err (cuts.Halted broken)) one other = tt

  pub cut_leaves : (session : SessionView P) (cut : Cut P) → CutKeepsFacts pools session cut → LeavesFacts pools session (Err cut)
  cut_leaves session (cuts.Halted broken) keeps = tt
  cut_leaves session (cuts.Short kept) keeps = keeps

  -- ---- ends

  module _ {Means : Action} {IsCut : List UnitModel → List Step → Option Step → Type 0} where
    -- one that changed nothing, and what goes on from there
    pub ends_after : {old new : SessionView P} {steps_before steps_after : List Step} {messages_before messages_after : List Message} {result : Result (SessionView P) (Cut P)}
        → IsRun pools.tells (shown pools old.pool) (shown pools new.pool) (Unit {0}) [] None → IsSameSession pools old new
        → Ends pools Means IsCut new steps_before steps_after messages_before messages_after result → Ends pools Means IsCut old steps_before steps_after messages_before messages_after result
    ends_after {old} {new} {steps_before} {steps_after} {messages_before} {messages_after} {result} run same ends = record {
      added = ends.added;
      said = ends.said;
      steps_are = ends.steps_are;
      messages_are = ends.messages_are;
      run = run_then run (tt {0}) ends.run;
      facts = leaves_then result (keeps_same pools same) ends.facts;
      ended = by_end result ends.ended;
      cut = by_cut result ends.cut;
    }
      where
        by_end : (answer : Result (SessionView P) (Cut P)) → IfOk answer (λ next. ForUnits pools new (λ units. Means units ends.added ends.said))
            → IfOk answer (λ next. ForUnits pools old (λ units. Means units ends.added ends.said))
        by_end (Ok next) holds = for_old pools same holds
        by_end (Err short) holds = tt

        by_cut : (answer : Result (SessionView P) (Cut P)) → IfErr answer (λ cut. ForUnits pools new (λ units. IsCut units ends.added (pending_cut cut)))
            → IfErr answer (λ cut. ForUnits pools old (λ units. IsCut units ends.added (pending_cut cut)))
        by_cut (Ok next) holds = tt
        by_cut (Err short) holds = for_old pools same holds

    -- Something was done that ended, and then something is said, or there is no memory for it.
    pub ends_told : {old session : SessionView P} {added steps_before steps_after : List Step} {messages_before messages_after : List Message} (said : List Message) (result : Result (SessionView P) (Cut P))
        → IsRun pools.tells (shown pools old.pool) (shown pools session.pool) (Unit {0}) added None → KeepsFacts pools old session → steps_after ≡ steps_before ++ added
        → IfOk result (λ next. (next ≡ session) × (messages_after ≡ messages_before ++ said)) → IfErr result (λ cut. cut ≡ cuts.Short session)
        → ((more : List Message) × (messages_after ≡ messages_before ++ more))
        → ForUnits pools old (λ units. Means units added said) → ForUnits pools old (λ units. IsCut units added None)
        → Ends pools Means IsCut old steps_before steps_after messages_before messages_after result
    ends_told {old} {session} {added} {steps_before} {steps_after} {messages_before} {messages_after} said (Ok next) run keeps steps ok err grows means cut = record {
      added = added;
      said = said;
      steps_are = steps;
      messages_are = ok.1;
      run = subst (λ (s : SessionView P). IsRun pools.tells (shown pools old.pool) (shown pools s.pool) (Unit {0}) added None) (sym ok.0) run;
      facts = subst (λ (s : SessionView P). KeepsFacts pools old s) (sym ok.0) keeps;
      ended = means;
      cut = tt;
    }
    ends_told {old} {session} {added} {steps_before} {steps_after} {messages_before} {messages_after} said (Err short) run keeps steps ok err grows means cut =
        subst (λ (k : Cut P). Ends pools Means IsCut old steps_before steps_after messages_before messages_after (Err k)) (sym err) (record {
          added = added;
          said = grows.0;
          steps_are = steps;
          messages_are = grows.1;
          run = run;
          facts = keeps;
          ended = tt;
          cut = cut;
        })

    -- nothing was done, and one thing is said
    pub ends_said : {session : SessionView P} {steps_before steps_after : List Step} {messages_before messages_after : List Message} (said : List Message) (result : Result (SessionView P) (Cut P))
        → steps_after ≡ steps_before → IfOk result (λ next. (next ≡ session) × (messages_after ≡ messages_before ++ said))
        → IfErr result (λ cut. (cut ≡ cuts.Short session) × (messages_after ≡ messages_before))
        → ForUnits pools session (λ units. Means units [] said) → ((units : List UnitModel) → IsCut units [] None)
        → Ends pools Means IsCut session steps_before steps_after messages_before messages_after result
    ends_said {session} {steps_before} {steps_after} {messages_before} {messages_after} said (Ok next) steps ok err means cut =
        ends_told said (Ok next) (run_idle (tt {0})) (no_change pools session) (steps ∙ sym (append-nil steps_before)) ok tt (said, ok.1) means (λ told units settled. cut units)
    ends_said {session} {steps_before} {steps_after} {messages_before} {messages_after} said (Err short) steps ok err means cut =
        ends_told said (Err short) (run_idle (tt {0})) (no_change pools session) (steps ∙ sym (append-nil steps_before)) tt err.0 ([], err.1 ∙ sym (append-nil messages_before)) means
        (λ told units settled. cut units)

  -- what an action is, another is too
  pub ends_as : {Means Other : Action} {IsCut IsOther : List UnitModel → List Step → Option Step → Type 0} {session : SessionView P} {steps_before steps_after : List Step}
      {messages_before messages_after : List Message} (result : Result (SessionView P) (Cut P))
      → ForUnits pools session (λ units. (steps : List Step) (said : List Message) → Means units steps said → Other units steps said)
      → ForUnits pools session (λ units. (steps : List Step) (pending : Option Step) → IsCut units steps pending → IsOther units steps pending)
      → Ends pools Means IsCut session steps_before steps_after messages_before messages_after result → Ends pools Other IsOther session steps_before steps_after messages_before messages_after result
  ends_as {Means} {Other} {IsCut} {IsOther} {session} {steps_before} {steps_after} {messages_before} {messages_after} (Ok next) same same_cut ends = record {
    added = ends.added;
    said = ends.said;
    steps_are = ends.steps_are;
    messages_are = ends.messages_are;
    run = ends.run;
    facts = ends.facts;
    ended = λ told units settled. same told units settled ends.added ends.said (ends.ended told units settled);
    cut = tt;
  }
  ends_as {Means} {Other} {IsCut} {IsOther} {session} {steps_before} {steps_after} {messages_before} {messages_after} (Err short) same same_cut ends = record {
    added = ends.added;
    said = ends.said;
    steps_are = ends.steps_are;
    messages_are = ends.messages_are;
    run = ends.run;
    facts = ends.facts;
    ended = tt;
    cut = λ told units settled. same_cut told units settled ends.added (pending_cut short) (ends.cut told units settled);
  }

  -- memory ran out before anything was done
  pub ends_short : {Means : Action} {IsCut : List UnitModel → List Step → Option Step → Type 0} (session : SessionView P) (steps : List Step) (messages : List Message)
      → ((units : List UnitModel) → IsCut units [] None) → Ends pools Means IsCut session steps steps messages messages (Err (cuts.Short session))
  ends_short {Means} {IsCut} session steps messages cut = record {
    added = [];
    said = [];
    steps_are = sym (append-nil steps);
    messages_are = sym (append-nil messages);
    run = run_idle (tt {0});
    facts = no_change pools session;
    ended = tt;
    cut = λ told units settled. cut units;
  }

-- what is said grows, whether there is memory or not
pub told_grows : {T E : Type 0} (A : T → Type 0) (B : E → Type 0) (before after said : List Message) (result : Result T E) → IfOk result (λ next. A next × (after ≡ before ++ said))
    → IfErr result (λ cut. B cut × (after ≡ before)) → (more : List Message) × (after ≡ before ++ more)
told_grows A B before after said (Ok next) ok err = (said, ok.1)
told_grows A B before after said (Err cut) ok err = ([], err.1 ∙ sym (append-nil before))

-- ---- one that only looked was cut

module _ {P : Type 0} (pools : Ghosts P) {old new : SessionView P} (run : IsRun pools.tells (shown pools old.pool) (shown pools new.pool) (Unit {0}) [] None) (same : IsSameSession pools old new) where
  -- the pool failed
  pub halted : {Means : Action} {steps : List Step} {messages : List Message} (broken : BrokenView P) → Rose (pools.faults old.pool) (pools.faults new.pool) → broken.pool ≡ new.pool → broken.pending ≡ None
      → Ends pools Means (IsCutAction Means) old steps steps messages messages (Err (cuts.Halted broken))
  halted {Means} {steps} {messages} broken rose pool none = record {
    added = [];
    said = [];
    steps_are = sym (append-nil steps);
    messages_are = sym (append-nil messages);
    run =
        subst (λ (p : P). IsRun pools.tells (shown pools old.pool) (shown pools p) ⊥ [] broken.pending) (sym pool)
        (subst (λ (step : Option Step). IsRun pools.tells (shown pools old.pool) (shown pools new.pool) ⊥ [] step) (sym none) (run_less (λ never. tt {0}) (λ never. rose) run));
    facts = tt;
    ended = tt;
    cut = λ told units settled. inl (refl, none);
  }

  -- memory ran out
  pub short : {Means : Action} {steps : List Step} {messages : List Message} → Ends pools Means (IsCutAction Means) old steps steps messages messages (Err (cuts.Short new))
  short {Means} {steps} {messages} = record {
    added = [];
    said = [];
    steps_are = sym (append-nil steps);
    messages_are = sym (append-nil messages);
    run = run;
    facts = keeps_same pools same;
    ended = tt;
    cut = λ told units settled. inl (refl, refl);
  }
