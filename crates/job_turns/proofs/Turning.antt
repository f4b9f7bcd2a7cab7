-- Turns one after the other.
use Rattle.std.proofs.Common.{◌≡◌, inl, inr, List, [], ◌∷◌, ◌++◌, None, refl, sym, ap, subst, ◌∙◌, append_assoc}
use Rattle.std.specs.Prelude.{Result, Ok, Err, IfOk, IfErr}
use Rattle.std.proofs.lemmas.List.{append-nil}
use Rattle.dasd_pool.specs.declared.pool.Pool.{Ghosts}
use Rattle.volume_model.specs.Unit.{UnitModel}
use Rattle.move_core.specs.declared.steps.Step.{Step}
use Rattle.move_core.specs.Facts.{Facts}
use Rattle.move_core.specs.Runs.{EndsSettled}
use Rattle.move_core.specs.Stands.{IsSettled}
use Rattle.move_core.specs.Steps.{Reaches}
use Rattle.move_core.proofs.Running.{run_idle, run_then}
use Rattle.job_acts.specs.job_steps.unit_session.Sessions.{SessionView}
use Rattle.job_lines.specs.declared.message.Message.{Message}
use Rattle.job_acts.specs.job_steps.declared.cut.Cut.{Cut}
use Rattle.job_acts.specs.job_steps.Carried.{pending_cut}
use Rattle.job_acts.specs.Acting.{KeepsFacts}
use Rattle.job_acts.specs.job_steps.Units.{facts_of, ForUnits}
use Rattle.job_turns.specs.Ends.{Ends}
use Rattle.job_turns.specs.Turns.{Action, Turns, IsCutAction, AreCutTurns}
use Rattle.job_acts.proofs.Sessions.{no_change, keeps_then, facts_kept}
use Rattle.job_turns.proofs.SameSessions.{leaves_then}

module _ {P K : Type 0} (pools : Ghosts P) (facts : Facts) (Turn : K → Action) where
  -- these turns end so
  abbrev pub EndTurns : List K → SessionView P → List Step → List Step → List Message → List Message → Result (SessionView P) (Cut P) → Type 0
  EndTurns names session steps_before steps_after messages_before messages_after result =
      Ends pools (Turns facts Turn names) (AreCutTurns facts Turn names) session steps_before steps_after messages_before messages_after result

  abbrev pub EndsTurn : K → SessionView P → List Step → List Step → List Message → List Message → Result (SessionView P) (Cut P) → Type 0
  EndsTurn name session steps_before steps_after messages_before messages_after result =
      Ends pools (Turn name) (IsCutAction (Turn name)) session steps_before steps_after messages_before messages_after result

  -- no turn is left
  pub no_turn : (session : SessionView P) (steps : List Step) (messages : List Message) → EndTurns [] session steps steps messages messages (Ok session)
  no_turn session steps messages = record {
    added = [];
    said = [];
    steps_are = sym (append-nil steps);
    messages_are = sym (append-nil messages);
    run = run_idle (tt {0});
    facts = no_change pools session;
    ended = λ told units settled. (refl, refl);
    cut = tt;
  }

  -- a turn was cut
  pub turn_cut : {name : K} (names : List K) {session : SessionView P} {steps_before steps_after : List Step} {messages_before messages_after : List Message} {cut : Cut P}
      → EndsTurn name session steps_before steps_after messages_before messages_after (Err cut) → EndTurns (name ∷ names) session steps_before steps_after messages_before messages_after (Err cut)
  turn_cut {name} names {session} {steps_before} {steps_after} {messages_before} {messages_after} {cut} ends = record {
    added = ends.added;
    said = ends.said;
    steps_are = ends.steps_are;
    messages_are = ends.messages_are;
    run = ends.run;
    facts = ends.facts;
    ended = tt;
    cut = λ told units settled. inl (ends.cut told units settled);
  }

  -- a turn ended, and those behind it end so
  module _ {name : K} (names : List K) {session next : SessionView P} {steps_before steps_between steps_after : List Step} {messages_before messages_between messages_after : List Message}
      {result : Result (SessionView P) (Cut P)} (is : facts_of pools session ≡ facts) (turn : EndsTurn name session steps_before steps_between messages_before messages_between (Ok next))
      (later : EndTurns names next steps_between steps_after messages_between messages_after result) where
    -- the units behind the turn
    between : pools.tells → (units : List UnitModel) → IsSettled (facts_of pools session) (pools.disk session.pool).state units
        → EndsSettled (facts_of pools session) (pools.disk next.pool) units turn.added None
    between told units settled = (turn.run.keeps told (facts_of pools session) refl (tt {0}) units settled).settled (tt {0})

    settled_next : (units : List UnitModel) → IsSettled (facts_of pools session) (pools.disk next.pool).state units → IsSettled (facts_of pools next) (pools.disk next.pool).state units
    settled_next units settled = subst (λ (f : Facts). IsSettled f (pools.disk next.pool).state units) (sym (facts_kept pools turn.facts)) settled

    ended : (answer : Result (SessionView P) (Cut P)) → IfOk answer (λ last. ForUnits pools next (λ units. Turns facts Turn names units later.added later.said))
        → IfOk answer (λ last. ForUnits pools session (λ units. Turns facts Turn (name ∷ names) units (turn.added ++ later.added) (turn.said ++ later.said)))
    ended (Ok last) rest = λ told units settled.
        let end = between told units settled in (
          turn.added,
          later.added,
          turn.said,
          later.said,
          end.units,
          record { means = turn.ended told units settled; reached = subst (λ (f : Facts). Reaches f units turn.added end.units) is end.reached },
          rest told end.units (settled_next end.units end.settled),
          refl,
          refl,
        )
    ended (Err short) rest = tt

    cut_behind : (answer : Result (SessionView P) (Cut P)) → IfErr answer (λ cut. ForUnits pools next (λ units. AreCutTurns facts Turn names units later.added (pending_cut cut)))
        → IfErr answer (λ cut. ForUnits pools session (λ units. AreCutTurns facts Turn (name ∷ names) units (turn.added ++ later.added) (pending_cut cut)))
    cut_behind (Ok last) rest = tt
    cut_behind (Err short) rest = λ told units settled.
        let end = between told units settled in
        inr (
          turn.added,
          later.added,
          turn.said,
          end.units,
          record { means = turn.ended told units settled; reached = subst (λ (f : Facts). Reaches f units turn.added end.units) is end.reached },
          rest told end.units (settled_next end.units end.settled),
          refl,
        )

    pub turn_then : EndTurns (name ∷ names) session steps_before steps_after messages_before messages_after result
    turn_then = record {
      added = turn.added ++ later.added;
      said = turn.said ++ later.said;
      steps_are = later.steps_are ∙ ap (λ (l : List Step). l ++ later.added) turn.steps_are ∙ append_assoc steps_before turn.added later.added;
      messages_are = later.messages_are ∙ ap (λ (l : List Message). l ++ later.said) turn.messages_are ∙ append_assoc messages_before turn.said later.said;
      run = run_then turn.run (tt {0}) later.run;
      facts = leaves_then pools result turn.facts later.facts;
      ended = ended result later.ended;
      cut = cut_behind result later.cut;
    }

-- ---- what is left of the turns leads to all of them

pub record LeadsTo {P K : Type 0} (pools : Ghosts P) (Turn : K → Action) (all left : List K) (first now : SessionView P) (steps_first steps_now : List Step)
    (messages_first messages_now : List Message) : Type 0 where
  pub keeps : KeepsFacts pools first now
  pub leads : (steps : List Step) (messages : List Message) (result : Result (SessionView P) (Cut P))
      → EndTurns pools (facts_of pools first) Turn left now steps_now steps messages_now messages result
      → EndTurns pools (facts_of pools first) Turn all first steps_first steps messages_first messages result

module _ {P K : Type 0} (pools : Ghosts P) (Turn : K → Action) where
  pub leads_begin : (all : List K) (first : SessionView P) (steps : List Step) (messages : List Message) → LeadsTo pools Turn all all first first steps steps messages messages
  leads_begin all first steps messages = record { keeps = no_change pools first; leads = λ after told result ends. ends }

  module _ {all left : List K} {first now : SessionView P} {steps_first steps_now : List Step} {messages_first messages_now : List Message}
      (to : LeadsTo pools Turn all left first now steps_first steps_now messages_first messages_now) where
    pub leads_more : {name : K} {later : List K} {steps : List Step} {messages : List Message} {next : SessionView P} → left ≡ name ∷ later
        → EndsTurn pools (facts_of pools first) Turn name now steps_now steps messages_now messages (Ok next) → LeadsTo pools Turn all later first next steps_first steps messages_first messages
    leads_more {name} {later} {steps} {messages} {next} is turn = record {
      keeps = keeps_then pools to.keeps turn.facts;
      leads = λ after told result ends.
          to.leads after told result
          (subst (λ (names : List K). EndTurns pools (facts_of pools first) Turn names now steps_now after messages_now told result) (sym is)
          (turn_then pools (facts_of pools first) Turn {name = name} later (facts_kept pools to.keeps) turn ends));
    }

    pub leads_cut : {name : K} {later : List K} {steps : List Step} {messages : List Message} {cut : Cut P} → left ≡ name ∷ later
        → EndsTurn pools (facts_of pools first) Turn name now steps_now steps messages_now messages (Err cut)
        → EndTurns pools (facts_of pools first) Turn all first steps_first steps messages_first messages (Err cut)
    leads_cut {name} {later} {steps} {messages} {cut} is turn =
        to.leads steps messages (Err cut)
        (subst (λ (names : List K). EndTurns pools (facts_of pools first) Turn names now steps_now steps messages_now messages (Err cut)) (sym is)
        (turn_cut pools (facts_of pools first) Turn {name = name} later turn))

    pub leads_end : left ≡ [] → EndTurns pools (facts_of pools first) Turn all first steps_first steps_now messages_first messages_now (Ok now)
    leads_end is =
        to.leads steps_now messages_now (Ok now)
        (subst (λ (names : List K). EndTurns pools (facts_of pools first) Turn names now steps_now steps_now messages_now messages_now (Ok now)) (sym is)
        (no_turn pools (facts_of pools first) Turn now steps_now messages_now))
