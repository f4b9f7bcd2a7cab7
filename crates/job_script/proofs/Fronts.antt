-- A run between two statements: what ran so far, and what goes on from there.
use Rattle.std.proofs.Common.{◌≡◌, ◌≢◌, ◌⊎◌, inl, inr, ℕ, ◌≤◌, List, [], ◌∷◌, ◌++◌, All, Option, Some, None, Err, refl, sym, ap, subst, ◌∙◌, append_assoc, arith, length, length-append}
use Rattle.std.specs.Prelude.{IfSome}
use Rattle.std.proofs.lemmas.List.{append-nil}
use Rattle.std.proofs.lemmas.List.Elements.{All-nil, All-cons, All-head, All-tail, All-append}
use Rattle.by_rules.specs.declared.day.Day.{Day}
use Rattle.dasd_pool.specs.Count.{Rose}
use Rattle.dasd_pool.specs.Stream.{Appends}
use Rattle.dasd_pool.specs.declared.pool.Pool.{Ghosts}
use Rattle.dump_fmt.specs.declared.outs.OutDd.{OutDd}
use Rattle.dump_fmt.specs.Outs.{OutSeen, InSeen, Files, FilesSeen}
use Rattle.enq_table.specs.declared.hold.Hold.{Hold}
use Rattle.volume_model.specs.Unit.{UnitModel}
use Rattle.move_core.specs.declared.steps.Step.{Step}
use Rattle.move_core.specs.Facts.{Facts, Inputs, no_inputs, shown}
use Rattle.move_core.proofs.Resuming.{settled_with}
use Rattle.move_core.specs.Runs.{IsRun}
use Rattle.move_core.specs.Stands.{IsSettled}
use Rattle.move_core.specs.Steps.{Reaches}
use Rattle.move_core.proofs.Running.{run_idle, run_then}
use Rattle.run_lines.specs.declared.ending.RunEnd.{RunEnd}
use Rattle.run_lines.specs.declared.ending.RunEnd.TheVariants as ends
use Rattle.run_lines.specs.Endings.{last_line}
use Rattle.run_lines.specs.Texts.{AppendsLess}
use Rattle.run_lines.proofs.Appending.{appends_none, less_some, appends_less_then}
use Rattle.sysin_lang.specs.declared.command.Statement.{Statement}
use Rattle.sysin_lang.specs.Flow.{Codes, Plan, Command, End, zero_codes, next_of, answered, Leaves}
use Rattle.job_ops.specs.unit_session.Sessions.{SessionView}
use Rattle.job_ops.specs.declared.report.Report.{Report}
use Rattle.job_ops.specs.job_turns.job_acts.Acting.{KeepsFacts}
use Rattle.job_ops.specs.job_turns.job_steps.Units.{facts_for, facts_of, ForUnits}
use Rattle.job_ops.specs.job_turns.Setting.{Setting, setting_for}
use Rattle.job_script.specs.declared.left.Left.{Left}
use Rattle.job_script.specs.declared.run.Between.{Between}
use Rattle.job_script.specs.Built.{AreBuilt}
use Rattle.job_script.specs.Ends.{After, after_of, SinkSeen, Prints, LeavesAfter, EndsScript}
use Rattle.job_script.specs.One.{GoesOn, EndsOne, IsStoppedIn, seen_files}
use Rattle.job_script.specs.Runs.{Ran, IsReported, IsListing, steps_of, lines_of, lines_in, answers_of, started_line, printed_text, Follow, RunOn, HandOn, HasRun, IsNext, IsFront}
use Rattle.job_script.proofs.Earlier.{took_none, took_then}
use Rattle.job_script.proofs.Rans.{steps_join, lines_join, steps_one, lines_one, follow_join, hand_join, leaves_more}
use Rattle.job_script.proofs.Plans.{built_then}
use Rattle.job_script.proofs.Ones.{after_parts, sink_no_pool, sink_no_whole, whole_no_pool, whole_no_sink}
use Rattle.dasd_pool.proofs.Streams.{rose_since, appends_then, appends_some_then, all_some}

-- the elements before others, and those behind
all_front : {X : Type 0} (Holds : X → Type 0) (xs ys : List X) → All Holds (xs ++ ys) → All Holds xs
all_front Holds [] ys all = All-nil Holds
all_front Holds (x ∷ xs) ys all = All-cons Holds x xs (All-head Holds x (xs ++ ys) all) (all_front Holds xs ys (All-tail Holds x (xs ++ ys) all))

all_back : {X : Type 0} (Holds : X → Type 0) (xs ys : List X) → All Holds (xs ++ ys) → All Holds ys
all_back Holds [] ys all = all
all_back Holds (x ∷ xs) ys all = all_back Holds xs ys (All-tail Holds x (xs ++ ys) all)

-- a list with an element behind others isn't empty
not_none : (ran : List Ran) (one : Ran) → (ran ++ (one ∷ [])) ≢ []
not_none ran one none = absurd (omega (arith, length-append ran (one ∷ []), ap length none))

-- these units were left, and the pool is settled for them
abbrev pub SettledAfter : {P : Type 0} → Ghosts P → SessionView P → SessionView P → Setting → List Ran → List UnitModel → Type 0
SettledAfter pools first now setting ran units =
    (after : List UnitModel) × Follow setting ran units after × IsSettled (facts_of pools first) (pools.disk now.pool).state after

-- A run that began on a session, and whose statements so far all ended. What may run yet, and the codes, are given.
pub record RanSoFar {P : Type 0} (pools : Ghosts P) (first now : SessionView P) (held : List Hold) (today : Day) (plan left : Plan) (codes : Codes) (steps : List Step)
    (files_first files_now : Files) (taken_first taken_now : Option (List ℕ)) (faults_first faults_now : ℕ) : Type 0 where
  pub ran : List Ran
  pub reports : All IsReported ran
  pub leaves : Leaves plan zero_codes (answers_of ran) left codes
  pub built : AreBuilt left
  pub steps_are : steps ≡ steps_of ran
  pub taken : Appends taken_first taken_now (lines_of ran)
  pub later : faults_first ≤ faults_now
  pub facts : KeepsFacts pools first now
  pub run : IsRun pools.tells (shown pools first.pool) (shown pools now.pool) (Unit {0}) (steps_of ran) None
  pub quiet : All IsListing ran → now.pool ≡ first.pool
  pub handed : HandOn files_first ran files_now
  pub units : (inputs : Inputs) → ForUnits pools first (SettledAfter pools first now (setting_for pools first inputs held today) ran)

facts_same : {P : Type 0} (pools : Ghosts P) {old new : SessionView P} (inputs : Inputs) → KeepsFacts pools old new → facts_for pools new inputs ≡ facts_for pools old inputs
facts_same {P} pools {old} {new} inputs keeps = λ i. record { shape = keeps.shape i; names = keeps.names i; room = keeps.room i; inputs = inputs }

setting_same : {P : Type 0} (pools : Ghosts P) {old new : SessionView P} (inputs : Inputs) (held : List Hold) (today : Day) → KeepsFacts pools old new
    → setting_for pools new inputs held today ≡ setting_for pools old inputs held today
setting_same {P} pools {old} {new} inputs held today keeps = λ i. record { facts = facts_same pools inputs keeps i; today = today; held = held }

-- a statement that ended
abbrev pub ran_of : Statement → List Step → Report → FilesSeen → Ran
ran_of statement steps report files = record { statement = statement; steps = steps; report = report; files = files }

-- nothing ran yet
pub ran_none : {P : Type 0} (pools : Ghosts P) (first : SessionView P) (held : List Hold) (today : Day) (plan left : Plan) (codes : Codes) (steps : List Step)
    (files : Files) (taken : Option (List ℕ)) (faults : ℕ) → AreBuilt plan → left ≡ plan → codes ≡ zero_codes → steps ≡ []
    → RanSoFar pools first first held today plan left codes steps files files taken taken faults faults
ran_none {P} pools first held today plan left codes steps files taken faults built same zero none = record {
  ran = [];
  reports = All-nil IsReported;
  leaves = (same, zero);
  built = subst AreBuilt (sym same) built;
  steps_are = none;
  taken = appends_none taken;
  later = omega arith;
  facts = record { shape = refl; names = refl; room = refl };
  run = run_idle (tt {0});
  quiet = λ listed. refl;
  handed = refl;
  units = λ inputs told units settled. (units, refl, settled);
}

-- the same of codes and a place under other names
pub ran_as : {P : Type 0} {pools : Ghosts P} {first now : SessionView P} {held : List Hold} {today : Day} {plan left other : Plan} {codes others : Codes} {steps : List Step}
    {files_first files_now : Files} {taken_first taken_now : Option (List ℕ)} {faults_first faults_now : ℕ} → other ≡ left → others ≡ codes
    → RanSoFar pools first now held today plan left codes steps files_first files_now taken_first taken_now faults_first faults_now
    → RanSoFar pools first now held today plan other others steps files_first files_now taken_first taken_now faults_first faults_now
ran_as {P} {pools} {first} {now} {held} {today} {plan} {left} {other} {codes} {others} {steps} {files_first} {files_now} {taken_first} {taken_now} {faults_first} {faults_now} same zero so_far =
    subst (λ (c : Codes). RanSoFar pools first now held today plan other c steps files_first files_now taken_first taken_now faults_first faults_now) (sym zero)
    (subst (λ (p : Plan). RanSoFar pools first now held today plan p codes steps files_first files_now taken_first taken_now faults_first faults_now) (sym same) so_far)

module _ {P B : Type 0} {Own : B → Type 0} (pools : Ghosts P) (seen : OutDd B Own → OutSeen) (ins_now : List InSeen) (held : List Hold) (today : Day) {first : SessionView P} (now : Between P B Own)
    {plan left : Plan} {codes : Codes} {files_first : Files} {taken_first taken_now : Option (List ℕ)} {faults_first faults_now : ℕ}
    (so_far : RanSoFar pools first now.session held today plan left codes now.steps.items files_first (seen_files seen now.outs.items ins_now) taken_first taken_now faults_first faults_now) where
  -- ---- a statement more

  module _ {statement : Statement} {rest : Plan} {then' : Codes} (next_is : next_of left codes ≡ Command statement rest then') {ins_new : List InSeen} {taken_new : Option (List ℕ)}
      {faults_new : ℕ} where
    pub ran_more : {next : Between P B Own} → GoesOn pools seen ins_now ins_new now statement held today taken_now taken_new faults_now faults_new next
        → RanSoFar pools first next.session held today plan rest (answered next.code then') next.steps.items files_first (seen_files seen next.outs.items ins_new) taken_first taken_new
        faults_first faults_new
    ran_more {next} goes = record {
      ran = so_far.ran ++ (ran_of statement goes.added goes.said goes.files ∷ []);
      reports = All-append IsReported so_far.ran (ran_of statement goes.added goes.said goes.files ∷ []) so_far.reports
          (All-cons IsReported (ran_of statement goes.added goes.said goes.files) [] goes.reported (All-nil IsReported));
      leaves = subst (λ (code : ℕ). Leaves plan zero_codes (answers_of (so_far.ran ++ (ran_of statement goes.added goes.said goes.files ∷ []))) rest (answered code then')) (sym goes.code_is)
          (leaves_more plan left rest codes then' zero_codes statement so_far.ran (ran_of statement goes.added goes.said goes.files) so_far.leaves refl next_is);
      built = (built_then left codes so_far.built next_is).1;
      steps_are = goes.steps_are ∙ ap (λ (l : List Step). l ++ goes.added) so_far.steps_are ∙ steps_all;
      taken = subst (λ (l : List ℕ). Appends taken_first taken_new l) lines_all
          (appends_then taken_first taken_now taken_new (lines_of so_far.ran) (lines_in statement.number goes.said.messages) so_far.taken goes.taken);
      later = omega (arith, so_far.later, goes.later);
      facts = record {
        shape = goes.facts.shape ∙ so_far.facts.shape;
        names = goes.facts.names ∙ so_far.facts.names;
        room = goes.facts.room ∙ so_far.facts.room;
      };
      run = subst (λ (l : List Step). IsRun pools.tells (shown pools first.pool) (shown pools next.session.pool) (Unit {0}) l None) steps_all (run_then so_far.run (tt {0}) goes.run);
      quiet = λ listed.
          goes.quiet (All-head IsListing (ran_of statement goes.added goes.said goes.files) [] (all_back IsListing so_far.ran (ran_of statement goes.added goes.said goes.files ∷ []) listed))
          ∙ so_far.quiet (all_front IsListing so_far.ran (ran_of statement goes.added goes.said goes.files ∷ []) listed);
      handed = hand_join so_far.ran (ran_of statement goes.added goes.said goes.files ∷ []) files_first (seen_files seen now.outs.items ins_now) (seen_files seen next.outs.items ins_new)
          so_far.handed (goes.found, goes.kept, goes.left);
      units = units_more;
    }
      where
        steps_all : steps_of so_far.ran ++ goes.added ≡ steps_of (so_far.ran ++ (ran_of statement goes.added goes.said goes.files ∷ []))
        steps_all = ap (λ (l : List Step). steps_of so_far.ran ++ l) (sym (steps_one (ran_of statement goes.added goes.said goes.files))) ∙ sym (steps_join so_far.ran (ran_of statement goes.added goes.said goes.files ∷ []))

        lines_all : lines_of so_far.ran ++ lines_in statement.number goes.said.messages ≡ lines_of (so_far.ran ++ (ran_of statement goes.added goes.said goes.files ∷ []))
        lines_all = ap (λ (l : List ℕ). lines_of so_far.ran ++ l) (sym (lines_one (ran_of statement goes.added goes.said goes.files))) ∙ sym (lines_join so_far.ran (ran_of statement goes.added goes.said goes.files ∷ []))

        units_more : (inputs : Inputs) → ForUnits pools first (SettledAfter pools first next.session (setting_for pools first inputs held today) (so_far.ran ++ (ran_of statement goes.added goes.said goes.files ∷ [])))
        units_more inputs told units settled =
            let was = so_far.units inputs told units settled in
            let same = facts_same pools inputs so_far.facts in
            let kept = (goes.run.keeps told (facts_for pools first inputs) (sym so_far.facts.shape) (tt {0}) was.0 (settled_with inputs was.2)).settled (tt {0}) in
            let means = goes.means inputs told was.0 (subst (λ (f : Facts). IsSettled f (pools.disk now.session.pool).state was.0) (sym (facts_same pools no_inputs so_far.facts)) was.2) in
            let here = subst (λ (s : Setting). Follow s (ran_of statement goes.added goes.said goes.files ∷ []) was.0 kept.units) (setting_same pools inputs held today so_far.facts)
            (means, (kept.units, subst (λ (f : Facts). Reaches f was.0 goes.added kept.units) (sym same) kept.reached, refl)) in
            (kept.units, follow_join (setting_for pools first inputs held today) so_far.ran (ran_of statement goes.added goes.said goes.files ∷ []) units was.0 kept.units was.1 here, settled_with no_inputs kept.settled)

  -- ---- what is left behind it

  module _ {files_new : Files} {taken_new : Option (List ℕ)} {faults_new : ℕ} {ran : List Ran} {under : Option Statement} {wanted : RunEnd} {after : After P}
      (leaves : LeavesAfter pools now.session held today now.steps.items (record { before = seen_files seen now.outs.items ins_now; after = files_new })
      (record { before = taken_now; after = taken_new; faults_before = faults_now; faults_after = faults_new }) ran under wanted after) where
    abbrev whole_out : SinkSeen
    whole_out = record { before = taken_first; after = taken_new; faults_before = faults_first; faults_after = faults_new }

    text_all : lines_of so_far.ran ++ printed_text ran under wanted ≡ printed_text (so_far.ran ++ ran) under wanted
    text_all =
        sym (append_assoc (lines_of so_far.ran) (lines_of ran) (started_line under ++ last_line wanted))
        ∙ ap (λ (l : List ℕ). l ++ (started_line under ++ last_line wanted)) (sym (lines_join so_far.ran ran))

    steps_all : steps_of so_far.ran ++ (steps_of ran ++ leaves.added) ≡ steps_of (so_far.ran ++ ran) ++ leaves.added
    steps_all = sym (append_assoc (steps_of so_far.ran) (steps_of ran) leaves.added) ∙ ap (λ (l : List Step). l ++ leaves.added) (sym (steps_join so_far.ran ran))

    join_text : Appends taken_now taken_new (printed_text ran under wanted) → Appends taken_first taken_new (lines_of so_far.ran ++ printed_text ran under wanted)
    join_text all = appends_then taken_first taken_now taken_new (lines_of so_far.ran) (printed_text ran under wanted) so_far.taken all

    join_rose : Rose faults_now faults_new → Rose faults_first faults_new
    join_rose rose = rose_since faults_first faults_now faults_new so_far.later rose

    prints_all : Prints whole_out after.end (lines_of so_far.ran ++ printed_text ran under wanted)
    prints_all = record {
      some = appends_some_then taken_first taken_now taken_new (lines_of so_far.ran) (printed_text ran under wanted) so_far.taken leaves.printed.some;
      all = elim leaves.printed.all [
        | inl all ↦ inl (join_text all)
        | inr cut ↦ inr (elim cut [
          | inl rose ↦ inl (join_rose rose)
          | inr memory ↦ inr memory
        ])
      ];
      whole = λ code is. join_text (leaves.printed.whole code is);
      sink = λ is.
          let sink = leaves.printed.sink is in
          (join_rose sink.0, appends_less_then taken_first taken_now taken_new (lines_of so_far.ran) (printed_text ran under wanted) so_far.taken sink.1);
      later = omega (arith, so_far.later, leaves.printed.later);
    }

    units_all : (inputs : Inputs) → ForUnits pools first (RunOn (setting_for pools first inputs held today) (so_far.ran ++ ran) under leaves.cut leaves.added after.pending)
    units_all inputs told units settled =
        let was = so_far.units inputs told units settled in
        let on = leaves.means inputs told was.0 (subst (λ (f : Facts). IsSettled f (pools.disk now.session.pool).state was.0) (sym (facts_same pools no_inputs so_far.facts)) was.2) in
        let same = subst (λ (s : Setting). RunOn s ran under leaves.cut leaves.added after.pending was.0) (setting_same pools inputs held today so_far.facts) on in
        (same.0, follow_join (setting_for pools first inputs held today) so_far.ran ran units was.0 same.0 was.1 same.1, same.2)

    pub leaves_all : LeavesAfter pools first held today [] (record { before = files_first; after = files_new }) whole_out (so_far.ran ++ ran) under wanted after
    leaves_all = record {
      added = leaves.added;
      reports = All-append IsReported so_far.ran ran so_far.reports leaves.reports;
      steps_are = leaves.steps_are ∙ ap (λ (l : List Step). l ++ (steps_of ran ++ leaves.added)) so_far.steps_are ∙ steps_all;
      none_added = leaves.none_added;
      none_pending = leaves.none_pending;
      end_is = leaves.end_is;
      printed = subst (λ (l : List ℕ). Prints whole_out after.end l) text_all prints_all;
      earlier = took_then taken_first taken_now taken_new faults_first faults_now faults_new so_far.ran ran under so_far.taken leaves.earlier;
      run = subst (λ (l : List Step). IsRun pools.tells (shown pools first.pool) (shown pools after.pool) (after.end ≢ ends.Pool) l after.pending) steps_all
          (run_then so_far.run (tt {0}) leaves.run);
      quiet = λ listed. leaves.quiet (all_back IsListing so_far.ran ran listed.0, listed.1) ∙ so_far.quiet (all_front IsListing so_far.ran ran listed.0);
      cut = leaves.cut;
      handed = record {
        found = hand_join so_far.ran ran files_first (seen_files seen now.outs.items ins_now) leaves.cut.before so_far.handed leaves.handed.found;
        kept = leaves.handed.kept;
        left = leaves.handed.left;
        same = leaves.handed.same;
      };
      means = units_all;
    }

  -- ---- it was stopped within a statement

  module _ {statement : Statement} {rest : Plan} {then' : Codes} (next_is : next_of left codes ≡ Command statement rest then') where
    front_of : (one : Ran) → one.statement ≡ statement → IsFront plan (so_far.ran ++ (one ∷ [])) None
    front_of one same = (rest, answered one.report.code then', leaves_more plan left rest codes then' zero_codes statement so_far.ran one so_far.leaves same next_is, tt)

    front_before : (under : Option Statement) → IfSome under (IsNext left codes) → IsFront plan (so_far.ran ++ []) under
    front_before under turn = (left, codes, subst (λ (r : List Ran). Leaves plan zero_codes (answers_of r) left codes) (sym (append-nil so_far.ran)) so_far.leaves, turn)

    run_stopped : (ran : List Ran) (under : Option Statement) (wanted : RunEnd) → IsStoppedIn statement ran under wanted → HasRun plan (so_far.ran ++ ran) under wanted
    run_stopped ran under wanted stop = elim stop [
      | inl ended ↦
          rw (ended.0.2, ended.1)
          (elim ended.2 [
            | inl sink ↦ rw sink (refl, not_none so_far.ran ended.0.0, front_of ended.0.0 ended.0.1)
            | inr memory ↦ rw memory (front_of ended.0.0 ended.0.1)
          ])
      | inr not ↦ elim not [
        | inl cut ↦
            rw (cut.0, cut.1)
            (elim cut.2 [
              | inl pool ↦ rw pool ((statement, refl), front_before (Some statement) (rest, then', next_is))
              | inr memory ↦ rw memory (front_before (Some statement) (rest, then', next_is))
            ])
        | inr none ↦ rw (none.0, none.1, none.2) (front_before None tt)
      ]
    ]

    pub ends_stopped : {ins_new : List InSeen} {taken_new : Option (List ℕ)} {faults_new : ℕ} (left_behind : Left P B Own)
        → EndsOne pools seen ins_now ins_new now statement held today taken_now taken_new faults_now faults_new (Err left_behind)
        → EndsScript pools first plan held today (record { before = files_first; after = seen_files seen left_behind.outs.items ins_new })
        (record { before = taken_first; after = taken_new; faults_before = faults_first; faults_after = faults_new }) (after_of left_behind)
    ends_stopped {ins_new} {taken_new} {faults_new} left_behind stop = record {
      ran = so_far.ran ++ stop.0;
      under = stop.1;
      wanted = stop.2;
      statements = run_stopped stop.0 stop.1 stop.2 stop.3;
      leaves = leaves_all stop.4;
    }

  -- ---- all statements ran

  module _ {then' : Codes} (end_is : next_of left codes ≡ End then') (code : ℕ) (code_is : code ≡ then'.maxcc) (taken_new : Option (List ℕ)) (faults_new : ℕ) (result : RunEnd)
      (closes : ((result ≡ ends.Whole code) × Appends taken_now taken_new (last_line (ends.Whole code)))
      ⊎ ((result ≡ ends.Sink) × AppendsLess taken_now taken_new (last_line (ends.Whole code)) × Rose faults_now faults_new))
      (later : faults_now ≤ faults_new) where
    abbrev now_out : SinkSeen
    now_out = record { before = taken_now; after = taken_new; faults_before = faults_now; faults_after = faults_new }

    abbrev now_files : Files
    now_files = seen_files seen now.outs.items ins_now

    whole_run : LeavesAfter pools now.session held today now.steps.items (record { before = now_files; after = now_files }) now_out [] None (ends.Whole code)
        (record { pool = now.session.pool; steps = now.steps.items; pending = None; end = result })
    whole_run = record {
      added = [];
      reports = All-nil IsReported;
      steps_are = sym (append-nil now.steps.items);
      none_added = refl;
      none_pending = λ apart. refl;
      end_is = elim closes [
        | inl all ↦ inl all.0
        | inr sink ↦ inr (sink.0, (code, refl))
      ];
      printed = elim closes [
        | inl all ↦ record {
          some = all_some taken_now taken_new (last_line (ends.Whole code)) all.1;
          all = inl all.1;
          whole = λ other is. all.1;
          sink = λ is. absurd (whole_no_sink all.0 is);
          later = later;
        }
        | inr sink ↦ record {
          some = less_some taken_now taken_new (last_line (ends.Whole code)) sink.1;
          all = inr (inl sink.2);
          whole = λ other is. absurd (sink_no_whole sink.0 is);
          sink = λ is. (sink.2, sink.1);
          later = later;
        }
      ];
      earlier = elim closes [
        | inl all ↦ took_none now_out (last_line (ends.Whole code)) (all_some taken_now taken_new (last_line (ends.Whole code)) all.1)
        | inr sink ↦ took_none now_out (last_line (ends.Whole code)) (less_some taken_now taken_new (last_line (ends.Whole code)) sink.1)
      ];
      run = run_idle (elim closes [
        | inl all ↦ whole_no_pool all.0
        | inr sink ↦ sink_no_pool sink.0
      ]);
      quiet = λ listed. refl;
      cut = record { before = now_files; after = now_files };
      handed = record { found = refl; kept = tt {0}; left = refl; same = refl };
      means = λ inputs told units settled. (units, refl, (refl, refl));
    }

    pub ends_whole : (left_behind : Left P B Own) → left_behind.pool ≡ now.session.pool → left_behind.outs.items ≡ now.outs.items → left_behind.steps.items ≡ now.steps.items → left_behind.pending ≡ None
        → left_behind.end ≡ result
        → EndsScript pools first plan held today (record { before = files_first; after = seen_files seen left_behind.outs.items ins_now })
        (record { before = taken_first; after = taken_new; faults_before = faults_first; faults_after = faults_new }) (after_of left_behind)
    ends_whole left_behind pool outs steps pending end =
        subst (λ (f : Files). EndsScript pools first plan held today (record { before = files_first; after = f })
        (record { before = taken_first; after = taken_new; faults_before = faults_first; faults_after = faults_new }) (after_of left_behind)) (λ i. seen_files seen (sym outs i) ins_now)
        (subst (λ (a : After P). EndsScript pools first plan held today (record { before = files_first; after = now_files })
        (record { before = taken_first; after = taken_new; faults_before = faults_first; faults_after = faults_new }) a)
        (after_parts left_behind pool steps pending end) (record {
          ran = so_far.ran ++ [];
          under = None;
          wanted = ends.Whole code;
          statements = (
            refl,
            (then', (left, codes, subst (λ (r : List Ran). Leaves plan zero_codes (answers_of r) left codes) (sym (append-nil so_far.ran)) so_far.leaves, end_is), code_is),
          );
          leaves = leaves_all whole_run;
        }))
