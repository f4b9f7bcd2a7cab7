-- How one statement of a run ends, from how its parts do.
use Rattle.std.proofs.Common.{◌≡◌, ◌≢◌, ◌⊎◌, inl, inr, ℕ, ◌≤◌, List, [], ◌∷◌, ◌++◌, map, Option, Some, None, Result, Ok, Err, refl, sym, ap, subst, ◌∙◌, arith}
use Rattle.std.proofs.lemmas.List.{append-nil}
use Rattle.std.proofs.lemmas.List.Elements.{All-nil, All-cons, All-head}
use Rattle.by_rules.specs.declared.day.Day.{Day}
use Rattle.dasd_pool.specs.Count.{Rose}
use Rattle.dasd_pool.specs.Stream.{Appends, AppendsSome}
use Rattle.dasd_pool.specs.declared.pool.Pool.{Ghosts}
use Rattle.dump_fmt.specs.declared.outs.OutDd.{OutDd}
use Rattle.dump_fmt.specs.Outs.{OutSeen, InSeen, FilesSeen}
use Rattle.enq_table.specs.declared.hold.Hold.{Hold}
use Rattle.move_core.specs.declared.steps.Step.{Step}
use Rattle.move_core.specs.Facts.{Inputs, shown}
use Rattle.move_core.proofs.Resuming.{settled_with}
use Rattle.move_core.specs.Runs.{IsRun}
use Rattle.move_core.proofs.Running.{run_idle, run_less}
use Rattle.run_lines.specs.declared.ending.RunEnd.{RunEnd}
use Rattle.run_lines.specs.declared.ending.RunEnd.TheVariants as ends
use Rattle.run_lines.specs.Endings.{last_line}
use Rattle.run_lines.specs.Texts.{AppendsLess, Tells}
use Rattle.run_lines.proofs.Appending.{appends_none}
use Rattle.sysin_lang.specs.declared.command.Statement.{Statement}
use Rattle.job_ops.specs.unit_session.Sessions.{SessionView}
use Rattle.job_ops.specs.declared.report.Report.{Report}
use Rattle.job_ops.specs.job_turns.job_acts.Acting.{KeepsFacts}
use Rattle.job_ops.specs.job_turns.job_steps.Units.{facts_for, ForUnits}
use Rattle.job_ops.specs.Ends.{OnlyReads}
use Rattle.job_ops.specs.Meaning.{IsReport, MeansStatement, IsCutCommand}
use Rattle.job_ops.specs.job_turns.Setting.{setting_for}
use Rattle.job_script.specs.declared.left.Left.{Left}
use Rattle.job_script.specs.declared.run.Between.{Between}
use Rattle.job_script.specs.Ends.{After, after_of, SinkSeen, Prints, LeavesAfter}
use Rattle.job_outputs.specs.Kept.{KeepsUsed}
use Rattle.job_script.specs.One.{EndsReport, EndsOne, KeepsOuts, seen_files}
use Rattle.job_script.proofs.Earlier.{took_none}
use Rattle.job_script.specs.Runs.{Ran, IsReported, IsListing, KeepsFiles, steps_of, started_line, lines_in, lines_of, printed_text, RunOn}

-- ---- ends that differ

abbrev kind_of : RunEnd → ℕ
kind_of (ends.Whole code) = 0
kind_of ends.Pool = 1
kind_of ends.Memory = 2
kind_of ends.Sink = 3
kind_of _ = 4

pub memory_no_pool : {end : RunEnd} → end ≡ ends.Memory → end ≢ ends.Pool
memory_no_pool {end} is other = absurd (omega (arith, ap (λ (e : RunEnd). kind_of e) (sym is ∙ other)))

pub memory_no_sink : {end : RunEnd} → end ≡ ends.Memory → end ≢ ends.Sink
memory_no_sink {end} is other = absurd (omega (arith, ap (λ (e : RunEnd). kind_of e) (sym is ∙ other)))

pub memory_no_whole : {end : RunEnd} {code : ℕ} → end ≡ ends.Memory → end ≢ ends.Whole code
memory_no_whole {end} {code} is other = absurd (omega (arith, ap (λ (e : RunEnd). kind_of e) (sym is ∙ other)))

pub sink_no_pool : {end : RunEnd} → end ≡ ends.Sink → end ≢ ends.Pool
sink_no_pool {end} is other = absurd (omega (arith, ap (λ (e : RunEnd). kind_of e) (sym is ∙ other)))

pub sink_no_whole : {end : RunEnd} {code : ℕ} → end ≡ ends.Sink → end ≢ ends.Whole code
sink_no_whole {end} {code} is other = absurd (omega (arith, ap (λ (e : RunEnd). kind_of e) (sym is ∙ other)))

pub pool_no_sink : {end : RunEnd} → end ≡ ends.Pool → end ≢ ends.Sink
pool_no_sink {end} is other = absurd (omega (arith, ap (λ (e : RunEnd). kind_of e) (sym is ∙ other)))

pub pool_no_whole : {end : RunEnd} {code : ℕ} → end ≡ ends.Pool → end ≢ ends.Whole code
pool_no_whole {end} {code} is other = absurd (omega (arith, ap (λ (e : RunEnd). kind_of e) (sym is ∙ other)))

pub whole_no_pool : {end : RunEnd} {code : ℕ} → end ≡ ends.Whole code → end ≢ ends.Pool
whole_no_pool {end} {code} is other = absurd (omega (arith, ap (λ (e : RunEnd). kind_of e) (sym is ∙ other)))

pub whole_no_sink : {end : RunEnd} {code : ℕ} → end ≡ ends.Whole code → end ≢ ends.Sink
whole_no_sink {end} {code} is other = absurd (omega (arith, ap (λ (e : RunEnd). kind_of e) (sym is ∙ other)))

-- ---- what is left, by its parts

pub after_parts : {P B : Type 0} {Own : B → Type 0} (left : Left P B Own) {pool : P} {steps : List Step} {pending : Option Step} {end : RunEnd} → left.pool ≡ pool → left.steps.items ≡ steps
    → left.pending ≡ pending → left.end ≡ end → record { pool = pool; steps = steps; pending = pending; end = end } ≡ after_of left
after_parts left p s q e = λ i. record { pool = sym p i; steps = sym s i; pending = sym q i; end = sym e i }

-- ---- outputs and inputs

-- the same of outputs and inputs that stay
pub keeps_files : {B X C : Type 0} {Own : B → Type 0} (seen : OutDd B Own → OutSeen) (seen_in : X → InSeen) {outs given : List (OutDd B Own)} {new old : List X} → (C → outs ≡ given)
    → (C → new ≡ old) → C → seen_files seen outs (map seen_in new) ≡ seen_files seen given (map seen_in old)
keeps_files seen seen_in outs ins none = λ i. seen_files seen (outs none i) (map seen_in (ins none i))

-- ---- units

-- a whole statement, by itself
pub means_one : {P : Type 0} (pools : Ghosts P) (session next : SessionView P) {held : List Hold} {today : Day} (one : Ran) (cut : FilesSeen)
    → IsRun pools.tells (shown pools session.pool) (shown pools next.pool) (Unit {0}) one.steps None
    → ((inputs : Inputs) → ForUnits pools session (λ units. MeansStatement (setting_for pools session inputs held today) one.statement.command one.files units one.steps one.report))
    → (inputs : Inputs) → ForUnits pools session (RunOn (setting_for pools session inputs held today) (one ∷ []) None cut [] None)
means_one {P} pools session next {held} {today} one cut run means inputs told units settled =
    let kept = (run.keeps told (facts_for pools session inputs) refl (tt {0}) units (settled_with inputs settled)).settled (tt {0}) in
    (kept.units, (means inputs told units settled, (kept.units, kept.reached, refl)), (refl, refl))

module _ {P B : Type 0} {Own : B → Type 0} (pools : Ghosts P) (seen : OutDd B Own → OutSeen) (ins_before ins_after : List InSeen) (before : Between P B Own) (statement : Statement)
    (held : List Hold) (today : Day) (taken_before taken_after : Option (List ℕ)) (faults_before faults_after : ℕ) where
  abbrev out : SinkSeen
  out = record { before = taken_before; after = taken_after; faults_before = faults_before; faults_after = faults_after }

  -- the outputs and inputs as the statement finds them, and as these outputs leave them
  abbrev pub files_with : List (OutDd B Own) → FilesSeen
  files_with outs = record { before = seen_files seen before.outs.items ins_before; after = seen_files seen outs ins_after }

  abbrev Ends : Result (Between P B Own) (Left P B Own) → Type 0
  Ends result = EndsOne pools seen ins_before ins_after before statement held today taken_before taken_after faults_before faults_after result

  abbrev Leaves : List (OutDd B Own) → List Ran → Option Statement → RunEnd → After P → Type 0
  Leaves outs ran under wanted left = LeavesAfter pools before.session held today before.steps.items (files_with outs) out ran under wanted left

  -- the same of outputs under another name
  same_after : {outs others : List (OutDd B Own)} → outs ≡ others → seen_files seen outs ins_after ≡ seen_files seen others ins_after
  same_after same = λ i. seen_files seen (same i) ins_after

  -- there was no memory to begin
  pub not_begun : (left : Left P B Own) → left.pool ≡ before.session.pool → left.outs.items ≡ before.outs.items → ins_after ≡ ins_before → left.steps.items ≡ before.steps.items
      → left.pending ≡ None → left.end ≡ ends.Memory → taken_after ≡ taken_before → faults_after ≡ faults_before → Ends (Err left)
  not_begun left pool outs ins steps pending end taken faults = (
    [],
    None,
    ends.Memory,
    inr (inr (refl, refl, refl)),
    subst (λ (a : After P). Leaves left.outs.items [] None ends.Memory a) (after_parts left pool steps pending end) (record {
      added = [];
      reports = All-nil IsReported;
      steps_are = sym (append-nil before.steps.items);
      none_added = refl;
      none_pending = λ apart. refl;
      end_is = inl refl;
      printed = record {
        some = (0, omega arith, nothing);
        all = inl nothing;
        whole = λ code is. absurd (memory_no_whole refl is);
        sink = λ is. absurd (memory_no_sink refl is);
        later = omega (arith, faults);
      };
      earlier = ([], nothing);
      run = run_idle (memory_no_pool refl);
      quiet = λ listed. refl;
      cut = files_with left.outs.items;
      handed = record { found = refl; kept = tt {0}; left = refl; same = λ i. seen_files seen (outs i) (ins i) };
      means = λ inputs told units settled. (units, refl, (refl, refl));
    }),
  )
    where
      nothing : Appends taken_before taken_after []
      nothing = subst (λ (t : Option (List ℕ)). Appends taken_before t []) (sym taken) (appends_none taken_before)

  -- ---- it ended, and its lines were written or not

  module _ (session : SessionView P) (outs : List (OutDd B Own)) (said : Report) (steps added : List Step) (steps_are : steps ≡ before.steps.items ++ added) (facts : KeepsFacts pools before.session session)
      (run : IsRun pools.tells (shown pools before.session.pool) (shown pools session.pool) (Unit {0}) added None)
      (means : (inputs : Inputs) → ForUnits pools before.session (λ units. MeansStatement (setting_for pools before.session inputs held today) statement.command (files_with outs) units added said))
      (report_is : IsReport statement.command said) (quiet : OnlyReads statement.command → session.pool ≡ before.session.pool) (kept : KeepsFiles statement (files_with outs)) where
    abbrev one : Ran
    one = record { statement = statement; steps = added; report = said; files = files_with outs }

    text_is : (wanted : RunEnd) → last_line wanted ≡ [] → lines_in statement.number said.messages ≡ printed_text (one ∷ []) None wanted
    text_is wanted none =
        sym (ap (λ (l : List ℕ). lines_of (one ∷ []) ++ l) none ∙ append-nil (lines_of (one ∷ [])) ∙ append-nil (lines_in statement.number said.messages))

    steps_all : steps ≡ before.steps.items ++ (steps_of (one ∷ []) ++ [])
    steps_all = steps_are ∙ ap (λ (l : List Step). before.steps.items ++ l) (sym (append-nil (steps_of (one ∷ [])) ∙ append-nil added))

    ended_all : (end : RunEnd) → end ≢ ends.Pool → IsRun pools.tells (shown pools before.session.pool) (shown pools session.pool) (end ≢ ends.Pool) (steps_of (one ∷ []) ++ []) None
    ended_all end apart =
        subst (λ (l : List Step). IsRun pools.tells (shown pools before.session.pool) (shown pools session.pool) (end ≢ ends.Pool) l None)
        (sym (append-nil (steps_of (one ∷ [])) ∙ append-nil added))
        (run_less (λ p. tt {0}) (λ not. absurd (not apart)) run)

    stopped_in : (left : List (OutDd B Own)) (end : RunEnd) → left ≡ outs → end ≢ ends.Pool → last_line end ≡ [] → Prints out end (lines_in statement.number said.messages)
        → Leaves left (one ∷ []) None end (record { pool = session.pool; steps = steps; pending = None; end = end })
    stopped_in left end same apart none prints = record {
      added = [];
      reports = All-cons IsReported one [] report_is (All-nil IsReported);
      steps_are = steps_all;
      none_added = refl;
      none_pending = λ apart. refl;
      end_is = inl refl;
      printed = subst (λ (l : List ℕ). Prints out end l) (text_is end none) prints;
      earlier = took_none out (lines_in statement.number said.messages) prints.some;
      run = ended_all end apart;
      quiet = λ listed. quiet (All-head IsListing one [] listed.0);
      cut = record { before = seen_files seen outs ins_after; after = seen_files seen outs ins_after };
      handed = record { found = (refl, kept, refl); kept = tt {0}; left = same_after (sym same); same = refl };
      means = means_one pools before.session session one (record { before = seen_files seen outs ins_after; after = seen_files seen outs ins_after }) run means;
    }

    by_stop : (left : Left P B Own) → left.outs.items ≡ outs → left.pool ≡ session.pool → left.steps.items ≡ steps → left.pending ≡ None
        → AppendsSome taken_before taken_after (lines_in statement.number said.messages) → faults_before ≤ faults_after
        → ((left.end ≡ ends.Sink) × Rose faults_before faults_after × AppendsLess taken_before taken_after (lines_in statement.number said.messages)) ⊎ (left.end ≡ ends.Memory)
        → Ends (Err left)
    by_stop left same pool at pending some later why = elim why [
      | inl sink ↦ (
        one ∷ [],
        None,
        ends.Sink,
        inl ((one, refl, refl), refl, inl refl),
        subst (λ (a : After P). Leaves left.outs.items (one ∷ []) None ends.Sink a) (after_parts left pool at pending sink.0)
            (stopped_in left.outs.items ends.Sink same (sink_no_pool refl) refl (record {
              some = some;
              all = inr (inl sink.1);
              whole = λ code is. absurd (sink_no_whole refl is);
              sink = λ is. (sink.1, sink.2);
              later = later;
            })),
      )
      | inr memory ↦ (
        one ∷ [],
        None,
        ends.Memory,
        inl ((one, refl, refl), refl, inr refl),
        subst (λ (a : After P). Leaves left.outs.items (one ∷ []) None ends.Memory a) (after_parts left pool at pending memory)
            (stopped_in left.outs.items ends.Memory same (memory_no_pool refl) refl (record {
              some = some;
              all = inr (inr refl);
              whole = λ code is. absurd (memory_no_whole refl is);
              sink = λ is. absurd (memory_no_sink refl is);
              later = later;
            })),
      )
    ]

    pub reported : (result : Result (Between P B Own) (Left P B Own)) → EndsReport taken_before taken_after faults_before faults_after statement said session outs steps result → Ends result
    reported (Ok next) told = record {
      added = added;
      said = said;
      steps_are = told.1 ∙ steps_are;
      code_is = told.2;
      reported = report_is;
      taken = told.3;
      later = told.4;
      facts = subst (λ (s : SessionView P). KeepsFacts pools before.session s) (sym told.0) facts;
      run = subst (λ (s : SessionView P). IsRun pools.tells (shown pools before.session.pool) (shown pools s.pool) (Unit {0}) added None) (sym told.0) run;
      quiet = λ reads. ap (λ (s : SessionView P). s.pool) told.0 ∙ quiet reads;
      files = files_with outs;
      found = refl;
      left = same_after told.5;
      kept = kept;
      means = means;
    }
    reported (Err left) told = by_stop left told.6 told.0 told.1 told.2 told.3 told.4 told.5

    pub reported_outs : (result : Result (Between P B Own) (Left P B Own)) → KeepsUsed seen before.outs.items outs
        → EndsReport taken_before taken_after faults_before faults_after statement said session outs steps result → KeepsOuts seen before.outs.items result
    reported_outs (Ok next) keeps told = subst (KeepsUsed seen before.outs.items) (sym told.5) keeps
    reported_outs (Err left) keeps told = subst (KeepsUsed seen before.outs.items) (sym told.6) keeps

  -- ---- it was cut

  module _ (outs : List (OutDd B Own)) (added : List Step) (pending : Option Step)
      (means : (inputs : Inputs) → ForUnits pools before.session (λ units. IsCutCommand (setting_for pools before.session inputs held today) statement.command (files_with outs) units added pending)) where
    cut_on : (inputs : Inputs) → ForUnits pools before.session (RunOn (setting_for pools before.session inputs held today) [] (Some statement) (files_with outs) added pending)
    cut_on inputs told units settled = (units, refl, means inputs told units settled)

    -- by a pool that failed
    pub halted_in : (left : Left P B Own) (pool : P) (started : List ℕ) → KeepsFiles statement (files_with outs) → left.outs.items ≡ outs → started ≡ started_line (Some statement) → left.pool ≡ pool → left.steps.items ≡ before.steps.items ++ added
        → left.pending ≡ pending → left.end ≡ ends.Pool → IsRun pools.tells (shown pools before.session.pool) (shown pools pool) ⊥ added pending
        → Tells taken_before taken_after faults_before faults_after (started ++ last_line ends.Pool) → faults_before ≤ faults_after
        → (OnlyReads statement.command → ⊥) → Ends (Err left)
    halted_in left pool started kept same line at steps under end run tells later changes = (
      [],
      Some statement,
      ends.Pool,
      inr (inl (refl, refl, inl refl)),
      subst (λ (a : After P). Leaves left.outs.items [] (Some statement) ends.Pool a) (after_parts left at steps under end) (record {
        added = added;
        reports = All-nil IsReported;
        steps_are = refl;
        none_added = tt {0};
        none_pending = λ apart. absurd (apart refl);
        end_is = inl refl;
        printed = subst (λ (l : List ℕ). Prints out ends.Pool (l ++ last_line ends.Pool)) line (record {
          some = tells.some;
          all = elim tells.all [
            | inl all ↦ inl all
            | inr rose ↦ inr (inl rose)
          ];
          whole = λ code is. absurd (pool_no_whole refl is);
          sink = λ is. absurd (pool_no_sink refl is);
          later = later;
        });
        earlier = took_none out (started ++ last_line ends.Pool) tells.some;
        run = run_less (λ apart. apart refl) (λ apart. run.cause (λ never. never)) run;
        quiet = λ listed. absurd (changes listed.1);
        cut = files_with outs;
        handed = record { found = refl; kept = kept; left = same_after (sym same); same = tt };
        means = cut_on;
      }),
    )

  -- by want of memory
  pub short_in : (left : Left P B Own) (outs : List (OutDd B Own)) (session : SessionView P) (added : List Step) (started : List ℕ) → KeepsFiles statement (files_with outs)
      → left.outs.items ≡ outs → started ≡ started_line (Some statement) → left.pool ≡ session.pool
      → left.steps.items ≡ before.steps.items ++ added → left.pending ≡ None → left.end ≡ ends.Memory
      → IsRun pools.tells (shown pools before.session.pool) (shown pools session.pool) (Unit {0}) added None
      → ((inputs : Inputs) → ForUnits pools before.session (λ units. IsCutCommand (setting_for pools before.session inputs held today) statement.command (files_with outs) units added None))
      → AppendsSome taken_before taken_after started → faults_before ≤ faults_after → (OnlyReads statement.command → session.pool ≡ before.session.pool) → Ends (Err left)
  short_in left outs session added started kept same line at steps under end run means some later quiet = (
    [],
    Some statement,
    ends.Memory,
    inr (inl (refl, refl, inr refl)),
    subst (λ (a : After P). Leaves left.outs.items [] (Some statement) ends.Memory a) (after_parts left at steps under end) (record {
      added = added;
      reports = All-nil IsReported;
      steps_are = refl;
      none_added = tt {0};
      none_pending = λ apart. refl;
      end_is = inl refl;
      printed = subst (λ (l : List ℕ). Prints out ends.Memory l) (line ∙ sym (append-nil (started_line (Some statement)))) (record {
        some = some;
        all = inr (inr refl);
        whole = λ code is. absurd (memory_no_whole refl is);
        sink = λ is. absurd (memory_no_sink refl is);
        later = later;
      });
      earlier = took_none out started some;
      run = run_less (λ apart. tt {0}) (λ not. absurd (not (memory_no_pool refl))) run;
      quiet = λ listed. quiet listed.1;
      cut = files_with outs;
      handed = record { found = refl; kept = kept; left = same_after (sym same); same = tt };
      means = cut_on outs added None means;
    }),
  )
