-- How one statement of a run ends: words that link the parts of a run.
use Rattle.std.specs.Prelude.{◌≡◌, ◌⊎◌, ℕ, ◌≤◌, List, [], ◌∷◌, ◌++◌, map, Option, Some, None, Result, Ok, Err}
use Rattle.by_rules.specs.declared.day.Day.{Day}
use Rattle.dasd_pool.specs.Count.{Rose}
use Rattle.dasd_pool.specs.Stream.{Appends, AppendsSome}
use Rattle.dasd_pool.specs.declared.pool.Pool.{Ghosts}
use Rattle.dump_fmt.specs.declared.outs.OutDd.{OutDd}
use Rattle.dump_fmt.specs.Outs.{OutSeen, InSeen, Files, FilesSeen}
use Rattle.enq_table.specs.declared.hold.Hold.{Hold}
use Rattle.move_core.specs.declared.steps.Step.{Step}
use Rattle.move_core.specs.Facts.{Inputs, shown}
use Rattle.move_core.specs.Runs.{IsRun}
use Rattle.sysin_lang.specs.declared.command.Statement.{Statement}
use Rattle.job_ops.specs.unit_session.Sessions.{SessionView}
use Rattle.job_ops.specs.declared.report.Report.{Report}
use Rattle.job_ops.specs.job_turns.job_acts.Acting.{KeepsFacts}
use Rattle.job_ops.specs.job_turns.job_steps.Units.{ForUnits}
use Rattle.job_ops.specs.Ends.{OnlyReads}
use Rattle.job_ops.specs.Meaning.{IsReport, MeansStatement}
use Rattle.job_ops.specs.job_turns.Setting.{setting_for}
use Rattle.job_outputs.specs.Kept.{KeepsUsed}
use Rattle.run_lines.specs.declared.ending.RunEnd.{RunEnd}
use Rattle.run_lines.specs.declared.ending.RunEnd.TheVariants as ends
use Rattle.run_lines.specs.Texts.{AppendsLess}
use Rattle.job_script.specs.declared.left.Left.{Left}
use Rattle.job_script.specs.declared.run.Between.{Between}
use Rattle.job_script.specs.Ends.{LeavesAfter, after_of}
use Rattle.job_script.specs.Runs.{Ran, KeepsFiles, lines_in}

-- the outputs and inputs of a run, as contracts see them
abbrev pub seen_files : {B : Type 0} {Own : B → Type 0} → (OutDd B Own → OutSeen) → List (OutDd B Own) → List InSeen → Files
seen_files seen outs ins = record { outs = map seen outs; ins = ins }

-- the lines of a statement that ended were all taken, and the run goes on; or it was stopped within them, by the sink or by want of memory
abbrev pub EndsReport : {P B : Type 0} {Own : B → Type 0} → Option (List ℕ) → Option (List ℕ) → ℕ → ℕ → Statement → Report → SessionView P → List (OutDd B Own) → List Step
    → Result (Between P B Own) (Left P B Own) → Type 0
EndsReport before after faults_before faults_after statement said session outs steps (Ok between) =
    (between.session ≡ session) × (between.steps.items ≡ steps) × (between.code ≡ said.code)
    × Appends before after (lines_in statement.number said.messages) × (faults_before ≤ faults_after) × (between.outs.items ≡ outs)
EndsReport before after faults_before faults_after statement said session outs steps (Err left) =
    (left.pool ≡ session.pool) × (left.steps.items ≡ steps) × (left.pending ≡ None)
    × AppendsSome before after (lines_in statement.number said.messages) × (faults_before ≤ faults_after)
    × (((left.end ≡ ends.Sink) × Rose faults_before faults_after × AppendsLess before after (lines_in statement.number said.messages)) ⊎ (left.end ≡ ends.Memory))
    × (left.outs.items ≡ outs)

-- The statement ended, with these steps and this report, and the run goes on.
pub record GoesOn {P B : Type 0} {Own : B → Type 0} (pools : Ghosts P) (seen : OutDd B Own → OutSeen) (ins_before ins_after : List InSeen) (before : Between P B Own) (statement : Statement)
    (held : List Hold) (today : Day) (taken_before taken_after : Option (List ℕ)) (faults_before faults_after : ℕ) (next : Between P B Own) : Type 0 where
  pub added : List Step
  pub said : Report
  pub steps_are : next.steps.items ≡ before.steps.items ++ added
  pub code_is : next.code ≡ said.code
  pub reported : IsReport statement.command said
  pub taken : Appends taken_before taken_after (lines_in statement.number said.messages)
  pub later : faults_before ≤ faults_after
  pub facts : KeepsFacts pools before.session next.session
  pub run : IsRun pools.tells (shown pools before.session.pool) (shown pools next.session.pool) (Unit {0}) added None
  pub quiet : OnlyReads statement.command → next.session.pool ≡ before.session.pool
  pub files : FilesSeen
  pub found : files.before ≡ seen_files seen before.outs.items ins_before
  pub left : seen_files seen next.outs.items ins_after ≡ files.after
  pub kept : KeepsFiles statement files
  pub means : (inputs : Inputs) → ForUnits pools before.session (λ units. MeansStatement (setting_for pools before.session inputs held today) statement.command files units added said)

-- what a run is to be stopped by within a statement: the statement ended, or it was cut, or it didn't begin
abbrev pub IsStoppedIn : Statement → List Ran → Option Statement → RunEnd → Type 0
IsStoppedIn statement ran under wanted =
    (((one : Ran) × (one.statement ≡ statement) × (ran ≡ one ∷ [])) × (under ≡ None) × ((wanted ≡ ends.Sink) ⊎ (wanted ≡ ends.Memory)))
    ⊎ (((ran ≡ []) × (under ≡ Some statement) × ((wanted ≡ ends.Pool) ⊎ (wanted ≡ ends.Memory)))
    ⊎ ((ran ≡ []) × (under ≡ None) × (wanted ≡ ends.Memory)))

-- how a statement of a run ended
abbrev pub EndsOne : {P B : Type 0} {Own : B → Type 0} → Ghosts P → (OutDd B Own → OutSeen) → List InSeen → List InSeen → Between P B Own → Statement → List Hold → Day
    → Option (List ℕ) → Option (List ℕ) → ℕ → ℕ → Result (Between P B Own) (Left P B Own) → Type 0
EndsOne pools seen ins_before ins_after before statement held today taken_before taken_after faults_before faults_after (Ok next) =
    GoesOn pools seen ins_before ins_after before statement held today taken_before taken_after faults_before faults_after next
EndsOne pools seen ins_before ins_after before statement held today taken_before taken_after faults_before faults_after (Err left) =
    (ran : List Ran) × (under : Option Statement) × (wanted : RunEnd) × IsStoppedIn statement ran under wanted
    × LeavesAfter pools before.session held today before.steps.items
    (record { before = seen_files seen before.outs.items ins_before; after = seen_files seen left.outs.items ins_after })
    (record { before = taken_before; after = taken_after; faults_before = faults_before; faults_after = faults_after }) ran under wanted (after_of left)

-- The outputs of a run between two statements, or of one that was stopped, have their names; one that was used before is the very same, and so is one that is unused
-- still.
abbrev pub KeepsOuts : {P B : Type 0} {Own : B → Type 0} → (OutDd B Own → OutSeen) → List (OutDd B Own) → Result (Between P B Own) (Left P B Own) → Type 0
KeepsOuts seen outs (Ok next) = KeepsUsed seen outs next.outs.items
KeepsOuts seen outs (Err left) = KeepsUsed seen outs left.outs.items
