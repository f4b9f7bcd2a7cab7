-- How a run of a script over a session ends.
use Rattle.std.specs.Prelude.{◌≡◌, ◌≢◌, ◌⊎◌, ℕ, ◌≤◌, ◌-◌, List, [], ◌++◌, All, length, take, Option, Some, None, IfNone}
use Rattle.by_rules.specs.declared.day.Day.{Day}
use Rattle.dasd_pool.specs.Count.{Rose}
use Rattle.dasd_pool.specs.Stream.{Appends, AppendsSome}
use Rattle.dasd_pool.specs.declared.pool.Pool.{Ghosts}
use Rattle.enq_table.specs.declared.hold.Hold.{Hold}
use Rattle.move_core.specs.declared.steps.Step.{Step}
use Rattle.move_core.specs.Facts.{Inputs, shown}
use Rattle.move_core.specs.Runs.{IsRun}
use Rattle.sysin_lang.specs.declared.command.Statement.{Statement}
use Rattle.sysin_lang.specs.Flow.{Plan}
use Rattle.job_ops.specs.unit_session.Sessions.{SessionView}
use Rattle.job_ops.specs.job_turns.job_steps.Units.{ForUnits}
use Rattle.dump_fmt.specs.Outs.{FilesSeen}
use Rattle.job_ops.specs.job_turns.Setting.{setting_for}
use Rattle.run_lines.specs.declared.ending.RunEnd.{RunEnd}
use Rattle.run_lines.specs.declared.ending.RunEnd.TheVariants as ends
use Rattle.run_lines.specs.Texts.{AppendsLess}
use Rattle.job_script.specs.declared.left.Left.{Left}
use Rattle.job_script.specs.Runs.{Ran, HandsOn, IsReported, OnlyListed, steps_of, lines_of, RunOn, HasRun, printed_text}

-- what a run leaves
pub record After (P : Type 0) : Type 0 where
  pub pool : P
  pub steps : List Step
  pub pending : Option Step
  pub end : RunEnd

abbrev pub after_of : {P B : Type 0} {Own : B → Type 0} → Left P B Own → After P
after_of left = record { pool = left.pool; steps = left.steps.items; pending = left.pending; end = left.end }

-- what a sink took, where it tells, and its count of faults, before and after
pub record SinkSeen : Type 0 where
  pub before : Option (List ℕ)
  pub after : Option (List ℕ)
  pub faults_before : ℕ
  pub faults_after : ℕ

-- the run ended as it was to; or all statements ran, and the last line was not taken
abbrev pub IsEndOf : RunEnd → RunEnd → Type 0
IsEndOf wanted end = (end ≡ wanted) ⊎ ((end ≡ ends.Sink) × ((code : ℕ) × (wanted ≡ ends.Whole code)))

-- A front of a text was taken: all of it, unless the sink's count rose or memory ran out; and in any case where all statements ran. Where the run ends with the sink,
-- its count rose, and it didn't take all.
pub record Prints (out : SinkSeen) (end : RunEnd) (text : List ℕ) : Type 0 where
  pub some : AppendsSome out.before out.after text
  pub all : Appends out.before out.after text ⊎ (Rose out.faults_before out.faults_after ⊎ (end ≡ ends.Memory))
  pub whole : (code : ℕ) → end ≡ ends.Whole code → Appends out.before out.after text
  pub sink : end ≡ ends.Sink → Rose out.faults_before out.faults_after × AppendsLess out.before out.after text
  pub later : out.faults_before ≤ out.faults_after

-- the sink took this text first, as far as it tells
abbrev pub Took : SinkSeen → List ℕ → Type 0
Took out text = (more : List ℕ) × Appends out.before out.after (text ++ more)

-- the statements that ended before the last one began
abbrev pub ended_before : List Ran → Option Statement → List Ran
ended_before ran (Some statement) = ran
ended_before ran None = take (length ran - 1) ran

-- What a run leaves that began on a session, after statements that ended and one that was cut, if one was: no step of one was done unless the lines of all before it were
-- taken. Only one that was cut adds steps of its own, and only where the pool failed one is under way. The steps of the run before are given.
pub record LeavesAfter {P : Type 0} (pools : Ghosts P) (session : SessionView P) (held : List Hold) (today : Day) (before : List Step) (files : FilesSeen) (out : SinkSeen)
    (ran : List Ran) (under : Option Statement) (wanted : RunEnd) (left : After P) : Type 0 where
  pub added : List Step
  pub reports : All IsReported ran
  pub steps_are : left.steps ≡ before ++ (steps_of ran ++ added)
  pub none_added : IfNone under (added ≡ [])
  pub none_pending : left.end ≢ ends.Pool → left.pending ≡ None
  pub end_is : IsEndOf wanted left.end
  pub printed : Prints out left.end (printed_text ran under wanted)
  pub earlier : Took out (lines_of (ended_before ran under))
  pub run : IsRun pools.tells (shown pools session.pool) (shown pools left.pool) (left.end ≢ ends.Pool) (steps_of ran ++ added) left.pending
  pub quiet : OnlyListed ran under → left.pool ≡ session.pool
  pub cut : FilesSeen
  pub handed : HandsOn files ran under cut
  pub means : (inputs : Inputs) → ForUnits pools session (RunOn (setting_for pools session inputs held today) ran under cut added left.pending)

-- A run of a script: its statements are those of its plan, by their codes.
pub record EndsScript {P : Type 0} (pools : Ghosts P) (session : SessionView P) (plan : Plan) (held : List Hold) (today : Day) (files : FilesSeen) (out : SinkSeen) (left : After P) : Type 0 where
  pub ran : List Ran
  pub under : Option Statement
  pub wanted : RunEnd
  pub statements : HasRun plan ran under wanted
  pub leaves : LeavesAfter pools session held today [] files out ran under wanted left
