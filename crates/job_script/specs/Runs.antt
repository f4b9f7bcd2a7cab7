-- What a run of a script does to units, and what it prints.
use Rattle.std.specs.Prelude.{◌≡◌, ◌≢◌, ℕ, List, [], ◌∷◌, ◌++◌, All, map, Option, Some, None, IfSome, IfNone}
use Rattle.std.specs.List.{flat_map}
use Rattle.volume_model.specs.Unit.{UnitModel}
use Rattle.dump_fmt.specs.Outs.{Files, FilesSeen}
use Rattle.move_core.specs.declared.steps.Step.{Step}
use Rattle.move_core.specs.Steps.{Reaches}
use Rattle.sysin_lang.specs.declared.command.Statement.{Statement}
use Rattle.sysin_lang.specs.Flow.{Codes, Plan, Command, zero_codes, next_of, Leaves, IsRun}
use Rattle.job_lines.specs.declared.message.Message.{Message}
use Rattle.job_lines.specs.declared.message.Message.TheVariants as messages
use Rattle.job_lines.specs.Lines.{line}
use Rattle.job_ops.specs.declared.report.Report.{Report}
use Rattle.job_ops.specs.Ends.{OnlyReads}
use Rattle.job_ops.specs.Meaning.{verb_of, CallsNoFile, IsReport, MeansStatement, IsCutCommand}
use Rattle.job_ops.specs.job_turns.Setting.{Setting}
use Rattle.run_lines.specs.declared.ending.RunEnd.{RunEnd}
use Rattle.run_lines.specs.declared.ending.RunEnd.TheVariants as ends
use Rattle.run_lines.specs.Endings.{last_line}

-- A statement that ended: its steps, what it said, and the outputs and inputs as it found and left them.
pub record Ran : Type 0 where
  pub statement : Statement
  pub steps : List Step
  pub report : Report
  pub files : FilesSeen

-- its report begins and ends with the lines of its command, and its code is that of its gravest message
abbrev pub IsReported : Ran → Type 0
IsReported one = IsReport one.statement.command one.report

-- it only reads
abbrev pub IsListing : Ran → Type 0
IsListing one = OnlyReads one.statement.command

-- statements that ran, and one that was cut, if one was, change nothing
abbrev pub OnlyListed : List Ran → Option Statement → Type 0
OnlyListed ran under = All IsListing ran × IfSome under (λ statement. OnlyReads statement.command)

-- ---- what was done

-- the steps of statements, one after the other
abbrev pub steps_of : List Ran → List Step
steps_of ran = flat_map (λ one. one.steps) ran

-- Statements ran one after the other, each as it means on the units at its time, and these units are left.
abbrev pub Follow : Setting → List Ran → List UnitModel → List UnitModel → Type 0
Follow setting [] units after = after ≡ units
Follow setting (one ∷ more) units after =
    MeansStatement setting one.statement.command one.files units one.steps one.report
    × ((between : List UnitModel) × Reaches setting.facts units one.steps between × Follow setting more between after)

-- the statement that was cut, if one was, had done these steps, and another may be under way
abbrev pub IsUnderWay : Setting → Option Statement → FilesSeen → List UnitModel → List Step → Option Step → Type 0
IsUnderWay setting None files units added pending = (added ≡ []) × (pending ≡ None)
IsUnderWay setting (Some statement) files units added pending = IsCutCommand setting statement.command files units added pending

-- on units: these statements ran, and then one was cut, if one was
abbrev pub RunOn : Setting → List Ran → Option Statement → FilesSeen → List Step → Option Step → List UnitModel → Type 0
RunOn setting ran under files added pending units = (after : List UnitModel) × Follow setting ran units after × IsUnderWay setting under files after added pending

-- ---- what became of outputs and inputs

-- a statement that calls none leaves them as it found them
abbrev pub KeepsFiles : Statement → FilesSeen → Type 0
KeepsFiles statement files = CallsNoFile statement.command → files.after ≡ files.before

-- each statement finds them as the one before it left them
abbrev pub HandOn : Files → List Ran → Files → Type 0
HandOn first [] last = last ≡ first
HandOn first (one ∷ more) last = (one.files.before ≡ first) × KeepsFiles one.statement one.files × HandOn one.files.after more last

-- So does the one that was cut, if one was, and the run leaves them as it left them.
pub record HandsOn (run : FilesSeen) (ran : List Ran) (under : Option Statement) (cut : FilesSeen) : Type 0 where
  pub found : HandOn run.before ran cut.before
  pub kept : IfSome under (λ statement. KeepsFiles statement cut)
  pub left : cut.after ≡ run.after
  pub same : IfNone under (cut.after ≡ cut.before)

-- ---- which statements ran

-- with the codes that they answered
abbrev pub answers_of : List Ran → List (Statement × ℕ)
answers_of ran = map (λ one. (one.statement, one.report.code)) ran

-- the next command of a plan is this one
abbrev pub IsNext : Plan → Codes → Statement → Type 0
IsNext left codes statement = (rest : Plan) × (then' : Codes) × (next_of left codes ≡ Command statement rest then')

-- these statements ran first, by the codes of those before them, and then it is the turn of the one that was cut
abbrev pub IsFront : Plan → List Ran → Option Statement → Type 0
IsFront plan ran under = (left : Plan) × (codes : Codes) × Leaves plan zero_codes (answers_of ran) left codes × IfSome under (IsNext left codes)

-- By how a run was to end: all statements ran, and the code is the greatest; or one was cut by a pool that failed; or there was no memory; or the lines of one
-- that ended were not all taken.
abbrev pub HasRun : Plan → List Ran → Option Statement → RunEnd → Type 0
HasRun plan ran under (ends.Whole code) = (under ≡ None) × ((codes : Codes) × IsRun plan (answers_of ran) codes × (code ≡ codes.maxcc))
HasRun plan ran under ends.Pool = ((statement : Statement) × (under ≡ Some statement)) × IsFront plan ran under
HasRun plan ran under ends.Memory = IsFront plan ran under
HasRun plan ran under ends.Sink = (under ≡ None) × (ran ≢ []) × IsFront plan ran under
HasRun plan ran under _ = ⊥

-- ---- what is printed

-- the lines of a statement's messages
abbrev pub lines_in : ℕ → List Message → List ℕ
lines_in statement said = flat_map (line statement) said

abbrev pub lines_of : List Ran → List ℕ
lines_of ran = flat_map (λ one. lines_in one.statement.number one.report.messages) ran

-- a statement that was cut says that it started
abbrev pub started_line : Option Statement → List ℕ
started_line None = []
started_line (Some statement) = line statement.number (messages.Started (verb_of statement.command))

-- the whole text of a run that was to end so
abbrev pub printed_text : List Ran → Option Statement → RunEnd → List ℕ
printed_text ran under wanted = lines_of ran ++ (started_line under ++ last_line wanted)
