-- How a part of a statement ends, and how a statement does.
use Rattle.std.specs.Prelude.{◌≡◌, ◌⊎◌, List, [], ◌∷◌, ◌++◌, map, take, None, Result, Ok, Err}
use Rattle.by_rules.specs.declared.day.Day.{Day}
use Rattle.dasd_pool.specs.Count.{Rose}
use Rattle.dasd_pool.specs.declared.pool.Pool.{Ghosts}
use Rattle.dump_fmt.specs.declared.outs.OutDd.{OutDd}
use Rattle.dump_fmt.specs.Outs.{OutSeen, InSeen, Files, FilesSeen}
use Rattle.enq_table.specs.declared.hold.Hold.{Hold}
use Rattle.sysin_lang.specs.declared.command.Command.{Command}
use Rattle.sysin_lang.specs.declared.command.Command.TheVariants as commands
use Rattle.move_core.specs.declared.steps.Step.{Step}
use Rattle.move_core.specs.Facts.{Inputs, shown}
use Rattle.move_core.specs.Runs.{IsRun}
use Rattle.dump_sets.specs.job_turns.job_steps.unit_session.Sessions.{SessionView}
use Rattle.dump_sets.specs.job_turns.job_steps.declared.cut.Cut.{Cut}
use Rattle.dump_sets.specs.job_turns.job_steps.declared.cut.Cut.TheVariants as cuts
use Rattle.job_lines.specs.declared.message.Message.{Message}
use Rattle.job_lines.specs.declared.message.Message.TheVariants as messages
use Rattle.job_lines.specs.Severity.{greatest_code}
use Rattle.job_ops.specs.declared.report.Report.{Report}
use Rattle.job_ops.specs.declared.outcome.Outcome.{Outcome}
use Rattle.job_ops.specs.declared.outcome.Outcome.TheVariants as outcomes
use Rattle.job_ops.specs.Meaning.{verb_of, IsReport, MeansStatement, IsCutCommand}
use Rattle.dump_sets.specs.job_turns.job_steps.Units.{ForUnits}
use Rattle.dump_sets.specs.job_outputs.Kept.{KeepsUsed}
use Rattle.dump_sets.specs.job_turns.Setting.{setting_for}
use Rattle.dump_sets.specs.job_turns.job_acts.Acting.{KeepsFacts}

-- ---- what only reads

-- a command that changes nothing
abbrev pub OnlyReads : Command → Type 0
OnlyReads (commands.PrintVtoc serial) = Unit {0}
OnlyReads _ = ⊥

-- a part of a statement leaves its session as it was
abbrev pub LeavesSession : {P : Type 0} → SessionView P → Result (SessionView P) (Cut P) → Type 0
LeavesSession session (Ok next) = next ≡ session
LeavesSession session (Err (cuts.Short kept)) = kept ≡ session
LeavesSession session (Err (cuts.Halted broken)) = ⊥

-- a statement does
abbrev pub IsUnchanged : {P B : Type 0} {Own : B → Type 0} → SessionView P → Outcome P B Own → Type 0
IsUnchanged session (outcomes.Done next outs report steps) = next ≡ session
IsUnchanged session (outcomes.Halted broken outs report steps) = ⊥
IsUnchanged session (outcomes.Short kept outs report steps) = kept ≡ session

-- ---- a statement

-- It is cut short: it says only that it started, or nothing where there was no memory for that, and then it did nothing. Its code is 0.
abbrev pub SaysStarted : Command → Report → Type 0
SaysStarted command report = report.messages ≡ messages.Started (verb_of command) ∷ []

-- the outputs that come back are these
abbrev pub HasOuts : {P B : Type 0} {Own : B → Type 0} → List (OutDd B Own) → Outcome P B Own → Type 0
HasOuts given (outcomes.Done next outs report steps) = outs.items ≡ given
HasOuts given (outcomes.Halted broken outs report steps) = outs.items ≡ given
HasOuts given (outcomes.Short kept outs report steps) = outs.items ≡ given

-- one that was used before is the very same among them, and so is one that is unused still
abbrev pub LeavesUsed : {P B : Type 0} {Own : B → Type 0} → (OutDd B Own → OutSeen) → List (OutDd B Own) → Outcome P B Own → Type 0
LeavesUsed seen given (outcomes.Done next outs report steps) = KeepsUsed seen given outs.items
LeavesUsed seen given (outcomes.Halted broken outs report steps) = KeepsUsed seen given outs.items
LeavesUsed seen given (outcomes.Short kept outs report steps) = KeepsUsed seen given outs.items

-- the outputs and inputs that a statement found, and those that it left
abbrev pub left_files : {B : Type 0} {Own : B → Type 0} → (OutDd B Own → OutSeen) → Files → List InSeen → List (OutDd B Own) → FilesSeen
left_files seen before ins outs = record { before = before; after = record { outs = map seen outs; ins = ins } }

-- How a statement ended that found these outputs and inputs, and left these inputs. The steps are those of the run before it and those that it added.
abbrev pub EndsStatement : {P B : Type 0} {Own : B → Type 0} → Ghosts P → (OutDd B Own → OutSeen) → Files → List InSeen
    → SessionView P → Command → List Hold → Day → List Step → Outcome P B Own → Type 0
EndsStatement pools seen files ins session command held today before (outcomes.Done next outs report steps) =
    (added : List Step) × (steps.items ≡ before ++ added) × KeepsFacts pools session next
    × IsRun pools.tells (shown pools session.pool) (shown pools next.pool) (Unit {0}) added None
    × ((inputs : Inputs) → ForUnits pools session (λ units. MeansStatement (setting_for pools session inputs held today) command (left_files seen files ins outs.items) units added report))
    × IsReport command report
EndsStatement pools seen files ins session command held today before (outcomes.Halted broken outs report steps) =
    (added : List Step) × (steps.items ≡ before ++ added) × Rose (pools.faults session.pool) (pools.faults broken.pool) × SaysStarted command report
    × IsRun pools.tells (shown pools session.pool) (shown pools broken.pool) ⊥ added broken.pending
    × ((inputs : Inputs) → ForUnits pools session (λ units. IsCutCommand (setting_for pools session inputs held today) command (left_files seen files ins outs.items) units added broken.pending)) × (report.code ≡ 0)
EndsStatement pools seen files ins session command held today before (outcomes.Short kept outs report steps) =
    (added : List Step) × (steps.items ≡ before ++ added) × KeepsFacts pools session kept × (((report.messages ≡ []) × (added ≡ [])) ⊎ SaysStarted command report)
    × IsRun pools.tells (shown pools session.pool) (shown pools kept.pool) (Unit {0}) added None
    × ((inputs : Inputs) → ForUnits pools session (λ units. IsCutCommand (setting_for pools session inputs held today) command (left_files seen files ins outs.items) units added None)) × (report.code ≡ 0)

-- a statement that was cut ended so, with these outputs and steps and the first of its messages
abbrev pub IsCutOutcome : {P B : Type 0} {Own : B → Type 0} → Cut P → List (OutDd B Own) → List Step → List Message → Outcome P B Own → Type 0
IsCutOutcome cut given steps messages (outcomes.Done next outs report done) = ⊥
IsCutOutcome cut given steps messages (outcomes.Halted broken outs report done) =
    (cut ≡ cuts.Halted broken) × (done.items ≡ steps) × (report.messages ≡ take 1 messages) × (outs.items ≡ given) × (report.code ≡ 0)
IsCutOutcome cut given steps messages (outcomes.Short kept outs report done) =
    (cut ≡ cuts.Short kept) × (done.items ≡ steps) × (report.messages ≡ take 1 messages) × (outs.items ≡ given) × (report.code ≡ 0)

abbrev pub IsDoneOutcome : {P B : Type 0} {Own : B → Type 0} → SessionView P → List (OutDd B Own) → List Step → List Message → Outcome P B Own → Type 0
IsDoneOutcome session given steps messages (outcomes.Done next outs report done) =
    (next ≡ session) × (done.items ≡ steps) × (report.messages ≡ messages) × (report.code ≡ greatest_code messages) × (outs.items ≡ given)
IsDoneOutcome session given steps messages _ = ⊥
