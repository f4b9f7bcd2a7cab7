-- What a statement means.
use Rattle.std.specs.Prelude.{◌≡◌, ℕ, ◌<◌, Bool, List, [], ◌∷◌, ◌++◌, length, Option, None}
use Rattle.sysin_words.specs.declared.lead.Verb.{Verb}
use Rattle.sysin_lang.specs.declared.command.Command.{Command}
use Rattle.sysin_lang.specs.declared.command.Command.TheVariants as commands
use Rattle.sysin_forms.specs.Form.{form_of, verb_of_form}
use Rattle.dump_fmt.specs.Outs.{FilesSeen, OutSeen}
use Rattle.dsn_filter.specs.declared.dsn.Dsn.{Dsn}
use Rattle.enq_table.specs.declared.hold.Hold.{Hold}
use Rattle.volume_model.specs.Unit.{UnitModel}
use Rattle.move_core.specs.declared.steps.Step.{Step}
use Rattle.job_lines.specs.declared.message.Message.{Message}
use Rattle.job_lines.specs.declared.message.Message.TheVariants as messages
use Rattle.job_lines.specs.Severity.{greatest_code}
use Rattle.job_ops.specs.declared.report.Report.{Report}
use Rattle.dump_sets.specs.job_turns.Setting.{Setting, without_inputs}
use Rattle.job_ops.specs.Listing.{Prints}
use Rattle.job_ops.specs.declared.task.Task.{Task}
use Rattle.job_ops.specs.declared.task.Task.TheVariants as tasks
use Rattle.dsn_filter.specs.Rename.{IsRename}
use Rattle.dump_sets.specs.job_turns.job_copies.declared.wish.Wish.{Wish}
use Rattle.job_ops.specs.Consolidate.{ConsolidatesSet}
use Rattle.job_ops.specs.Copy.{CopiesSets, IsCutCopy}
use Rattle.job_ops.specs.Release.{ReleasesSet}
use Rattle.job_ops.specs.Sets.{OverSets, IsCutOverSets}
use Rattle.dump_sets.specs.job_turns.Turns.{Action}
use Rattle.dump_sets.specs.Dump.{DumpsDataSets, IsCutDumping}
use Rattle.dump_sets.specs.job_dumps.declared.wish.DumpWish.{DumpWish}

-- what a copy says beside its filter, its volumes and the new names
abbrev pub wish_of : Bool → Bool → Bool → Bool → Wish
wish_of delete purge replace tolerate = record { delete = delete; purge = purge; replace = replace; tolerate = tolerate }

-- The commands that are built. A copy is whose new names are names, and a dump that names an output, as those that a text says are.
abbrev pub IsBuilt : Command → Type 0
IsBuilt (commands.PrintVtoc unit) = Unit {0}
IsBuilt (commands.Release filter unit) = Unit {0}
IsBuilt (commands.Consolidate filter unit) = Unit {0}
IsBuilt (commands.Copy filter unit to delete purge replace rename tolerate) = IsRename rename
IsBuilt (commands.DumpDataset filter unit outs reset delete purge tolerate) = 0 < length outs
IsBuilt _ = ⊥

-- the turn of a data set in what a statement does with each
abbrev pub TurnOf : Task → List Hold → ℕ → Dsn → Action
TurnOf tasks.Release held = ReleasesSet held
TurnOf tasks.Consolidate held = ConsolidatesSet held

-- what a command that calls no output or input does and says between the line that it started and the line that it ended
abbrev pub MeansOnVolumes : Setting → Command → Action
MeansOnVolumes setting (commands.PrintVtoc serial) units steps said = Prints setting serial units steps said
MeansOnVolumes setting (commands.Release filter serial) units steps said = OverSets (ReleasesSet setting.held) setting filter serial units steps said
MeansOnVolumes setting (commands.Consolidate filter serial) units steps said = OverSets (ConsolidatesSet setting.held) setting filter serial units steps said
MeansOnVolumes setting (commands.Copy filter serial to delete purge replace rename tolerate) units steps said =
    CopiesSets setting filter serial to (wish_of delete purge replace tolerate) rename units steps said
MeansOnVolumes setting _ units steps said = ⊥

-- what it had done where it was cut
abbrev pub IsCutOnVolumes : Setting → Command → List UnitModel → List Step → Option Step → Type 0
IsCutOnVolumes setting (commands.Release filter serial) units steps pending = IsCutOverSets (ReleasesSet setting.held) setting filter serial units steps pending
IsCutOnVolumes setting (commands.Consolidate filter serial) units steps pending = IsCutOverSets (ConsolidatesSet setting.held) setting filter serial units steps pending
IsCutOnVolumes setting (commands.Copy filter serial to delete purge replace rename tolerate) units steps pending =
    IsCutCopy setting filter serial to (wish_of delete purge replace tolerate) rename units steps pending
IsCutOnVolumes setting _ units steps pending = (steps ≡ []) × (pending ≡ None)

-- ---- with the outputs and inputs of the run

-- a command calls no output and no input
abbrev pub CallsNoFile : Command → Type 0
CallsNoFile (commands.DumpDataset filter unit outs reset delete purge tolerate) = ⊥
CallsNoFile (commands.DumpFull unit outs) = ⊥
CallsNoFile (commands.RestoreDataset filter input to purge replace rename) = ⊥
CallsNoFile (commands.RestoreFull input to purge) = ⊥
CallsNoFile _ = Unit {0}

-- it reads no input
abbrev pub ReadsNoInput : Command → Type 0
ReadsNoInput (commands.RestoreDataset filter input to purge replace rename) = ⊥
ReadsNoInput (commands.RestoreFull input to purge) = ⊥
ReadsNoInput _ = Unit {0}

-- what a dump asks of each data set
abbrev pub dump_wish_of : Bool → Bool → Bool → Bool → DumpWish
dump_wish_of reset delete purge tolerate = record { reset = reset; delete = delete; purge = purge; tolerate = tolerate }

-- What a command does and says that reads no input, with the outputs as it finds and leaves them.
abbrev pub MeansWithOutputs : Setting → Command → (before after : List OutSeen) → Action
MeansWithOutputs setting (commands.DumpDataset filter serial outs reset delete purge tolerate) before after units steps said =
    DumpsDataSets setting filter serial outs (dump_wish_of reset delete purge tolerate) before after units steps said
MeansWithOutputs setting command before after units steps said = MeansOnVolumes setting command units steps said

abbrev pub IsCutWithOutputs : Setting → Command → (before after : List OutSeen) → List UnitModel → List Step → Option Step → Type 0
IsCutWithOutputs setting (commands.DumpDataset filter serial outs reset delete purge tolerate) before after units steps pending =
    IsCutDumping setting filter serial outs (dump_wish_of reset delete purge tolerate) before after units steps pending
IsCutWithOutputs setting command before after units steps pending = IsCutOnVolumes setting command units steps pending

-- What any command does and says, on the units and with the outputs and inputs. A command that restores will have a case of its own.
abbrev pub Means : Setting → Command → FilesSeen → Action
Means setting command files = MeansWithOutputs (without_inputs setting) command files.before.outs files.after.outs

abbrev pub IsCutCommand : Setting → Command → FilesSeen → List UnitModel → List Step → Option Step → Type 0
IsCutCommand setting command files = IsCutWithOutputs (without_inputs setting) command files.before.outs files.after.outs

abbrev pub verb_of : Command → Verb
verb_of command = verb_of_form (form_of command)

-- messages begin with the line that a command started, and end with the line that it ended, with the code of the gravest between
abbrev pub IsFramed : Command → List Message → Type 0
IsFramed command whole =
    (said : List Message) × (whole ≡ messages.Started (verb_of command) ∷ (said ++ (messages.Ended (verb_of command) (greatest_code said) ∷ [])))

-- what a command means, with the line that it started before, and behind it the line that it ended, with the code of its gravest message
abbrev pub MeansWhole : Action → Command → Action
MeansWhole Does command units steps whole =
    (said : List Message) × Does units steps said
    × (whole ≡ messages.Started (verb_of command) ∷ (said ++ (messages.Ended (verb_of command) (greatest_code said) ∷ [])))

-- the report of a statement that ended, whatever it did
pub record IsReport (command : Command) (report : Report) : Type 0 where
  pub code_is : report.code ≡ greatest_code report.messages
  pub framed : IsFramed command report.messages

-- the report of a whole statement
pub record MeansStatement (setting : Setting) (command : Command) (files : FilesSeen) (units : List UnitModel) (steps : List Step) (report : Report) : Type 0 where
  pub means : MeansWhole (Means setting command files) command units steps report.messages
  pub code_is : report.code ≡ greatest_code report.messages
