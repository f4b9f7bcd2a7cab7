-- What a command does, from what its form does.
use Rattle.std.proofs.Common.{◌≡◌, List, sym, subst}
use Rattle.std.specs.Prelude.{Result}
use Rattle.dasd_pool.specs.declared.pool.Pool.{Ghosts}
use Rattle.dump_fmt.specs.Outs.{OutSeen}
use Rattle.dd_names.specs.declared.dd.DdName.{DdName}
use Rattle.sysin_lang.specs.declared.command.Command.{Command}
use Rattle.sysin_lang.specs.declared.command.Filter.{Filter}
use Rattle.vol_label.specs.declared.serial.Serial.{Serial}
use Rattle.move_core.specs.declared.steps.Step.{Step}
use Rattle.job_lines.specs.declared.message.Message.{Message}
use Rattle.dump_sets.specs.job_turns.job_steps.unit_session.Sessions.{SessionView}
use Rattle.dump_sets.specs.job_turns.job_steps.declared.cut.Cut.{Cut}
use Rattle.dump_sets.specs.job_turns.Ends.{Ends}
use Rattle.dump_sets.specs.job_turns.Setting.{Setting}
use Rattle.dump_sets.specs.job_dumps.declared.wish.DumpWish.{DumpWish}
use Rattle.dump_sets.specs.Dump.{DumpsDataSets, IsCutDumping}
use Rattle.job_ops.specs.Meaning.{IsCutWithOutputs, MeansWithOutputs}

pub as_command : {P : Type 0} (pools : Ghosts P) (setting : Setting) (before after : List OutSeen) {command form : Command} {session : SessionView P} {steps steps_after : List Step}
    {said said_after : List Message} {result : Result (SessionView P) (Cut P)} → command ≡ form
    → Ends pools (MeansWithOutputs setting form before after) (IsCutWithOutputs setting form before after) session steps steps_after said said_after result
    → Ends pools (MeansWithOutputs setting command before after) (IsCutWithOutputs setting command before after) session steps steps_after said said_after result
as_command pools setting before after {session = session} {steps = steps} {steps_after = steps_after} {said = said} {said_after = said_after} {result = result} is ends =
    subst (λ (c : Command). Ends pools (MeansWithOutputs setting c before after) (IsCutWithOutputs setting c before after) session steps steps_after said said_after result) (sym is) ends

-- a dump on the outputs of names that are the same
pub dump_on : {P : Type 0} (pools : Ghosts P) (setting : Setting) (filter : Filter) (serial : Serial) (wish : DumpWish) (before after : List OutSeen) {given names : List DdName} {session : SessionView P}
    {steps steps_after : List Step} {said said_after : List Message} {result : Result (SessionView P) (Cut P)} → given ≡ names
    → Ends pools (DumpsDataSets setting filter serial given wish before after) (IsCutDumping setting filter serial given wish before after) session steps steps_after said said_after result
    → Ends pools (DumpsDataSets setting filter serial names wish before after) (IsCutDumping setting filter serial names wish before after) session steps steps_after said said_after result
dump_on pools setting filter serial wish before after {session = session} {steps = steps} {steps_after = steps_after} {said = said} {said_after = said_after} {result = result} same ends =
    subst (λ (list : List DdName). Ends pools (DumpsDataSets setting filter serial list wish before after) (IsCutDumping setting filter serial list wish before after) session
    steps steps_after said said_after result) same ends
