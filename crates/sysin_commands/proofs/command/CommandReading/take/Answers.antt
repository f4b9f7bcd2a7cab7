use Rattle.std.proofs.Common.{◌∙◌, ap, sym}
use Rattle.sysin_commands.specs.CommandProgress.{may_have_more}
use Rattle.sysin_commands.proofs.Taking.{taken_is_read, started_goes, comma_is_read, inside_goes}
use Rattle.sysin_commands.proofs.command.CommandReading.take.Goals as goal
use Rattle.sysin_commands.proofs.command.CommandReading.take.Goals.{in_default-via-in-Behind-Comma+else-has_room, in_default-via-in-Behind+in_default, in_default-via-in_default}

pub returns-in-Inside-default-clause-read : goal.returns-in-Inside-default-clause-read
returns-in-Inside-default-clause-read c = taken_is_read c.args.self c.args.token.now c.inside.result c.requires
    (inside_goes c.args.self c.in-Inside-default.place c.args.token.now c.inside.result c.in-Inside-default.is-0 c.inside.ensures.taken)

pub returns-in-Behind-Comma-clause-read : goal.returns-in-Behind-Comma-clause-read
returns-in-Behind-Comma-clause-read c =
    comma_is_read c.args.self c.requires c.in-Behind-Comma.is-0 (sym (ap (may_have_more c.args.self.verb) c.as_slice.ensures) ∙ sym c.has_room.ensures ∙ c.if-has_room.true)

pub returns-in_default-clause-taken : goal.returns-in_default-clause-taken
returns-in_default-clause-taken c = started_goes c.args.self c.args.token.now c.started.result (λ inside e. elim c.in_default.branch [
  | in_default-via-in-Behind-Comma+else-has_room w ↦ let other = w.in-Behind-Comma.is-0 in cc
  | in_default-via-in-Behind+in_default w ↦ w.in_default.not-Inside-0 inside e
  | in_default-via-in_default w ↦ w.in_default.not-Inside-0 inside e
]) c.started.ensures.taken

pub returns-in_default-clause-read : goal.returns-in_default-clause-read
returns-in_default-clause-read c = taken_is_read c.args.self c.args.token.now c.started.result c.requires (returns-in_default-clause-taken c)
