use Rattle.std.proofs.Common.{inl, refl}
use Rattle.sysin_read.specs.Reading.{open_in}
use Rattle.sysin_read.specs.Why.{EndsCommand}
use Rattle.sysin_read.proofs.Taking.{not_so, ended_stops, told_within}
use Rattle.sysin_read.proofs.text.in_command.Goals as goal

pub returns-then-ends_command-clause-refused : goal.returns-then-ends_command-clause-refused
returns-then-ends_command-clause-refused c =
    ended_stops (open_in c.args.outline) c.args.outline.commands c.args.command c.args.placed.now c.behind_command.result (c.ends_command.ensures.0 c.if-ends_command.true) c.behind_command.ensures.refused

pub returns-in-Ok-clause-taken : goal.returns-in-Ok-clause-taken
returns-in-Ok-clause-taken c =
    let not_ended = not_so (EndsCommand c.args.command c.args.placed.now) c.ends_command.result c.ends_command.ensures c.if-ends_command.false in
    inl (not_ended, (c.in-Ok.command, c.in-Ok.ensures.taken, refl))

pub returns-in-Err-clause-refused : goal.returns-in-Err-clause-refused
returns-in-Err-clause-refused c =
    let not_ended = not_so (EndsCommand c.args.command c.args.placed.now) c.ends_command.result c.ends_command.ensures c.if-ends_command.false in
    told_within (open_in c.args.outline) c.args.outline.commands c.args.command c.args.placed.now c.in-Err.fault c.command_stop.result not_ended c.in-Err.ensures.refused c.command_stop.ensures
