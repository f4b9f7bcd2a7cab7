use Rattle.sysin_read.proofs.Finishing.{command_given}
use Rattle.sysin_read.proofs.text.TextReading.finish.Goals as goal

pub returns-in_ok-with_command-in-Ok-clause-given : goal.returns-in_ok-with_command-in-Ok-clause-given
returns-in_ok-with_command-in-Ok-clause-given c =
    command_given c.args.self c.in-Command.command c.in-Ok.command c.in_ok-with_command-in-Ok.field-0 c.end-in-Ok.result c.in-Command.is c.in-Ok.ensures.given c.in_ok-with_command-in-Ok.ensures c.end-in-Ok.ensures.given
