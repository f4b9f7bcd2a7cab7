use Rattle.sysin_read.proofs.Finishing.{command_stopped}
use Rattle.sysin_read.proofs.text.TextReading.take.Goals as goal

pub returns-in-Command-clause-refused : goal.returns-in-Command-clause-refused
returns-in-Command-clause-refused c = command_stopped c.args.self c.in-Command.command c.args.placed.now c.in_command.result c.in-Command.is c.in_command.ensures.refused
