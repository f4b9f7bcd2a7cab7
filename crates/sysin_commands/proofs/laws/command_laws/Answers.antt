use Rattle.sysin_commands.proofs.Commands.{exact}
use Rattle.sysin_commands.proofs.Making.{one}
use Rattle.sysin_commands.proofs.laws.command_laws.Goals as goal

pub returns-clause-exact : goal.returns-clause-exact
returns-clause-exact c = exact

pub returns-clause-one : goal.returns-clause-one
returns-clause-one c = one
