use Rattle.sysin_commands.proofs.FirstWord.{one}
use Rattle.sysin_commands.proofs.AnyOperands.{exact, ends}
use Rattle.sysin_commands.proofs.laws.any_operand_laws.Goals as goal

pub returns-clause-exact : goal.returns-clause-exact
returns-clause-exact c = exact

pub returns-clause-one : goal.returns-clause-one
returns-clause-one c = one

pub returns-clause-ends : goal.returns-clause-ends
returns-clause-ends c = ends
