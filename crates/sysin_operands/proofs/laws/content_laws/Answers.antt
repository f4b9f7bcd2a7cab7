use Rattle.sysin_operands.proofs.Contents.{exact, tells_why, one, ends}
use Rattle.sysin_operands.proofs.laws.content_laws.Goals as goal

pub returns-clause-exact : goal.returns-clause-exact
returns-clause-exact c = exact

pub returns-clause-why : goal.returns-clause-why
returns-clause-why c = tells_why

pub returns-clause-one : goal.returns-clause-one
returns-clause-one c = one

pub returns-clause-ends : goal.returns-clause-ends
returns-clause-ends c = ends
