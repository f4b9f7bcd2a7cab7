use Rattle.sysin_heads.proofs.Exactness.{exact, one_head}
use Rattle.sysin_heads.proofs.laws.head_laws.Goals as goal

pub returns-clause-exact : goal.returns-clause-exact
returns-clause-exact c = exact

pub returns-clause-one : goal.returns-clause-one
returns-clause-one c = one_head
