use Rattle.sysin_filters.proofs.Closing.{ends}
use Rattle.sysin_filters.proofs.Filters.{exact}
use Rattle.sysin_filters.proofs.laws.filter_laws.Goals as goal

pub returns-clause-exact : goal.returns-clause-exact
returns-clause-exact c = exact

pub returns-clause-ends : goal.returns-clause-ends
returns-clause-ends c = ends
