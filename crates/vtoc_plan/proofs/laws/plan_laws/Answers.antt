use Rattle.vtoc_plan.proofs.Changes.{change_is}
use Rattle.vtoc_plan.proofs.Says.{extents, entries}
use Rattle.vtoc_plan.proofs.laws.plan_laws.Goals as goal

pub returns-clause-change : goal.returns-clause-change
returns-clause-change c = change_is

pub returns-clause-extents : goal.returns-clause-extents
returns-clause-extents c = extents

pub returns-clause-entries : goal.returns-clause-entries
returns-clause-entries c = entries
