use Rattle.vtoc_load.proofs.SortedRows.{by_name}
use Rattle.vtoc_load.proofs.rows.sort_by_name.Goals as goal

pub returns-clause-order : goal.returns-clause-order
returns-clause-order c = by_name c.sort_unstable.new.self.items c.sort_unstable.ensures.sorted
