use Rattle.sysin_values.proofs.Waits as waits
use Rattle.sysin_values.proofs.CriteriaLists as criteria
use Rattle.sysin_values.proofs.OneValues.{one_patterns, one_outputs, one_pairs, one_rename, one_criteria}
use Rattle.sysin_values.proofs.Ends.{patterns_end, outputs_end, pairs_end, rename_ends, wait_ends, criteria_end}
use Rattle.sysin_values.proofs.laws.other_laws.Goals as goal

pub returns-clause-wait : goal.returns-clause-wait
returns-clause-wait c = waits.exact

pub returns-clause-wait_why : goal.returns-clause-wait_why
returns-clause-wait_why c = waits.tells_why

pub returns-clause-criteria : goal.returns-clause-criteria
returns-clause-criteria c = criteria.exact

pub returns-clause-one : goal.returns-clause-one
returns-clause-one c = (one_patterns, one_outputs, one_pairs, one_rename, one_criteria)

pub returns-clause-ends : goal.returns-clause-ends
returns-clause-ends c = (patterns_end, outputs_end, pairs_end, rename_ends, wait_ends, criteria_end)
