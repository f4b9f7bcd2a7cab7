use Rattle.sysin_values.specs.Values.{SaysPattern, SaysDdName, most_entries, most_outputs}
use Rattle.sysin_values.proofs.Said as said
use Rattle.sysin_values.proofs.WordLists as lists
use Rattle.sysin_values.proofs.laws.list_laws.Goals as goal

pub returns-clause-patterns : goal.returns-clause-patterns
returns-clause-patterns c = lists.exact SaysPattern most_entries said.patterns_said

pub returns-clause-patterns_why : goal.returns-clause-patterns_why
returns-clause-patterns_why c = lists.tells_why SaysPattern most_entries said.patterns_said

pub returns-clause-outputs : goal.returns-clause-outputs
returns-clause-outputs c = lists.exact SaysDdName most_outputs said.outputs_said

pub returns-clause-outputs_why : goal.returns-clause-outputs_why
returns-clause-outputs_why c = lists.tells_why SaysDdName most_outputs said.outputs_said
