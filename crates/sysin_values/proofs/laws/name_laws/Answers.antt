use Rattle.sysin_values.proofs.PairLists as pairs
use Rattle.sysin_values.proofs.Naming as naming
use Rattle.sysin_values.proofs.laws.name_laws.Goals as goal

pub returns-clause-pairs : goal.returns-clause-pairs
returns-clause-pairs c = pairs.exact

pub returns-clause-pairs_why : goal.returns-clause-pairs_why
returns-clause-pairs_why c = pairs.tells_why

pub returns-clause-names : goal.returns-clause-names
returns-clause-names c = naming.exact

pub returns-clause-names_why : goal.returns-clause-names_why
returns-clause-names_why c = naming.tells_why
