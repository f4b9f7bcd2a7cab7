use Rattle.free_map.proofs.OneChoice.{one_choice, no_choice}
use Rattle.free_map.proofs.laws.choice_laws.Goals as goal

pub returns-clause-one : goal.returns-clause-one
returns-clause-one c = one_choice

pub returns-clause-none : goal.returns-clause-none
returns-clause-none c = no_choice
