use Rattle.by_rules.proofs.OnePlace.{one_reading, one_place}
use Rattle.by_rules.proofs.Refusing.{refusal_spells_none}
use Rattle.by_rules.proofs.laws.criteria_laws.Goals as goal

pub returns-clause-one : goal.returns-clause-one
returns-clause-one c = one_reading

pub returns-clause-place : goal.returns-clause-place
returns-clause-place c = one_place

pub returns-clause-nothing : goal.returns-clause-nothing
returns-clause-nothing c = refusal_spells_none
