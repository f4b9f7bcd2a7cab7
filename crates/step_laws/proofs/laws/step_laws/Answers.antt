use Rattle.step_laws.proofs.Outcome.{one_outcome}
use Rattle.step_laws.proofs.Staying.{stays_proper}
use Rattle.step_laws.proofs.Standing.{stands_proper}
use Rattle.step_laws.proofs.laws.step_laws.Goals as goal

pub returns-clause-one : goal.returns-clause-one
returns-clause-one c = one_outcome

pub returns-clause-stays : goal.returns-clause-stays
returns-clause-stays c = stays_proper

pub returns-clause-stands : goal.returns-clause-stands
returns-clause-stands c = stands_proper
