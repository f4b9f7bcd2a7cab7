use Rattle.unit_change.proofs.UnitLoads.{online_loads}
use Rattle.unit_change.proofs.RenderedUnits.{rendered_units}
use Rattle.unit_change.proofs.laws.changed_laws.Goals as goal

pub returns-clause-loads : goal.returns-clause-loads
returns-clause-loads c = online_loads

pub returns-clause-changed : goal.returns-clause-changed
returns-clause-changed c = rendered_units
