use Rattle.unit_steps.proofs.Freeing.{may_be_written}
use Rattle.unit_steps.proofs.Copying.{copied_load}
use Rattle.unit_steps.proofs.laws.copying_laws.Goals as goal

pub returns-clause-free : goal.returns-clause-free
returns-clause-free c = may_be_written

pub returns-clause-loads : goal.returns-clause-loads
returns-clause-loads c = copied_load
