use Rattle.redo_core.proofs.Allowed.{only_faults}
use Rattle.redo_core.proofs.laws.opening_laws.Goals as goal

pub returns : goal.returns
returns c = only_faults
