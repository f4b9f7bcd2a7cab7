use Rattle.redo_core.proofs.Allowed.{only_faults_making}
use Rattle.redo_core.proofs.laws.making_laws.Goals as goal

pub returns : goal.returns
returns c = only_faults_making
