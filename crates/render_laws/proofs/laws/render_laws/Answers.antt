use Rattle.render_laws.proofs.MarkedVolume.{marked_loads}
use Rattle.render_laws.proofs.VolumeAfter.{rendered}
use Rattle.render_laws.proofs.laws.render_laws.Goals as goal

pub returns-clause-change : goal.returns-clause-change
returns-clause-change c = rendered

pub returns-clause-mark : goal.returns-clause-mark
returns-clause-mark c = marked_loads
