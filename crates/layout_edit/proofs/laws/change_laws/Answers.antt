use Rattle.layout_edit.proofs.Changes.{changes}
use Rattle.layout_edit.proofs.laws.change_laws.Goals as goal

pub returns : goal.returns
returns c = record { layout = changes }
