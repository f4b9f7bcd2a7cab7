use Rattle.volume_change.proofs.Names.{one_text}
use Rattle.volume_change.proofs.laws.name_laws.Goals as goal

pub returns : goal.returns
returns c = record { one = one_text }
