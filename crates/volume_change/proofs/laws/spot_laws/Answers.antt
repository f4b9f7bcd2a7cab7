use Rattle.volume_change.proofs.Spots.{higher_behind}
use Rattle.volume_change.proofs.laws.spot_laws.Goals as goal

pub returns : goal.returns
returns c = record { behind = higher_behind }
