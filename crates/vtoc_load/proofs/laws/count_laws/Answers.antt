use Rattle.vtoc_load.proofs.Counting.{counted}
use Rattle.vtoc_load.proofs.laws.count_laws.Goals as goal

pub returns : goal.returns
returns c = record { counted = counted }
