use Rattle.open_samples.proofs.Fill.{fill_stands, fill_stands_still, closed_stands, closed_is_other}
use Rattle.open_samples.proofs.open_fill.Goals as goal

pub returns : goal.returns
returns c = record { stands = fill_stands; still = fill_stands_still; closed = closed_stands; other = closed_is_other }
