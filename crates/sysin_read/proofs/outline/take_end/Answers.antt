use Rattle.std.proofs.Common.{arith}
use Rattle.sysin_read.proofs.Around.{around_do}
use Rattle.sysin_read.proofs.outline.take_end.Goals as goal

pub returns-in-Some-clause-some : goal.returns-in-Some-clause-some
returns-in-Some-clause-some c = grind (arith, around_do)
