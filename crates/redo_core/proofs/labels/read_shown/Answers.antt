use Rattle.std.proofs.Common.{arith}
use Rattle.redo_core.proofs.labels.read_shown.Goals as goal

pub read-requires-clause-block : goal.read-requires-clause-block
read-requires-clause-block g c = omega (arith, c.in-Some.ensures.within, c.requires.long)
