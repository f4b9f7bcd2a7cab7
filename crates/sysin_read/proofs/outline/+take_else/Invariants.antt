use Rattle.std.proofs.Common.{length}
use Rattle.sysin_read.specs.Reading.{open_in}
use Rattle.sysin_read.proofs.outline.+take_else.Given as goal

abbrev pub decreases-take_else : goal.decreases-take_else
decreases-take_else l = length (open_in l.outline)
