use Rattle.std.proofs.Common.{length}
use Rattle.sysin_read.specs.Reading.{open_in}
use Rattle.sysin_read.proofs.outline.+close_parts.Given as goal

abbrev pub decreases-close_parts : goal.decreases-close_parts
decreases-close_parts l = length (open_in l.outline)
