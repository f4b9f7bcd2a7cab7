use Rattle.std.proofs.Common.{length}
use Rattle.dump_sets.proofs.Tellings.{SaidSoFar}
use Rattle.dump_sets.proofs.telling.push_sets.Given as goal

-- the lines of the data sets so far were added
abbrev pub invariant-loop-name : goal.invariant-loop-name
invariant-loop-name l = SaidSoFar l.whole l.names l.told (length l.yielded) l.fn.said.items l.said.items
