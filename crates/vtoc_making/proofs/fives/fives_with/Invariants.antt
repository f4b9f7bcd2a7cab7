use Rattle.vtoc_making.proofs.Chained.{AreFivesSoFar}
use Rattle.vtoc_making.proofs.fives.fives_with.Given as goal

abbrev pub invariant-loop-number : goal.invariant-loop-number
invariant-loop-number l = AreFivesSoFar l.heads l.entries l.places l.number l.fives
