use Rattle.dscb_rec.specs.Dscb.{IsFilled}
use Rattle.dscb_rec.proofs.dscb.first_other.Given as goal

abbrev pub invariant-loop-place : goal.invariant-loop-place
invariant-loop-place l = IsFilled l.place l.value l.bytes
