use Rattle.org_reloc.proofs.Placing.{HasPlaced}
use Rattle.org_reloc.proofs.packing.places_of.Given as goal

abbrev pub invariant-loop-block : goal.invariant-loop-block
invariant-loop-block l = HasPlaced l.fn.device l.blocks l.block-index l.cursor l.track l.places
