use Rattle.std.proofs.Common.{All, take}
use Rattle.org_reloc.specs.Packing.{FitsAlone}
use Rattle.org_reloc.proofs.packing.check_lengths.Given as goal

abbrev pub invariant-loop-block : goal.invariant-loop-block
invariant-loop-block l = All (FitsAlone l.fn.device) (take l.block-index l.blocks)
