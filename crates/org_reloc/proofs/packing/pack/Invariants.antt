use Rattle.std.specs.Vec.Iter.{into_iter_items, into_iter_len}
use Rattle.org_reloc.proofs.Placing.{HasPut}
use Rattle.org_reloc.proofs.packing.pack.Given as goal

abbrev pub invariant-loop-block : goal.invariant-loop-block
invariant-loop-block l =
    (goal.iterator-loop-block).can_next l.block-iterator × (goal.iterator-loop-block).is_finite l.block-iterator
    × HasPut l.fn.device l.fn.blocks l.yielded (into_iter_items l.block-iterator) (into_iter_len l.block-iterator) l.packer
