use Rattle.std.proofs.Common.{◌≡◌, ◌++◌, drop, map}
use Rattle.std.specs.List.{flat_map}
use Rattle.volume_model.specs.Dscbs.{extents_of}
use Rattle.vtoc_check.specs.Reach.{record_in}
use Rattle.vtoc_check.proofs.rows.add_chain.Given as goal

abbrev pub invariant-loop-index : goal.invariant-loop-index
invariant-loop-index l =
    l.extents.items ++ flat_map (λ three. extents_of three.bytes) (map (record_in l.records) (drop l.index-index l.chain))
    ≡ l.fn.extents.items ++ flat_map (λ three. extents_of three.bytes) (map (record_in l.records) l.chain)
