use Rattle.std.proofs.Common.{◌≡◌, ◌++◌, drop, map, filter}
use Rattle.std.specs.Prelude.{not, ◌==◌}
use Rattle.volume_model.specs.Dscbs.{extent_at}
use Rattle.vtoc_check.proofs.rows.add_extents_at.Given as goal

abbrev pub invariant-loop-offset : goal.invariant-loop-offset
invariant-loop-offset l =
    l.extents.items ++ filter (λ extent. not (extent.kind == 0)) (map (extent_at l.bytes) (drop l.offset-index l.offsets))
    ≡ l.fn.extents.items ++ filter (λ extent. not (extent.kind == 0)) (map (extent_at l.bytes) l.offsets)
