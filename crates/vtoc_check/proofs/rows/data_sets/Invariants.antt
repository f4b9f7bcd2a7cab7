use Rattle.std.proofs.Common.{◌≡◌, ◌++◌, drop, map, filter}
use Rattle.volume_model.specs.Dscbs.{format_of, is_f1}
use Rattle.vtoc_check.proofs.rows.data_sets.Given as goal

abbrev pub invariant-loop-placed : goal.invariant-loop-placed
invariant-loop-placed l =
    l.sets.items ++ map (λ placed. placed.bytes) (filter (λ placed. is_f1 (format_of placed.bytes)) (drop l.placed-index l.records))
    ≡ map (λ placed. placed.bytes) (filter (λ placed. is_f1 (format_of placed.bytes)) l.records)
