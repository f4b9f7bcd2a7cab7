use Rattle.std.proofs.Common.{◌≡◌, map, filter, take}
use Rattle.layout_found.proofs.free.free_places.Given as goal
use Rattle.volume_model.specs.Dscbs.{is_free_record}

abbrev pub invariant-loop-placed : goal.invariant-loop-placed
invariant-loop-placed l = l.places ≡ take l.most (map (λ placed. placed.place) (filter is_free_record (take l.placed-index l.records)))
