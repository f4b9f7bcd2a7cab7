use Rattle.std.proofs.Common.{◌≡◌, take}
use Rattle.volume_model.specs.Space.{all_extents}
use Rattle.vtoc_check.proofs.space.all_extents.Given as goal

abbrev pub invariant-loop-placed : goal.invariant-loop-placed
invariant-loop-placed l = l.runs.items ≡ all_extents l.heads l.limit (take l.placed-index l.records)
