use Rattle.std.proofs.Common.{◌≡◌, take}
use Rattle.volume_model.specs.Space.{all_entries}
use Rattle.vtoc_check.proofs.space.all_entries.Given as goal

abbrev pub invariant-loop-placed : goal.invariant-loop-placed
invariant-loop-placed l = l.runs.items ≡ all_entries l.heads (take l.placed-index l.records)
