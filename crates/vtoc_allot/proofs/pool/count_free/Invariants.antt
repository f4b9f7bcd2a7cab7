use Rattle.std.proofs.Common.{◌≡◌, ◌≤◌, length, filter, take}
use Rattle.vtoc_allot.proofs.pool.count_free.Given as goal
use Rattle.volume_model.specs.Dscbs.{is_free_record}

abbrev pub invariant-loop-placed : goal.invariant-loop-placed
invariant-loop-placed l = record {
  value : l.count ≡ length (filter is_free_record (take l.placed-index l.records));
  most : l.count ≤ l.placed-index;
}
