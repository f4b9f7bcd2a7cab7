use Rattle.std.proofs.Common.{◌≡◌, take, map, All}
use Rattle.vtoc_core.specs.Loaded.{row_in, HasItsName}
use Rattle.vtoc_load.specs.LoadedVtoc.{row_with}
use Rattle.vtoc_load.proofs.rows.rows_of.Given as goal

-- the rows so far
abbrev pub invariant-loop-bytes : goal.invariant-loop-bytes
invariant-loop-bytes l = record {
  rows : map row_in l.rows ≡ map (row_with l.directory.heads l.directory.records.items) (take l.bytes-index l.sets);
  names : All HasItsName l.rows;
}
