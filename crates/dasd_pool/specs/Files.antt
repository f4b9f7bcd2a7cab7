-- A pool over files, which tells nothing but what never changes.
use Rattle.std.specs.Prelude.{List, [], true, false, length, map, slice_index_or}
use Rattle.dasd_pool.specs.declared.file_unit.FileUnit.{FileUnit}
use Rattle.dasd_pool.specs.Disk.{Shape, Disk, MayLeave}

-- head, block size and number of blocks of each unit, and whether it may be written
abbrev pub shape_of_files : List FileUnit → Shape
shape_of_files units = record {
  units = length units;
  head = λ u. slice_index_or (map (λ unit. unit.head) units) u [];
  block_size = λ u. slice_index_or (map (λ unit. unit.size) units) u 0;
  blocks = λ u. slice_index_or (map (λ unit. unit.count) units) u 0;
  may_write = λ u. slice_index_or (map (λ unit. unit.may_write) units) u false;
}

-- nothing is told
abbrev pub untold : Disk
untold = record {
  state = record { contents = λ u b. []; synced = λ u b. true };
  moment = 0;
  left_since = λ since image. MayLeave (record { contents = λ u b. []; synced = λ u b. true }) image;
  keeps_past = Unit {0};
  counts_now = λ since image le now. now;
  only_now = λ image left. left;
}
