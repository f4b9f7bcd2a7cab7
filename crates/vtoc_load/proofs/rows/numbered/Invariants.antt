use Rattle.std.proofs.Common.{◌≡◌, map, take}
use Rattle.vtoc_core.specs.Loaded.{field_of}
use Rattle.vtoc_load.proofs.rows.numbered.Given as goal

abbrev pub invariant-loop-place : goal.invariant-loop-place
invariant-loop-place l = map field_of l.extents ≡ take l.place l.fields
