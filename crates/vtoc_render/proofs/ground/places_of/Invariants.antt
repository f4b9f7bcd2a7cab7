use Rattle.std.proofs.Common.{◌≡◌, map, take}
use Rattle.layout_edit.specs.Change.{place_of}
use Rattle.vtoc_render.proofs.ground.places_of.Given as goal

abbrev pub invariant-loop-placed : goal.invariant-loop-placed
invariant-loop-placed l = l.places ≡ map place_of (take l.placed-index l.records)
