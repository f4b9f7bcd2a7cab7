use Rattle.std.proofs.Common.{All, take}
use Rattle.free_map.specs.Place.{rounded}
use Rattle.free_map.proofs.Fit.{IsShort}
use Rattle.free_map.proofs.places.lowest_place.Given as goal

abbrev pub invariant-loop-run : goal.invariant-loop-run
invariant-loop-run l = All (IsShort l.step (rounded l.need l.step)) (take l.run-index l.runs)
