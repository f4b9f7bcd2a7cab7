use Rattle.std.proofs.Common.{map, take}
use Rattle.job_outputs.specs.Outputs.{ArePlacesOf}
use Rattle.job_outputs.proofs.places.known_places.Given as goal

-- the names so far have their places
abbrev pub invariant-loop-name : goal.invariant-loop-name
invariant-loop-name g l =
    ArePlacesOf
    (map
    (λ out. record {
      name = out.name;
      state = out.state;
      held = (goal.Medium-dyn g (out.medium.vtable, out.medium.value)).held out.medium.value;
      faults = (goal.Medium-dyn g (out.medium.vtable, out.medium.value)).faults out.medium.value;
      puts = (goal.Medium-dyn g (out.medium.vtable, out.medium.value)).puts out.medium.value;
      finished = (goal.Medium-dyn g (out.medium.vtable, out.medium.value)).finished out.medium.value;
    })
    l.outs)
    (take l.name-index l.names) l.places.items
