use Rattle.std.proofs.Common.{◌≡◌, false, map, take}
use Rattle.dump_sets.specs.Telling.{some_whole}
use Rattle.dump_sets.proofs.telling.is_whole.Given as goal

-- none of the outputs so far is whole
abbrev pub invariant-loop-place : goal.invariant-loop-place
invariant-loop-place g l =
    some_whole
    (map
    (λ out. record {
      name = out.name;
      state = out.state;
      held = (goal.Medium-dyn g (out.medium.vtable, out.medium.value)).held out.medium.value;
      faults = (goal.Medium-dyn g (out.medium.vtable, out.medium.value)).faults out.medium.value;
      puts = (goal.Medium-dyn g (out.medium.vtable, out.medium.value)).puts out.medium.value;
      finished = (goal.Medium-dyn g (out.medium.vtable, out.medium.value)).finished out.medium.value;
    })
    l.outs)
    (take l.place-index l.places)
    ≡ false
