use Rattle.std.proofs.Common.{◌≡◌, ◌++◌, length, map, take}
use Rattle.dump_sets.specs.Telling.{lost_lines}
use Rattle.dump_sets.proofs.telling.push_lost.Given as goal

-- the lines of the outputs so far were added
abbrev pub invariant-loop-name : goal.invariant-loop-name
invariant-loop-name g l =
    l.said.items
    ≡ l.fn.said.items
    ++ lost_lines
    (map
    (λ out. record {
      name = out.name;
      state = out.state;
      held = (goal.Medium-dyn g (out.medium.vtable, out.medium.value)).held out.medium.value;
      faults = (goal.Medium-dyn g (out.medium.vtable, out.medium.value)).faults out.medium.value;
      puts = (goal.Medium-dyn g (out.medium.vtable, out.medium.value)).puts out.medium.value;
      finished = (goal.Medium-dyn g (out.medium.vtable, out.medium.value)).finished out.medium.value;
    })
    l.outs)
    (take (length l.yielded) l.names) (take (length l.yielded) l.places)
