use Rattle.std.proofs.Common.{length, map, take}
use Rattle.std.specs.Prelude.{All}
use Rattle.job_outputs.specs.Outputs.{IsUsedBefore}
use Rattle.job_outputs.proofs.places.used_name.Given as goal

-- no name so far was used before
abbrev pub invariant-loop-name : goal.invariant-loop-name
invariant-loop-name g l =
    All
    (λ name. ¬ IsUsedBefore
    (map
    (λ out. record {
      name = out.name;
      state = out.state;
      held = (goal.Medium-dyn g (out.medium.vtable, out.medium.value)).held out.medium.value;
      faults = (goal.Medium-dyn g (out.medium.vtable, out.medium.value)).faults out.medium.value;
      puts = (goal.Medium-dyn g (out.medium.vtable, out.medium.value)).puts out.medium.value;
      finished = (goal.Medium-dyn g (out.medium.vtable, out.medium.value)).finished out.medium.value;
    })
    l.outs)
    l.names name)
    (take (length l.yielded) l.names)
