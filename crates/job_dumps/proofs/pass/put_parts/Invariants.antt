use Rattle.std.specs.Prelude.{◌≡◌, take}
use Rattle.job_dumps.specs.Passing.{DumpedCanBeChanged, request_in}
use Rattle.job_dumps.specs.Texts.{OnlyLooks}
use Rattle.job_dumps.proofs.Passed.{HavePassed}
use Rattle.job_dumps.proofs.pass.put_parts.Given as goal

-- the first names had their turns, those that are dumped can be changed, nothing was written on the volume, and the places of the dump are the same
abbrev pub invariant-loop-name : goal.invariant-loop-name
invariant-loop-name g l = record {
  looks : OnlyLooks g.P.Pool l.fn.session l.session;
  passed : HavePassed g.P.Pool
      (λ out. record {
        name = out.name;
        state = out.state;
        held = (goal.Medium-dyn g (out.medium.vtable, out.medium.value)).held out.medium.value;
        faults = (goal.Medium-dyn g (out.medium.vtable, out.medium.value)).faults out.medium.value;
        puts = (goal.Medium-dyn g (out.medium.vtable, out.medium.value)).puts out.medium.value;
        finished = (goal.Medium-dyn g (out.medium.vtable, out.medium.value)).finished out.medium.value;
      })
      l.fn.session (request_in l.scene) l.names l.fn.writer.progress l.fn.writer.outs.items l.name-index l.writer.progress l.writer.outs.items l.told.items;
  places : l.writer.progress.places.items ≡ l.fn.writer.progress.places.items;
  may : DumpedCanBeChanged l.fn.session.units l.scene (take l.name-index l.names) l.told.items;
}
