use Rattle.std.specs.Prelude.{◌≡◌}
use Rattle.job_dumps.proofs.TextsPut.{SoFar}
use Rattle.job_dumps.proofs.texts.put_texts.Given as goal

-- the texts of the first of them were put, at the places of the dump
abbrev pub invariant-loop-track : goal.invariant-loop-track
invariant-loop-track g l = record {
  far : SoFar g.P.Pool
      (λ out. record {
        name = out.name;
        state = out.state;
        held = (goal.Medium-dyn g (out.medium.vtable, out.medium.value)).held out.medium.value;
        faults = (goal.Medium-dyn g (out.medium.vtable, out.medium.value)).faults out.medium.value;
        puts = (goal.Medium-dyn g (out.medium.vtable, out.medium.value)).puts out.medium.value;
        finished = (goal.Medium-dyn g (out.medium.vtable, out.medium.value)).finished out.medium.value;
      })
      l.fn.session l.session l.set l.fn.writer.progress l.fn.writer.outs.items l.writer.progress l.writer.outs.items l.track-index;
  places : l.writer.progress.places.items ≡ l.fn.writer.progress.places.items;
}
