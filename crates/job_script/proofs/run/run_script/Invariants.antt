use Rattle.std.proofs.Common.{◌≡◌}
use Rattle.dump_fmt.specs.Outs.{files_of}
use Rattle.sysin_lang.specs.Script.{plan_of_script, left_of, codes_of}
use Rattle.job_outputs.specs.Kept.{KeepsUsed}
use Rattle.job_script.proofs.Fronts.{RanSoFar}
use Rattle.job_script.proofs.Plans.{most}
use Rattle.job_script.proofs.run.run_script.Given as goal

abbrev pub invariant-statements : goal.invariant-statements
invariant-statements g l = record {
  so_far : RanSoFar g.P.Pool l.fn.session l.between.session l.held l.today (plan_of_script l.script) (left_of l.script l.flow) (codes_of l.flow) l.between.steps.items
      (files_of
      (λ out. record {
        name = out.name;
        state = out.state;
        held = (goal.Medium-dyn g (out.medium.vtable, out.medium.value)).held out.medium.value;
        faults = (goal.Medium-dyn g (out.medium.vtable, out.medium.value)).faults out.medium.value;
        puts = (goal.Medium-dyn g (out.medium.vtable, out.medium.value)).puts out.medium.value;
        finished = (goal.Medium-dyn g (out.medium.vtable, out.medium.value)).finished out.medium.value;
      })
      (λ one. record {
        name = one.name;
        held = (goal.Reel-dyn g (one.reel.vtable, one.reel.value)).held one.reel.value;
        faults = (goal.Reel-dyn g (one.reel.vtable, one.reel.value)).faults one.reel.value;
      })
      l.fn.outs.items l.fn.ins.items)
      (files_of
      (λ out. record {
        name = out.name;
        state = out.state;
        held = (goal.Medium-dyn g (out.medium.vtable, out.medium.value)).held out.medium.value;
        faults = (goal.Medium-dyn g (out.medium.vtable, out.medium.value)).faults out.medium.value;
        puts = (goal.Medium-dyn g (out.medium.vtable, out.medium.value)).puts out.medium.value;
        finished = (goal.Medium-dyn g (out.medium.vtable, out.medium.value)).finished out.medium.value;
      })
      (λ one. record {
        name = one.name;
        held = (goal.Reel-dyn g (one.reel.vtable, one.reel.value)).held one.reel.value;
        faults = (goal.Reel-dyn g (one.reel.vtable, one.reel.value)).faults one.reel.value;
      })
      l.between.outs.items l.ins.items)
      (g.O.Sink.taken l.fn.out) (g.O.Sink.taken l.out) (g.O.Sink.faults l.fn.out) (g.O.Sink.faults l.out);
  outs : KeepsUsed
      (λ out. record {
        name = out.name;
        state = out.state;
        held = (goal.Medium-dyn g (out.medium.vtable, out.medium.value)).held out.medium.value;
        faults = (goal.Medium-dyn g (out.medium.vtable, out.medium.value)).faults out.medium.value;
        puts = (goal.Medium-dyn g (out.medium.vtable, out.medium.value)).puts out.medium.value;
        finished = (goal.Medium-dyn g (out.medium.vtable, out.medium.value)).finished out.medium.value;
      })
      l.fn.outs.items l.between.outs.items;
  ins : l.ins.items ≡ l.fn.ins.items;
}

abbrev pub decreases-statements : goal.decreases-statements
decreases-statements g l = most (left_of l.script l.flow)
