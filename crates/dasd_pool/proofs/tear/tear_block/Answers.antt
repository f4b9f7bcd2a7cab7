use Rattle.std.proofs.Common.{◌∙◌, ◌++◌, [], ◌∷◌, List, length, take, sym, ap, subst}
use Rattle.std.proofs.lemmas.List.{take_more}
use Rattle.std.proofs.lemmas.List.Elements.{All-get_or}
use Rattle.dasd_pool.specs.declared.calls.Call.{Call}
use Rattle.dasd_pool.specs.Blocks.{seen}
use Rattle.dasd_pool.specs.Tears.{Trace, trace_step, trace_after, trace_first, IsSized}
use Rattle.dasd_pool.proofs.Tearing.{HasSize, size_step, trace_push}
use Rattle.dasd_pool.proofs.tear.tear_block.Goals as goal

pub loop-call-preserved : goal.loop-call-preserved
loop-call-preserved c =
    let inv = c.loop-call.invariant in
    let n = length c.args.first.now in
    let call : Call = c.call-item.result in
    let sized : IsSized c.args.unit n call = subst (λ (k : Call). IsSized c.args.unit n k) (sym c.call-item.is) (All-get_or (IsSized c.args.unit n) c.args.calls.now c.loop-call.call-index call c.loop-call-test.true c.requires.calls) in
    let sizes : HasSize n (seen c.after_call-trace.result) =
    subst (HasSize n) (sym c.after_call-trace.ensures) (size_step n c.args.unit c.args.block (seen c.loop-call.trace) call sized (record { base = inv.base; held = inv.held; last = inv.last })) in
    record {
      trace = c.after_call-trace.ensures ∙ ap (λ (t : Trace). trace_step c.args.unit c.args.block t call) inv.trace
          ∙ sym (trace_push c.args.unit c.args.block (trace_first c.args.first.now) (take c.loop-call.call-index c.args.calls.now) call)
          ∙ ap (λ (cs : List Call). trace_after c.args.unit c.args.block (trace_first c.args.first.now) cs)
          (sym (take_more c.args.calls.now c.loop-call.call-index call c.loop-call-test.true ∙ ap (λ (k : Call). take c.loop-call.call-index c.args.calls.now ++ k ∷ []) (sym c.call-item.is)));
      base = sizes.base;
      held = sizes.held;
      last = sizes.last;
    }
