use Rattle.std.proofs.Common.{◌≡◌, ◌*◌, ◌+◌, ◌++◌, ◌∷◌, [], ◌∙◌, drop, sym, arith}
use Rattle.redo_core.specs.Format.{number_at}
use Rattle.redo_core.proofs.Surveying.{targets_in-push, number_behind}
use Rattle.redo_core.proofs.survey.targets_of.Goals as goal

pub loop-k-preserved : goal.loop-k-preserved
loop-k-preserved c =
    let bytes = drop 4 c.args.block.now in
    let unit : c.u32_at-unit.result ≡ number_at (8 * c.loop-k.k) bytes = c.u32_at-unit.ensures ∙ number_behind _ (8 * c.loop-k.k) c.args.block.now (omega arith) in
    let block : c.u32_at-block.result ≡ number_at (8 * c.loop-k.k + 4) bytes = c.u32_at-block.ensures ∙ number_behind _ (8 * c.loop-k.k + 4) c.args.block.now (omega arith) in
    c.in_ok-push.ensures.items ∙ (λ i. c.loop-k.invariant i ++ record { unit = unit i; block = block i } ∷ []) ∙ sym (targets_in-push c.loop-k.k bytes)
