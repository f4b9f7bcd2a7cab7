use Rattle.std.proofs.Common.{◌≡◌, ◌*◌, ◌++◌, ◌∷◌, [], ◌∙◌, take, drop, sym, arith}
use Rattle.redo_core.proofs.Surveying.{serials_in-push, six_behind}
use Rattle.redo_core.proofs.survey.serials_of.Goals as goal

pub loop-k-preserved : goal.loop-k-preserved
loop-k-preserved c =
    let bytes = drop 16 c.args.block.now in
    let text : c.six_at-text.result ≡ take 6 (drop (6 * c.loop-k.k) bytes) = c.six_at-text.ensures ∙ six_behind _ (6 * c.loop-k.k) c.args.block.now (omega arith) in
    c.in_ok-push.ensures.items ∙ (λ i. c.loop-k.invariant i ++ record { text = text i } ∷ []) ∙ sym (serials_in-push c.loop-k.k bytes)
