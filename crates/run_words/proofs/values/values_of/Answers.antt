use Rattle.std.proofs.Common.{◌++◌, ◌∷◌, [], sym, ◌∙◌}
use Rattle.run_words.proofs.Chosen.{kept, skipped}
use Rattle.run_words.proofs.values.values_of.Goals.{then-is_same+in_ok-copy_of+in_ok-push, else-is_same}
use Rattle.run_words.proofs.values.values_of.Goals as goal

pub loop-option-preserved : goal.loop-option-preserved
loop-option-preserved c = elim c.if-is_same.branch [
  | then-is_same+in_ok-copy_of+in_ok-push w ↦
      let more = kept c.args.name c.args.options.now c.loop-option.option-index c.option-item.result c.loop-option-test.true c.option-item.is w.if-is_same.ensures in
      w.values-is ∙ w.in_ok-push.ensures.ok
      ∙ (λ i. c.loop-option.invariant i ++ (w.in_ok-copy_of.ensures ∙ w.as_str.ensures) i ∷ []) ∙ sym more
  | else-is_same w ↦
      w.values-is ∙ c.loop-option.invariant
      ∙ sym (skipped c.args.name c.args.options.now c.loop-option.option-index c.option-item.result c.loop-option-test.true c.option-item.is w.if-is_same.ensures)
]
