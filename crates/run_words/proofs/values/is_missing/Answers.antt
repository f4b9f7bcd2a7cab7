use Rattle.std.proofs.Common.{◌∙◌}
use Rattle.run_words.proofs.Ends.{not_false}
use Rattle.run_words.proofs.Chosen.{skipped, present}
use Rattle.run_words.proofs.values.is_missing.Goals as goal

pub returns-then-is_same : goal.returns-then-is_same
returns-then-is_same c =
    let there = present c.args.name c.args.options.now c.loop-option.option-index c.option-item.result c.loop-option-test.true c.option-item.is c.if-is_same.ensures in
    (λ wrong. absurd (not_false wrong), λ none. absurd (there none))

pub loop-option-preserved : goal.loop-option-preserved
loop-option-preserved c =
    skipped c.args.name c.args.options.now c.loop-option.option-index c.option-item.result c.loop-option-test.true c.option-item.is c.if-is_same.ensures ∙ c.loop-option.invariant
