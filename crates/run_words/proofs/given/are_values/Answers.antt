use Rattle.std.proofs.Common.{sym, subst, refl, ap, ◌∙◌}
use Rattle.std.proofs.lemmas.List.Elements.{All-more}
use Rattle.run_words.specs.Words.{IsValue}
use Rattle.run_words.specs.declared.given.Given.{Given}
use Rattle.run_words.proofs.Ends.{not_false}
use Rattle.run_words.proofs.Lists.{all_taken}
use Rattle.run_words.proofs.Walks.{AreValues}
use Rattle.run_words.proofs.given.are_values.Goals as goal

pub returns-then-not-is_value : goal.returns-then-not-is_value
returns-then-not-is_value c =
    let same = ap (λ (given : Given). given.value) (sym c.given-item.is) ∙ sym c.as_str.ensures in
    (λ wrong. absurd (not_false wrong), λ all. c.if-not-is_value.ensures.1 (subst IsValue same (all c.loop-given.given-index c.given-item.result c.loop-given-test.true)))

pub loop-given-preserved : goal.loop-given-preserved
loop-given-preserved c =
    All-more (λ (given : Given). IsValue given.value) c.args.options.now c.loop-given.given-index c.given-item.result c.loop-given-test.true c.loop-given.invariant
    (subst IsValue (c.as_str.ensures ∙ ap (λ (given : Given). given.value) c.given-item.is) (c.if-not-is_value.ensures.0 refl))

pub returns : goal.returns
returns c =
    let whole = all_taken c.args.options.now c.loop-given.given-index c.loop-given.auto.given-index-end c.loop-given-test.false in
    (λ right. subst AreValues whole c.loop-given.invariant, λ all. refl)
