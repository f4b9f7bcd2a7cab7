use Rattle.std.proofs.lemmas.List.Elements.{All-more}
use Rattle.by_rules.specs.Criterion.{Meets}
use Rattle.by_rules.proofs.Comparing.{some_done}
use Rattle.by_rules.proofs.criterion.Criterion.meets_some.Goals as goal

pub loop-value-preserved : goal.loop-value-preserved
loop-value-preserved c =
    All-more (λ v. ¬ Meets c.args.self.now c.args.row.now c.args.today v) c.as_slice-value-items.result.now c.loop-value.value-index _ c.loop-value-test.true c.loop-value.invariant
    (λ m. let yes = c.if-meets.ensures.1 m in cc)

pub returns : goal.returns
returns c =
    some_done (Meets c.args.self.now c.args.row.now c.args.today) c.as_slice-value-items.result.now c.args.self.now.values c.loop-value.value-index c.as_slice-value-items.ensures c.loop-value-test.false c.loop-value.invariant
