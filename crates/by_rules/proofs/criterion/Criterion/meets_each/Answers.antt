use Rattle.std.proofs.Common.{refl}
use Rattle.std.proofs.lemmas.List.Elements.{All-more}
use Rattle.by_rules.specs.Criterion.{Meets}
use Rattle.by_rules.proofs.Comparing.{each_done, each_stops}
use Rattle.by_rules.proofs.criterion.Criterion.meets_each.Goals as goal

pub returns-then-not-meets : goal.returns-then-not-meets
returns-then-not-meets c =
    each_stops (Meets c.args.self.now c.args.row.now c.args.today) c.as_slice-value-items.result.now c.args.self.now.values c.loop-value.value-index _ c.as_slice-value-items.ensures c.loop-value-test.true
    (λ m. let yes = c.if-not-meets.ensures.1 m in cc)

pub loop-value-preserved : goal.loop-value-preserved
loop-value-preserved c =
    All-more (Meets c.args.self.now c.args.row.now c.args.today) c.as_slice-value-items.result.now c.loop-value.value-index _ c.loop-value-test.true c.loop-value.invariant
    (c.if-not-meets.ensures.0 refl)

pub returns : goal.returns
returns c =
    each_done (Meets c.args.self.now c.args.row.now c.args.today) c.as_slice-value-items.result.now c.args.self.now.values c.loop-value.value-index c.as_slice-value-items.ensures c.loop-value-test.false c.loop-value.invariant
