use Rattle.std.proofs.Common.{◌≡◌, rules}
use Rattle.dasd_pool.proofs.Texts.{texts_more}
use Rattle.dasd_pool.proofs.memory.texts_in.Goals as goal

pub loop-unit-preserved : goal.loop-unit-preserved
loop-unit-preserved c =
    let same : c.in_ok-to_vec.field-0.items ≡ c.unit-item.result.blocks = search rules in
    texts_more c.args.units.now c.loop-unit.texts.items _ c.loop-unit.unit-index c.unit-item.result c.in_ok-to_vec.field-0 c.loop-unit-test.true c.unit-item.is same
    c.in_ok-push.ensures.items c.loop-unit.invariant
