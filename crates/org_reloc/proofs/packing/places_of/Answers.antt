use Rattle.std.proofs.Common.{refl, sym, subst}
use Rattle.std.proofs.lemmas.Result.{err_from_is_err_and}
use Rattle.org_reloc.specs.Refusal.{IsLongRefusal}
use Rattle.org_reloc.proofs.Placing.{alone_at, placed_none, placed_more, placed_all, long_at, few_all}
use Rattle.org_reloc.proofs.packing.places_of.Goals as goal

pub take-opens-requires-clause-alone : goal.take-opens-requires-clause-alone
take-opens-requires-clause-alone c =
    alone_at c.args.device c.args.blocks.now c.loop-block.block-index c.block-item.result c.loop-block.cursor c.requires.fit c.loop-block-test.true c.block-item.is c.loop-block.invariant.device_is

pub take-opens-requires-clause-few : goal.take-opens-requires-clause-few
take-opens-requires-clause-few c = c.loop-block.invariant.few

pub loop-block-init : goal.loop-block-init
loop-block-init c = placed_none c.args.device c.args.blocks.now c.new-cursor.result c.new-places.result c.new-cursor.ensures c.new-places.ensures

pub loop-block-preserved : goal.loop-block-preserved
loop-block-preserved c =
    placed_more c.take-opens.result c.args.device c.args.blocks.now c.loop-block.block-index c.block-item.result c.loop-block.cursor c.take-opens.new.self c.loop-block.track c.in_ok-track.track
    c.loop-block.places c.push.new.self c.loop-block.invariant c.loop-block-test.true c.block-item.is c.take-opens.ensures.device c.take-opens.ensures.few
    c.take-opens.ensures.opens c.take-opens.ensures.stays c.take-opens.ensures.opened c.in_ok-track.ensures.next.0 (c.in_ok-track.ensures.next.1 c.loop-block.invariant.near) c.in_ok-push.ensures.ok

pub returns-in_err-track-clause-refused : goal.returns-in_err-track-clause-refused
returns-in_err-track-clause-refused c =
    let p = err_from_is_err_and c.from_residual.result c.from_residual.ensures.1 in
    let refused = c.in_err-track.ensures.refused in
    rw (p.1, p.2) (subst (IsLongRefusal c.args.device c.args.blocks.now) (sym refused.0) (
      refl,
      long_at c.args.device c.args.blocks.now c.loop-block.block-index c.block-item.result c.loop-block.cursor c.loop-block.track c.loop-block.places c.loop-block.invariant
          c.loop-block-test.true c.block-item.is (c.take-opens.ensures.opens.0 refused.1) refused.2 c.requires.fit,
    ))

pub returns-clause-placed : goal.returns-clause-placed
returns-clause-placed c =
    placed_all c.args.device c.args.blocks.now c.loop-block.block-index c.loop-block.cursor c.loop-block.track c.loop-block.places c.loop-block.invariant c.loop-block.auto.block-index-end c.loop-block-test.false

pub returns-clause-few : goal.returns-clause-few
returns-clause-few c =
    few_all c.args.device c.args.blocks.now c.loop-block.block-index c.loop-block.cursor c.loop-block.track c.loop-block.places c.loop-block.invariant c.loop-block-test.false
