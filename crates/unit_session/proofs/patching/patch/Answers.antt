use Rattle.std.proofs.Common.{◌≡◌, ℕ, ◌+◌, ◌-◌, ◌*◌, ◌<◌, List, ◌++◌, length, take, drop, refl, ap, subst, arith}
use Rattle.unit_load.proofs.Slotted.{more_places}
use Rattle.unit_session.proofs.Patched.{block_held, block_long, patched_more}
use Rattle.unit_session.proofs.patching.patch.Goals as goal

pub loop-block-init : goal.loop-block-init
loop-block-init c = record { long = refl; each = λ k less. refl }

pub loop-block-preserved : goal.loop-block-preserved
loop-block-preserved c =
    let start : ℕ = (c.block-item.result.track - c.args.run.first) * c.args.size in
    let old = c.loop-block.slots in
    patched_more c.args.run c.args.size c.args.blocks.now c.requires.blocks c.loop-block.block-index c.block-item.result c.loop-block-test.true c.block-item.is
    c.args.slots.now old c.put_over.new.self c.requires.whole
    (subst
    (λ (l : List ℕ). c.put_over.new.self ≡ take ((c.block-item.result.track - c.args.run.first) * c.args.size) old ++ (l ++ drop ((c.block-item.result.track - c.args.run.first) * c.args.size + length l) old))
    c.as_slice.ensures.same c.put_over.ensures)
    c.loop-block.invariant

pub put_over-requires : goal.put_over-requires
put_over-requires c =
    let run = c.args.run in
    let size = c.args.size in
    let block = c.block-item.result in
    let held = block_held run size c.args.blocks.now c.requires.blocks c.loop-block.block-index block c.loop-block-test.true c.block-item.is in
    let long = block_long run size c.args.blocks.now c.requires.blocks c.loop-block.block-index block c.loop-block-test.true c.block-item.is in
    let less : block.track - run.first < run.len = omega (arith, held.0, held.1) in
    omega (arith, more_places run.len (block.track - run.first) size less, c.requires.whole, c.loop-block.invariant.long, long, ap length c.as_slice.ensures.same)
