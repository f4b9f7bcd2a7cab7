use Rattle.std.proofs.Common.{◌^◌, ap, arith}
use Rattle.ckd_image.specs.Device.{heads_of}
use Rattle.free_map.specs.declared.run.Run.{Run}
use Rattle.plan_core.proofs.Sums.{summed, next_few}
use Rattle.plan_core.proofs.extents.count_tracks.Goals as goal

pub overflow_add-count : goal.overflow_add-count
overflow_add-count c =
    let next = next_few (heads_of c.args.device) c.args.extents.now c.loop-extent.extent-index c.loop-extent.count c.run_of-count.result.len (2 ^ 32) _ c.requires c.loop-extent-test.true
    (ap (λ (run : Run). run.len) c.run_of-count.ensures.run) c.loop-extent.invariant in
    omega (arith, next)

pub loop-extent-preserved : goal.loop-extent-preserved
loop-extent-preserved c =
    summed (heads_of c.args.device) c.args.extents.now c.loop-extent.extent-index c.loop-extent.count c.run_of-count.result.len _ c.loop-extent-test.true
    (ap (λ (run : Run). run.len) c.run_of-count.ensures.run) c.loop-extent.invariant
