use Rattle.std.proofs.Common.{◌+◌, ap, ◌∙◌}
use Rattle.free_map.specs.declared.run.Run.{Run}
use Rattle.step_plans.proofs.Fronts.{IsCutSo, whole_next, front_next}
use Rattle.step_plans.proofs.extents.cut_extents.Goals.{then-count-left+in_ok-push, else-count-left+in_ok-push-2}
use Rattle.step_plans.proofs.extents.cut_extents.Goals as goal

pub loop-extent-preserved : goal.loop-extent-preserved
loop-extent-preserved c = record { cut = next.cut; runs = next.runs }
  where
    before : IsCutSo c.args.device c.args.extents.now c.loop-extent.kept.items c.loop-extent.extent-index c.loop-extent.left c.args.keep
    before = record { cut = c.loop-extent.invariant.cut; runs = c.loop-extent.invariant.runs }

    next : IsCutSo c.args.device c.args.extents.now c.if-count-left.kept.items (c.loop-extent.extent-index + 1) c.if-count-left.left c.args.keep
    next = elim c.if-count-left.branch [
      | then-count-left+in_ok-push w ↦
          whole_next c.args.device c.args.extents.now c.loop-extent.kept.items c.if-count-left.kept.items c.loop-extent.extent-index c.loop-extent.left c.if-count-left.left c.args.keep
          c.run_of-count.result.len _ c.requires.runs c.loop-extent-test.true c.if-left-eq0.false (ap (λ (run : Run). run.len) c.run_of-count.ensures.run) w.if-count-left.true w.left-is
          (ap (λ kept. kept.items) w.kept-is ∙ w.in_ok-push.ensures.items) before
      | else-count-left+in_ok-push-2 w ↦
          front_next c.args.device c.args.extents.now c.loop-extent.kept.items c.if-count-left.kept.items c.loop-extent.extent-index c.loop-extent.left c.if-count-left.left c.args.keep
          c.run_of-count.result.len _ w.front_of.result c.loop-extent-test.true c.if-left-eq0.false (ap (λ (run : Run). run.len) c.run_of-count.ensures.run) w.if-count-left.false w.left-is w.front_of.ensures.cut w.front_of.ensures.run
          (ap (λ kept. kept.items) w.kept-is ∙ w.in_ok-push-2.ensures.items) before
    ]
