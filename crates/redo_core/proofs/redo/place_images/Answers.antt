use Rattle.std.proofs.Common.{ℕ, ◌≡◌, ◌∙◌, take, get_or, refl, ap, arith}
use Rattle.std.proofs.lemmas.List.{take_more, length-take-le, get_or_default}
use Rattle.dasd_pool.specs.Disk.{Shape}
use Rattle.redo_core.specs.declared.target.Target.{Target}
use Rattle.redo_core.proofs.Redoing.{unlisted_targets, target_runs, place_more}
use Rattle.redo_core.proofs.redo.place_images.Goals as goal

pub returns-in_err-write-clause-runs : goal.returns-in_err-write-clause-runs
returns-in_err-write-clause-runs g c = λ told.
    target_runs c.args.targets.now c.loop-target.target-index (get_or c.args.targets.now c.loop-target.target-index (record { unit = 0; block = 0 })) c.loop-target-test.true
    (get_or_default c.args.targets.now c.loop-target.target-index _ _ c.loop-target-test.true) _ (g.P.Pool.disk c.loop-target.pool) (g.P.Pool.disk c.read.new.self) _
    (c.loop-target.invariant.runs told) (c.read.ensures.runs told) (c.write.ensures.runs told)

pub loop-target-preserved : goal.loop-target-preserved
loop-target-preserved g c =
    let inv = c.loop-target.invariant in
    let size = (g.P.Pool.shape c.args.pool.now).block_size in
    let targets = c.args.targets.now in
    let i = c.loop-target.target-index in
    let target : Target = get_or targets i (record { unit = 0; block = 0 }) in
    let is : target ≡ get_or targets i target = get_or_default targets i _ _ c.loop-target-test.true in
    record {
      shape = c.write.ensures.shape ∙ c.read.ensures.shape ∙ inv.shape;
      next = omega (arith, inv.next);
      faults = omega (arith, inv.faults, c.read.ensures.cause.later, c.write.ensures.cause.later);
      runs = λ told. target_runs targets i target c.loop-target-test.true is _ (g.P.Pool.disk c.loop-target.pool) (g.P.Pool.disk c.read.new.self) _
          (inv.runs told) (c.read.ensures.runs told) (c.write.ensures.runs told);
      placed = λ told.
          let same : (u b : ℕ) → (g.P.Pool.disk c.read.new.self).state.contents u b ≡ (g.P.Pool.disk c.loop-target.pool).state.contents u b = λ u b. (c.read.ensures.runs told).touches.contents u b refl in
          let kept : (g.P.Pool.disk c.loop-target.pool).state.contents c.args.journal c.loop-target.next ≡ (g.P.Pool.disk c.args.pool.now).state.contents c.args.journal c.loop-target.next =
          (inv.runs told).touches.contents c.args.journal c.loop-target.next (unlisted_targets _ c.args.journal targets c.requires.targets c.loop-target.next (λ two. omega (arith, inv.next))) in
          let width : c.block_size-size.result ≡ size target.unit = c.block_size-size.ensures.value ∙ ap (λ (s : Shape). s.block_size target.unit) (c.read.ensures.shape ∙ inv.shape) in
          place_more size c.args.journal (g.P.Pool.disk c.args.pool.now).state.contents (g.P.Pool.disk c.read.new.self).state (g.P.Pool.disk c.write.new.self).state
          (take i targets) _ target c.loop-target.next _ (omega (arith, inv.next, length-take-le i targets (omega arith)))
          ((c.write.ensures.runs told).touches) (c.in_ok-write.ensures.written told)
          (λ j. take (width j) ((c.in_ok-read.ensures.bytes told ∙ kept) j))
          (take_more targets i (record { unit = 0; block = 0 }) c.loop-target-test.true)
          (λ u b. same u b ∙ inv.placed told u b);
    }
