use Rattle.redo_core.proofs.Redoing.{unlisted_targets, placing_moments, closing_moments, redo_done}
use Rattle.redo_core.proofs.Written.{redo_runs}
use Rattle.redo_core.proofs.redo.redo.Goals as goal

pub returns-in_err-place_images-clause-any_moment : goal.returns-in_err-place_images-clause-any_moment
returns-in_err-place_images-clause-any_moment g c = λ told.
    placing_moments (g.P.Pool.shape c.args.pool.now).block_size c.args.journal (g.P.Pool.disk c.args.pool.now) c.args.targets.now (c.requires.synced told) (c.requires.opened told) (c.requires.directory told) c.requires.some
    (unlisted_targets _ c.args.journal c.args.targets.now c.requires.targets) (g.P.Pool.disk c.place_images.new.pool) (c.place_images.ensures.runs told)

pub returns-in_err-set_gate-clause-any_moment : goal.returns-in_err-set_gate-clause-any_moment
returns-in_err-set_gate-clause-any_moment g c = λ told.
    closing_moments (g.P.Pool.shape c.args.pool.now).block_size c.args.journal (g.P.Pool.disk c.args.pool.now) c.args.targets.now (c.requires.synced told) (c.requires.opened told) (c.requires.directory told) c.requires.some
    (unlisted_targets _ c.args.journal c.args.targets.now c.requires.targets) (g.P.Pool.disk c.place_images.new.pool) (g.P.Pool.disk c.set_gate.new.pool) (c.place_images.ensures.runs told)
    (c.in_ok-place_images.ensures.placed told) (c.in_ok-place_images.ensures.synced told) (c.set_gate.ensures.runs told)

pub returns-clause-any_moment : goal.returns-clause-any_moment
returns-clause-any_moment g c = λ told.
    closing_moments (g.P.Pool.shape c.args.pool.now).block_size c.args.journal (g.P.Pool.disk c.args.pool.now) c.args.targets.now (c.requires.synced told) (c.requires.opened told) (c.requires.directory told) c.requires.some
    (unlisted_targets _ c.args.journal c.args.targets.now c.requires.targets) (g.P.Pool.disk c.place_images.new.pool) (g.P.Pool.disk c.set_gate.new.pool) (c.place_images.ensures.runs told)
    (c.in_ok-place_images.ensures.placed told) (c.in_ok-place_images.ensures.synced told) (c.set_gate.ensures.runs told)

pub returns-clause-done : goal.returns-clause-done
returns-clause-done g c = λ told.
    redo_done (g.P.Pool.shape c.args.pool.now).block_size c.args.journal (g.P.Pool.disk c.args.pool.now) c.args.targets.now (c.requires.synced told) (c.requires.opened told) (c.requires.directory told) c.requires.some
    (unlisted_targets _ c.args.journal c.args.targets.now c.requires.targets) (g.P.Pool.disk c.place_images.new.pool) (g.P.Pool.disk c.set_gate.new.pool) _ (c.place_images.ensures.runs told)
    (c.in_ok-place_images.ensures.placed told) (c.in_ok-place_images.ensures.synced told) (c.set_gate.ensures.runs told) (c.in_ok-set_gate.ensures.synced told) (c.in_ok-set_gate.ensures.gate told)

pub returns-in_err-set_gate-clause-runs : goal.returns-in_err-set_gate-clause-runs
returns-in_err-set_gate-clause-runs g c = λ told.
    redo_runs c.args.journal c.args.targets.now (g.P.Pool.disk c.args.pool.now) (g.P.Pool.disk c.place_images.new.pool) (g.P.Pool.disk c.set_gate.new.pool) (c.place_images.ensures.runs told) (c.set_gate.ensures.runs told)

pub returns-clause-runs : goal.returns-clause-runs
returns-clause-runs g c = λ told.
    redo_runs c.args.journal c.args.targets.now (g.P.Pool.disk c.args.pool.now) (g.P.Pool.disk c.place_images.new.pool) (g.P.Pool.disk c.set_gate.new.pool) (c.place_images.ensures.runs told) (c.set_gate.ensures.runs told)
