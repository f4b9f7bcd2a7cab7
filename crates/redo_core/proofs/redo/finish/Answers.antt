use Rattle.std.proofs.Common.{◌≤◌, length, arith}
use Rattle.dasd_pool.proofs.Moments.{weaken}
use Rattle.redo_core.specs.Reading.{body_for}
use Rattle.redo_core.specs.Steps.{HoldsNew, HoldsSame}
use Rattle.redo_core.proofs.Openings.{holds_same}
use Rattle.redo_core.proofs.redo.finish.Goals as goal

pub returns-in_err-redo-clause-any_moment : goal.returns-in_err-redo-clause-any_moment
returns-in_err-redo-clause-any_moment g c = λ told.
    let size = (g.P.Pool.shape c.args.pool.now).block_size in
    let old = g.P.Pool.disk c.args.pool.now in
    let some : 1 ≤ length c.args.targets.now = grind arith in
    weaken old (g.P.Pool.disk c.redo.new.pool) (HoldsNew size c.args.journal old.state (body_for size c.args.journal old.state.contents c.args.targets.now)) (HoldsSame size c.args.journal old.state.contents)
    (holds_same size c.args.journal old.state c.args.targets.now (c.requires.has told) some) (c.redo.ensures.any_moment told)

pub returns-clause-any_moment : goal.returns-clause-any_moment
returns-clause-any_moment g c = λ told.
    let size = (g.P.Pool.shape c.args.pool.now).block_size in
    let old = g.P.Pool.disk c.args.pool.now in
    let some : 1 ≤ length c.args.targets.now = grind arith in
    weaken old (g.P.Pool.disk c.redo.new.pool) (HoldsNew size c.args.journal old.state (body_for size c.args.journal old.state.contents c.args.targets.now)) (HoldsSame size c.args.journal old.state.contents)
    (holds_same size c.args.journal old.state c.args.targets.now (c.requires.has told) some) (c.redo.ensures.any_moment told)
