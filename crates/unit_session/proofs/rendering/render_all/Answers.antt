use Rattle.std.proofs.lemmas.Result.{err_from_is_err_and}
use Rattle.unit_session.proofs.Rendered.{have_one, were_more, fault_at}
use Rattle.unit_session.proofs.rendering.render_all.Goals as goal

pub render_one-requires : goal.render_one-requires
render_one-requires c =
    record { volume = have_one c.args.units.now c.args.vtocs.now c.args.changes.now c.loop-unit.unit-index c.loop-unit-item.result c.loop-unit-test.true c.loop-unit-item.is c.requires.volumes }

pub returns-in_err-one-clause-fault : goal.returns-in_err-one-clause-fault
returns-in_err-one-clause-fault c =
    let p = err_from_is_err_and c.from_residual.result c.from_residual.ensures.1 in
    rw (p.1, p.2)
    (fault_at c.args.units.now c.args.vtocs.now c.args.changes.now c.loop-unit.unit-index c.loop-unit-item.result c.loop-unit.rendered.items _ c.loop-unit-test.true c.loop-unit-item.is
    c.requires.volumes c.loop-unit.invariant c.in_err-one.ensures.fault)

pub loop-unit-preserved : goal.loop-unit-preserved
loop-unit-preserved c =
    were_more c.args.units.now c.args.vtocs.now c.args.changes.now c.loop-unit.unit-index c.loop-unit-item.result c.loop-unit.rendered.items c.push.new.self.items c.in_ok-one.one
    c.loop-unit-test.true c.loop-unit-item.is c.in-Ok.ensures.items c.loop-unit.invariant c.in_ok-one.ensures.rendered
