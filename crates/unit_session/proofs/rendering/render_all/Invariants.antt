use Rattle.std.proofs.Common.{take}
use Rattle.unit_steps.specs.Rendering.{WereRendered}
use Rattle.unit_session.proofs.rendering.render_all.Given as goal

abbrev pub invariant-loop-unit : goal.invariant-loop-unit
invariant-loop-unit l = WereRendered l.units l.vtocs (take l.unit-index l.changes) l.rendered.items
