use Rattle.std.proofs.Common.{◌≡◌, length, drop}
use Rattle.unit_steps.specs.Rendering.{units_after}
use Rattle.unit_session.proofs.patching.renewed.Given as goal

-- what is left to do leads to the same units
abbrev pub invariant-loop-unit : goal.invariant-loop-unit
invariant-loop-unit l = record {
  long : length l.units.items ≡ length l.fn.units.items;
  same : units_after l.units.items (drop l.unit-index l.changes) l.left.rest.items ≡ units_after l.fn.units.items l.changes l.fn.rendered.items;
}
