use Rattle.std.proofs.Common.{arith, ap, sym, ◌∙◌, length, length-drop}
use Rattle.dscb_rec.proofs.field.pointer_of.Goals as goal

pub unreachable-requires : goal.unreachable-requires
unreachable-requires c = omega (arith, c.in-None.ensures.short, ap length c.tail-2.ensures, length-drop 135 c.args.dscb.now)

pub returns-clause-found : goal.returns-clause-found
returns-clause-found c = (c.in-Some.ensures.found.0, (c.in-Some.field-0-1.now, sym c.tail-2.ensures ∙ c.in-Some.ensures.found.1))
