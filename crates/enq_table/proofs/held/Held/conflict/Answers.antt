use Rattle.std.proofs.lemmas.List.Elements.{recursion_from_All}
use Rattle.enq_table.specs.Table.{Conflicts, IsHold}
use Rattle.enq_table.proofs.Holders.{first_lawful}
use Rattle.enq_table.proofs.held.Held.conflict.Goals as goal

pub returns-clause-lawful : goal.returns-clause-lawful
returns-clause-lawful c =
    first_lawful (Conflicts c.args.name.now c.args.change) c.self.inside.holds.items c.conflict.result (recursion_from_All IsHold c.self.inside.holds.items c.self.invariant.0.each)
    (c.conflict.ensures c.self.inside.holds.items c.self.invariant.0 c.self.invariant.1)
