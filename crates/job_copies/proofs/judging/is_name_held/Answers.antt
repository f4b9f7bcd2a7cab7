use Rattle.std.proofs.Common.{Bool, IsTrue, ◌↔◌, sym, subst}
use Rattle.std.specs.Prelude.{Any}
use Rattle.enq_table.specs.Table.{Conflicts}
use Rattle.job_copies.proofs.Holds.{held_first}
use Rattle.job_copies.proofs.judging.is_name_held.Goals as goal

pub returns : goal.returns
returns c =
    subst (λ (b : Bool). IsTrue b ↔ Any (Conflicts c.args.name.now c.args.change) c.args.held.now) (sym c.is_some.ensures)
    (held_first (Conflicts c.args.name.now c.args.change) c.args.held.now c.conflict.result c.conflict.ensures.first)
