use Rattle.enq_table.specs.Table.{Conflicts}
use Rattle.std.proofs.Common.{true, IsTrue, Bool, ◌↔◌, sym, subst}
use Rattle.job_ops.specs.Reasons.{IsHeld}
use Rattle.job_ops.proofs.asking.is_held.Goals as goal
use Rattle.dump_sets.proofs.job_turns.job_copies.Holds.{held_first}

pub returns : goal.returns
returns c =
    subst (λ (b : Bool). IsTrue b ↔ IsHeld c.args.held.now c.args.name.now) (sym c.is_some.ensures)
    (held_first (Conflicts c.args.name.now true) c.args.held.now c.conflict.result c.conflict.ensures.first)
