use Rattle.std.proofs.Common.{Option, drop}
use Rattle.enq_table.specs.declared.hold.Hold.{Hold}
use Rattle.enq_table.specs.Index.{IsOn, IsFirst}
use Rattle.enq_table.proofs.held.first_on.Given as goal

abbrev pub invariant-loop-held : goal.invariant-loop-held
invariant-loop-held l = (first : Option Hold) → IsFirst (IsOn l.name) (drop l.held-index l.holds) first → IsFirst (IsOn l.name) l.holds first
