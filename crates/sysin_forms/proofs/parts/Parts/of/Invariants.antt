use Rattle.std.proofs.Common.{◌≡◌, ◌++◌, List, length}
use Rattle.sysin_forms.specs.declared.operand.Operand.{Operand}
use Rattle.sysin_forms.specs.Made.{said}
use Rattle.sysin_forms.proofs.parts.Parts.of.Given as goal

abbrev pub invariant-operands : goal.invariant-operands
invariant-operands l = (taken : List Operand) × (l.fn.operands ≡ l.list.items ++ taken) × (l.parts ≡ said taken)

abbrev pub decreases-operands : goal.decreases-operands
decreases-operands l = length l.list.items
