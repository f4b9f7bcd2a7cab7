use Rattle.std.proofs.Common.{inl, inr, true, false}
use Rattle.sysin_operands.proofs.Bracketed.{one, none_behind}
use Rattle.sysin_operands.proofs.Operands.{exact}
use Rattle.sysin_operands.proofs.laws.operand_laws.Goals as goal

pub returns-clause-exact : goal.returns-clause-exact
returns-clause-exact c = exact

pub returns-clause-one : goal.returns-clause-one
returns-clause-one c = one

pub returns-clause-ends : goal.returns-clause-ends
returns-clause-ends c verb operand text token s (inl g) = none_behind verb true operand text token s g
returns-clause-ends c verb operand text token s (inr e) = none_behind verb false operand text token s e.longer
