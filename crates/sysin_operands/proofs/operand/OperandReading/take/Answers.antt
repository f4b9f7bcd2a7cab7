use Rattle.std.proofs.Common.{rules, sym, subst}
use Rattle.std.specs.Prelude.{IfErr}
use Rattle.sysin_operands.specs.declared.operand.OperandPlace.{OperandPlace}
use Rattle.sysin_operands.specs.Operand.{OperandStops}
use Rattle.sysin_operands.proofs.operand.OperandReading.take.Goals as goal

pub returns-in_err-place-in-Inside-clause-refused :
    goal.returns-in_err-place-in-Inside-clause-refused
returns-in_err-place-in-Inside-clause-refused c =
    subst (λ (place : OperandPlace). IfErr c.from_residual-in_err-place-in-Inside.result (OperandStops c.args.self.verb place c.args.token.now)) (sym c.in-Inside.is)
    (search rules)
