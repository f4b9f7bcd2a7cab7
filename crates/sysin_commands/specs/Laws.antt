-- What holds of operands whatever reads them.
use Rattle.std.specs.Prelude.{true, List, [], ◌∷◌, ◌++◌}
use Rattle.sysin_text.specs.declared.token.Token.{Token}
use Rattle.sysin_words.specs.declared.lead.Verb.{Verb}
use Rattle.sysin_forms.specs.declared.operand.Operand.{Operand}
use Rattle.sysin_values.specs.Begun.{Begin}
use Rattle.sysin_values.specs.Exact.{IsExact, OneValue}
use Rattle.sysin_operands.specs.declared.operand.OperandPlace.TheVariants as plains
use Rattle.sysin_commands.specs.declared.operand.AnyPlace.TheVariants as places
use Rattle.sysin_commands.specs.Operand.{IsOperand}
use Rattle.sysin_commands.specs.AnyOperand.{AnyGoes, AnyStops, AnyGives, AnyReads}

-- Operands are read exactly, token by token.
abbrev pub AnyOperandsAreExact : Type 0
AnyOperandsAreExact = (verb : Verb) → IsExact (IsOperand verb) (places.Plain plains.Start) (AnyGoes verb) (AnyStops verb) AnyGives (AnyReads verb)

abbrev pub AnyOperandsAreOne : Type 0
AnyOperandsAreOne = (verb : Verb) → OneValue (IsOperand verb)

-- no token goes on with an operand
abbrev pub AnyOperandsEnd : Type 0
AnyOperandsEnd = (verb : Verb) (operand : Operand) (text : List Token) (token : Token) → IsOperand verb true operand text → ¬ Begin (IsOperand verb) (text ++ token ∷ [])
