-- What holds of operands whatever reads them.
use Rattle.std.specs.Prelude.{◌≢◌, true, List, [], ◌∷◌, ◌++◌}
use Rattle.sysin_text.specs.declared.token.Token.{Token}
use Rattle.sysin_words.specs.declared.lead.Verb.{Verb}
use Rattle.sysin_forms.specs.declared.operand.Operand.{Operand}
use Rattle.sysin_values.specs.Begun.{Begin}
use Rattle.sysin_values.specs.Exact.{IsExact, OneValue, EndsAtClose, TellsWhy}
use Rattle.sysin_operands.specs.declared.bracket.Bracket.{Bracket}
use Rattle.sysin_operands.specs.declared.bracket.Bracket.TheVariants as brackets
use Rattle.sysin_operands.specs.declared.operand.OperandPlace.TheVariants as places
use Rattle.sysin_operands.specs.Bracket.{IsContent, IsPlainOperand}
use Rattle.sysin_operands.specs.Content.{start_of, ContentGoes, ContentStops, ContentGives, ContentReads}
use Rattle.sysin_operands.specs.Operand.{OperandGoes, OperandStops, OperandGives, OperandReads}

-- What stands in brackets is read exactly, token by token.
abbrev pub ContentsAreExact : Type 0
ContentsAreExact = (bracket : Bracket) → IsExact (IsContent bracket) (start_of bracket) ContentGoes ContentStops ContentGives (ContentReads bracket)

-- but for criteria a refusal tells why
abbrev pub ContentsTellWhy : Type 0
ContentsTellWhy = (bracket : Bracket) → bracket ≢ brackets.By → TellsWhy (IsContent bracket) ContentStops (ContentReads bracket)

abbrev pub ContentsAreOne : Type 0
ContentsAreOne = (bracket : Bracket) → OneValue (IsContent bracket)

abbrev pub ContentsEnd : Type 0
ContentsEnd = (bracket : Bracket) → EndsAtClose (IsContent bracket)

-- Operands are read exactly, token by token.
abbrev pub OperandsAreExact : Type 0
OperandsAreExact = (verb : Verb) → IsExact (IsPlainOperand verb) places.Start (OperandGoes verb) (OperandStops verb) OperandGives (OperandReads verb)

abbrev pub OperandsAreOne : Type 0
OperandsAreOne = (verb : Verb) → OneValue (IsPlainOperand verb)

-- no token goes on with an operand
abbrev pub OperandsEnd : Type 0
OperandsEnd = (verb : Verb) (operand : Operand) (text : List Token) (token : Token) → IsPlainOperand verb true operand text → ¬ Begin (IsPlainOperand verb) (text ++ token ∷ [])
