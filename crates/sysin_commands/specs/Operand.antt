-- Which tokens spell an operand.
use Rattle.std.specs.Prelude.{◌≡◌, ◌⊎◌, Bool, List}
use Rattle.sysin_text.specs.declared.token.Token.{Token}
use Rattle.sysin_words.specs.declared.keyword.Keyword.TheVariants as keywords
use Rattle.sysin_words.specs.declared.lead.Verb.{Verb}
use Rattle.sysin_lang.specs.declared.command.Filter.{Filter}
use Rattle.sysin_forms.specs.declared.operand.Operand.{Operand}
use Rattle.sysin_forms.specs.declared.operand.Operand.TheVariants as operands
use Rattle.sysin_operands.specs.Bracket.{IsBracketed, IsPlainOperand}
use Rattle.sysin_filters.specs.Filter.{IsFilter}

-- DATASET with a filter in its brackets
abbrev pub IsDataset : Bool → Operand → List Token → Type 0
IsDataset limited operand text = (filter : Filter) × (operand ≡ operands.Dataset filter) × IsBracketed keywords.Dataset (IsFilter limited filter) text

-- an operand of a command with this verb
abbrev pub IsOperand : Verb → Bool → Operand → List Token → Type 0
IsOperand verb limited operand text = IsPlainOperand verb limited operand text ⊎ IsDataset limited operand text
