-- Which tokens behind a verb spell a command.
use Rattle.std.specs.Prelude.{◌≡◌, Bool, true, List}
use Rattle.std.specs.List.{list_all}
use Rattle.sysin_text.specs.declared.token.Token.{Token}
use Rattle.sysin_words.specs.declared.lead.Verb.{Verb}
use Rattle.sysin_lang.specs.declared.command.Command.{Command}
use Rattle.sysin_forms.specs.declared.form.Form.{Form}
use Rattle.sysin_forms.specs.declared.operand.Operand.{Operand}
use Rattle.sysin_forms.specs.Operand.{name_of, StandOnce}
use Rattle.sysin_forms.specs.Form.{form_of, verb_of_form, keywords_of, is_one_of}
use Rattle.sysin_forms.specs.Made.{IsMadeOf}
use Rattle.sysin_filters.specs.Filter.{IsSeriesOf}
use Rattle.sysin_commands.specs.Operand.{IsOperand}

-- a form may have all of these operands
abbrev pub takes_all : Form → List Operand → Bool
takes_all form list = list_all (λ operand. is_one_of (keywords_of form) (name_of operand)) list

-- a series of operands, each once, all of them the command's, which make it
pub record IsCommand (verb : Verb) (limited : Bool) (command : Command) (text : List Token) : Type 0 where
  pub list : List Operand
  pub own : verb_of_form (form_of command) ≡ verb
  pub series : IsSeriesOf (IsOperand verb limited) list text
  pub once : StandOnce list
  pub takes : takes_all (form_of command) list ≡ true
  pub made : IsMadeOf command list
