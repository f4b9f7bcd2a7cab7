-- What is read of a command so far.
use Rattle.std.specs.Prelude.{◌≡◌, ◌≢◌, ◌⊎◌, ℕ, Bool, true, not, ◌&&◌, if◌then◌else◌, List, [], ◌∷◌, ◌++◌, Some}
use Rattle.std.specs.List.{list_any}
use Rattle.sysin_text.specs.declared.token.Token.{Token}
use Rattle.sysin_text.specs.declared.token.Token.TheVariants as tokens
use Rattle.sysin_words.specs.declared.keyword.Keyword.{Keyword}
use Rattle.sysin_words.specs.declared.keyword.Keyword.TheVariants as keywords
use Rattle.sysin_words.specs.declared.lead.Verb.{Verb}
use Rattle.sysin_words.specs.declared.lead.Verb.TheVariants as verbs
use Rattle.sysin_words.specs.Keyword.{keyword_of}
use Rattle.sysin_lang.specs.declared.command.Command.{Command}
use Rattle.sysin_forms.specs.declared.form.Form.{Form}
use Rattle.sysin_forms.specs.declared.form.Form.TheVariants as forms
use Rattle.sysin_forms.specs.declared.operand.Operand.{Operand}
use Rattle.sysin_forms.specs.declared.operand.Operand.TheVariants as operands
use Rattle.sysin_forms.specs.Operand.{name_of, is_part, clash, has, StandOnce}
use Rattle.sysin_forms.specs.Form.{form_of, verb_of_form, forms_of, keywords_of, is_one_of}
use Rattle.sysin_forms.specs.Made.{IsMadeOf}
use Rattle.sysin_values.specs.declared.fault.ValueFault.{ValueFault}
use Rattle.sysin_values.specs.declared.fault.ValueFault.TheVariants as values
use Rattle.sysin_operands.specs.declared.operand.OperandPlace.TheVariants as plains
use Rattle.sysin_operands.specs.Operand.{IsKeyword}
use Rattle.sysin_filters.specs.declared.filter.FilterPlace.{FilterPlace}
use Rattle.sysin_filters.specs.declared.filter.FilterPlace.TheVariants as parts
use Rattle.sysin_filters.specs.Filter.{IsSeriesOf}
use Rattle.sysin_commands.specs.declared.fault.CommandFault.{CommandFault}
use Rattle.sysin_commands.specs.declared.fault.CommandFault.TheVariants as faults
use Rattle.sysin_commands.specs.declared.operand.AnyPlace.{AnyPlace}
use Rattle.sysin_commands.specs.declared.operand.AnyPlace.TheVariants as any_places
use Rattle.sysin_commands.specs.declared.command.CommandPlace.{CommandPlace}
use Rattle.sysin_commands.specs.declared.command.CommandPlace.TheVariants as places
use Rattle.sysin_commands.specs.declared.command.CommandReading.{CommandReading}
use Rattle.sysin_commands.specs.Operand.{IsOperand}
use Rattle.sysin_commands.specs.AnyOperand.{AnyGoes, AnyStops, AnyGives, AnyReads}
use Rattle.sysin_commands.specs.Command.{takes_all}

-- ---- what may stand next

-- one of these is the keyword's operand, or doesn't stand beside it
abbrev pub one_clashes : List Operand → Keyword → Bool
one_clashes list keyword = list_any (λ operand. clash (name_of operand) keyword) list

-- a form of the verb has all of these, and one with this keyword
abbrev pub has_form : Verb → List Operand → Keyword → Bool
has_form verb list keyword = list_any (λ form. takes_all form list && is_one_of (keywords_of form) keyword) (forms_of verb)

-- an operand with this keyword may stand behind these
abbrev pub may_stand : Verb → List Operand → Keyword → Bool
may_stand verb list keyword = has_form verb list keyword && not (one_clashes list keyword)

-- some operand of a form may
abbrev pub has_room : Form → List Operand → Bool
has_room form list = takes_all form list && list_any (λ keyword. not (one_clashes list keyword)) (keywords_of form)

abbrev pub may_have_more : Verb → List Operand → Bool
may_have_more verb list = list_any (λ form. has_room form list) (forms_of verb)

-- ---- one token more

-- where the operand ends it is added
abbrev pub Behind : CommandReading → AnyPlace → CommandReading
Behind old (any_places.Plain (plains.Ended operand)) = record old { operands = old.operands ++ operand ∷ []; place = places.Behind }
Behind old (any_places.Whole filter) = record old { operands = old.operands ++ operands.Dataset filter ∷ []; place = places.Behind }
Behind old place = record old { place = places.Inside place }

-- a keyword that may stand begins an operand
pub record StartsOperand (old : CommandReading) (token : Token) (new : CommandReading) : Type 0 where
  pub keyword : Keyword
  pub next : AnyPlace
  pub word : IsKeyword keyword token
  pub may : may_stand old.verb old.operands keyword ≡ true
  pub goes : AnyGoes old.verb (any_places.Plain plains.Start) token next
  pub new_is : new ≡ Behind old next

-- what is read with one more token, where it is right
abbrev pub GoesFrom : CommandPlace → CommandReading → Token → CommandReading → Type 0
GoesFrom places.First old token new = StartsOperand old token new
GoesFrom places.Comma old token new = StartsOperand old token new
GoesFrom places.Behind old token new =
    StartsOperand old token new ⊎ ((token ≡ tokens.Comma) × (may_have_more old.verb old.operands ≡ true) × (new ≡ record old { place = places.Comma }))
GoesFrom (places.Inside place) old token new = (next : AnyPlace) × AnyGoes old.verb place token next × (new ≡ Behind old next)

abbrev pub CommandGoes : CommandReading → Token → CommandReading → Type 0
CommandGoes old token new = GoesFrom old.place old token new

-- ---- a token that is wrong

-- no operand begins with this token
abbrev pub StartsNone : CommandReading → Token → Type 0
StartsNone old token = (keyword : Keyword) → IsKeyword keyword token → ¬ (may_stand old.verb old.operands keyword ≡ true)

-- the keyword of an operand that stands already among these, or doesn't stand beside one of them
abbrev pub StandsAlready : List Operand → Token → Type 0
StandsAlready list token = (keyword : Keyword) × IsKeyword keyword token × (one_clashes list keyword ≡ true)

-- the same of a part within a filter
abbrev pub IsBetweenParts : FilterPlace → Type 0
IsBetweenParts (parts.Inside place) = ⊥
IsBetweenParts _ = Unit {0}

abbrev pub PartStands : AnyPlace → Token → Type 0
PartStands (any_places.Inside filter) token =
    IsBetweenParts filter.place × ((keyword : Keyword) × IsKeyword keyword token × (is_part keyword ≡ true) × (one_clashes filter.parts keyword ≡ true))
PartStands _ token = ⊥

-- what stands already is told so, and of all else what is known of it
abbrev pub IsWhy : Type 0 → ValueFault → CommandFault → Type 0
IsWhy Stands known fault = (Stands × (fault ≡ faults.Twice)) ⊎ ((¬ Stands) × (fault ≡ faults.Value known))

-- why a token is wrong
abbrev pub StopsFrom : CommandPlace → CommandReading → Token → CommandFault → Type 0
StopsFrom places.First old token fault = StartsNone old token × IsWhy (StandsAlready old.operands token) values.Word fault
StopsFrom places.Comma old token fault = StartsNone old token × IsWhy (StandsAlready old.operands token) values.Word fault
StopsFrom places.Behind old token fault =
    StartsNone old token × (token ≡ tokens.Comma → ¬ (may_have_more old.verb old.operands ≡ true)) × IsWhy (StandsAlready old.operands token) values.Word fault
StopsFrom (places.Inside place) old token fault = (known : ValueFault) × AnyStops old.verb place token known × IsWhy (PartStands place token) known fault

abbrev pub CommandStops : CommandReading → Token → CommandFault → Type 0
CommandStops old token fault = (fault ≡ faults.Value values.NoMemory) ⊎ StopsFrom old.place old token fault

-- what is known of a token that is wrong, without the words of commands
abbrev pub value_of : CommandFault → ValueFault
value_of (faults.Value known) = known
value_of _ = values.Word

-- ---- its end

-- a command of the verb has these operands, and they make it
abbrev pub Makes : Verb → List Operand → Command → Type 0
Makes verb list command = (verb_of_form (form_of command) ≡ verb) × (takes_all (form_of command) list ≡ true) × IsMadeOf command list

-- the one form of the verb that these can make: FULL tells two of them apart
abbrev pub form_with : Verb → List Operand → Form
form_with verbs.Print list = forms.Print
form_with verbs.Release list = forms.Release
form_with verbs.Consolidate list = forms.Consolidate
form_with verbs.Defrag list = forms.Defrag
form_with verbs.Copy list = forms.Copy
form_with verbs.Dump list = if has keywords.Full list then forms.DumpFull else forms.DumpDataset
form_with verbs.Restore list = if has keywords.Full list then forms.RestoreFull else forms.RestoreDataset

abbrev pub EndsAt : CommandPlace → Type 0
EndsAt places.First = Unit {0}
EndsAt places.Behind = Unit {0}
EndsAt _ = ⊥

abbrev pub CommandGives : CommandReading → Command → Type 0
CommandGives reading command = EndsAt reading.place × Makes reading.verb reading.operands command

-- why no command ends here: the operands that are whole make none, or something is begun behind them
abbrev pub EndsEarly : CommandReading → CommandFault → Type 0
EndsEarly reading faults.Missing = (command : Command) → ¬ Makes reading.verb reading.operands command
EndsEarly reading (faults.Value values.Word) = (¬ EndsAt reading.place) × ((command : Command) × Makes reading.verb reading.operands command)
EndsEarly reading _ = ⊥

-- ---- the tokens that lead to it

-- operands, each once, all of them of one form
abbrev pub AreOperands : Verb → List Operand → List Token → Type 0
AreOperands verb list text = IsSeriesOf (IsOperand verb true) list text × StandOnce list × (list_any (λ form. takes_all form list) (forms_of verb) ≡ true)

-- nothing, or operands and perhaps a comma behind them: an operand may begin
abbrev pub ComeBefore : Verb → List Operand → List Token → Type 0
ComeBefore verb list front =
    ((list ≡ []) × (front ≡ []))
    ⊎ ((list ≢ []) × (AreOperands verb list front ⊎ ((before : List Token) × (front ≡ before ++ tokens.Comma ∷ []) × AreOperands verb list before)))

-- a keyword that may stand, and more behind it
pub record IsBegun (verb : Verb) (list : List Operand) (text : List Token) : Type 0 where
  pub word : List ℕ
  pub tail : List Token
  pub keyword : Keyword
  pub tokens : text ≡ tokens.Word word ∷ tail
  pub spelled : keyword_of word ≡ Some keyword
  pub stands : may_stand verb list keyword ≡ true

abbrev pub ReadsAt : CommandPlace → CommandReading → List Token → Type 0
ReadsAt places.First reading text = (reading.operands ≡ []) × (text ≡ [])
ReadsAt places.Behind reading text = (reading.operands ≢ []) × AreOperands reading.verb reading.operands text
ReadsAt places.Comma reading text =
    (reading.operands ≢ []) × (may_have_more reading.verb reading.operands ≡ true)
    × ((front : List Token) × (text ≡ front ++ tokens.Comma ∷ []) × AreOperands reading.verb reading.operands front)
ReadsAt (places.Inside place) reading text =
    (front : List Token) × (rest : List Token) × (text ≡ front ++ rest) × ComeBefore reading.verb reading.operands front × AnyReads reading.verb place rest
    × IsBegun reading.verb reading.operands rest × ((operand : Operand) → ¬ AnyGives place operand)

abbrev pub CommandReads : CommandReading → List Token → Type 0
CommandReads reading text = ReadsAt reading.place reading text

-- some tokens lead to it
abbrev pub CommandIsRead : CommandReading → Type 0
CommandIsRead reading = (text : List Token) × CommandReads reading text
