-- What is read of an operand so far.
use Rattle.std.specs.Prelude.{◌≡◌, ◌⊎◌, ℕ, true, List, [], ◌∷◌, Some}
use Rattle.sysin_text.specs.declared.token.Token.{Token}
use Rattle.sysin_text.specs.declared.token.Token.TheVariants as tokens
use Rattle.sysin_words.specs.declared.keyword.Keyword.TheVariants as keywords
use Rattle.sysin_words.specs.declared.lead.Verb.{Verb}
use Rattle.sysin_words.specs.Keyword.{keyword_of}
use Rattle.sysin_lang.specs.declared.command.Filter.{Filter}
use Rattle.sysin_forms.specs.declared.operand.Operand.{Operand}
use Rattle.sysin_forms.specs.declared.operand.Operand.TheVariants as operands
use Rattle.sysin_values.specs.declared.fault.ValueFault.{ValueFault}
use Rattle.sysin_values.specs.declared.fault.ValueFault.TheVariants as faults
use Rattle.sysin_operands.specs.declared.operand.OperandPlace.{OperandPlace}
use Rattle.sysin_operands.specs.declared.operand.OperandPlace.TheVariants as plains
use Rattle.sysin_operands.specs.Bracket.{IsBracketed}
use Rattle.sysin_operands.specs.Operand.{IsKeyword, OperandGoes, OperandStops, OperandGives, OperandReads}
use Rattle.sysin_filters.specs.declared.filter.FilterReading.{FilterReading}
use Rattle.sysin_filters.specs.Filter.{IsFilter}
use Rattle.sysin_filters.specs.Progress.{FilterGoes, FilterStops, FilterGives, FilterReads, CanEnd}
use Rattle.sysin_filters.specs.Laws.{start_with}
use Rattle.sysin_commands.specs.declared.operand.AnyPlace.{AnyPlace}
use Rattle.sysin_commands.specs.declared.operand.AnyPlace.TheVariants as places

-- ---- one token more

-- the keyword DATASET where nothing is read
abbrev pub StartsDataset : OperandPlace → Token → Type 0
StartsDataset place token = (place ≡ plains.Start) × IsKeyword keywords.Dataset token

-- the bracket is closed with this token, or the filter in it goes on
abbrev pub EndsOrGoes : FilterReading → Token → AnyPlace → Type 0
EndsOrGoes filter token new =
    ((whole : Filter) × (token ≡ tokens.Close) × FilterGives filter whole × (new ≡ places.Whole whole))
    ⊎ ((more : FilterReading) × (token ≡ tokens.Close → ¬ CanEnd filter) × FilterGoes filter token more × (new ≡ places.Inside more))

-- what is read with one more token, where it is right
abbrev pub AnyGoes : Verb → AnyPlace → Token → AnyPlace → Type 0
AnyGoes verb (places.Plain place) token new =
    (StartsDataset place token × (new ≡ places.Named)) ⊎ ((next : OperandPlace) × OperandGoes verb place token next × (new ≡ places.Plain next))
AnyGoes verb places.Named token new = (token ≡ tokens.Open) × (new ≡ places.Inside (start_with verb))
AnyGoes verb (places.Inside filter) token new = EndsOrGoes filter token new
AnyGoes verb (places.Whole filter) token new = ⊥

-- why a token is wrong
abbrev pub AnyStops : Verb → AnyPlace → Token → ValueFault → Type 0
AnyStops verb (places.Plain place) token fault = (¬ StartsDataset place token) × OperandStops verb place token fault
AnyStops verb places.Named token fault = (fault ≡ faults.Word) × ¬ (token ≡ tokens.Open)
AnyStops verb (places.Inside filter) token fault = (token ≡ tokens.Close → ¬ CanEnd filter) × FilterStops filter token fault
AnyStops verb (places.Whole filter) token fault = fault ≡ faults.Word

-- ---- its end

-- the operand, where it is read whole
abbrev pub AnyGives : AnyPlace → Operand → Type 0
AnyGives (places.Plain place) operand = OperandGives place operand
AnyGives places.Named operand = ⊥
AnyGives (places.Inside filter) operand = ⊥
AnyGives (places.Whole filter) operand = operand ≡ operands.Dataset filter

-- ---- the tokens that lead to it

abbrev pub AnyReads : Verb → AnyPlace → List Token → Type 0
AnyReads verb (places.Plain place) text = OperandReads verb place text
AnyReads verb places.Named text = (word : List ℕ) × (text ≡ tokens.Word word ∷ []) × (keyword_of word ≡ Some keywords.Dataset)
AnyReads verb (places.Inside filter) text =
    (word : List ℕ) × (front : List Token) × (text ≡ tokens.Word word ∷ tokens.Open ∷ front) × (keyword_of word ≡ Some keywords.Dataset)
    × ((filter.verb ≡ verb) × FilterReads filter front)
AnyReads verb (places.Whole filter) text = IsBracketed keywords.Dataset (IsFilter true filter) text

-- some tokens lead to it
abbrev pub AnyIsRead : Verb → AnyPlace → Type 0
AnyIsRead verb place = (text : List Token) × AnyReads verb place text
