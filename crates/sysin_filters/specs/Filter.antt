-- Which tokens spell a filter.
use Rattle.std.specs.Prelude.{◌≡◌, ◌⊎◌, Bool, List, [], ◌∷◌, ◌++◌, Option, Some, None}
use Rattle.sysin_text.specs.declared.token.Token.{Token}
use Rattle.sysin_text.specs.declared.token.Token.TheVariants as tokens
use Rattle.sysin_words.specs.declared.keyword.Keyword.{Keyword}
use Rattle.sysin_words.specs.declared.keyword.Keyword.TheVariants as keywords
use Rattle.sysin_lang.specs.declared.command.Filter.{Filter}
use Rattle.sysin_forms.specs.declared.operand.Operand.{Operand}
use Rattle.sysin_forms.specs.Operand.{StandOnce}
use Rattle.sysin_forms.specs.Made.{said, filter_made}
use Rattle.sysin_operands.specs.declared.bracket.Bracket.{Bracket}
use Rattle.sysin_operands.specs.declared.bracket.Bracket.TheVariants as brackets
use Rattle.sysin_operands.specs.Bracket.{IsContent, IsBracketed}

-- things one behind the other, with a comma between two or none
abbrev pub IsSeriesOf : {X : Type 0} → (X → List Token → Type 0) → List X → List Token → Type 0
IsSeriesOf Spells [] text = text ≡ []
IsSeriesOf Spells (x ∷ []) text = Spells x text
IsSeriesOf Spells (x ∷ next ∷ more) text =
    (first : List Token) × (rest : List Token) × ((text ≡ first ++ rest) ⊎ (text ≡ first ++ tokens.Comma ∷ rest)) × Spells x first × IsSeriesOf Spells (next ∷ more) rest

-- what stands in the brackets of a part
abbrev pub part_of : Keyword → Option Bracket
part_of keywords.Include = Some brackets.Include
part_of keywords.Exclude = Some brackets.Exclude
part_of keywords.By = Some brackets.By
part_of _ = None

-- INCLUDE, EXCLUDE or BY, with its list in brackets
abbrev pub IsPart : Bool → Operand → List Token → Type 0
IsPart limited part text = (keyword : Keyword) × (bracket : Bracket) × (part_of keyword ≡ Some bracket) × IsBracketed keyword (IsContent bracket limited part) text

-- a filter is a series of parts, each at most once, and it may have none
abbrev pub IsFilter : Bool → Filter → List Token → Type 0
IsFilter limited filter text = (parts : List Operand) × IsSeriesOf (IsPart limited) parts text × StandOnce parts × (filter ≡ filter_made (said parts))
