-- What is read of a filter so far.
use Rattle.std.specs.Prelude.{◌≡◌, ◌≢◌, ◌⊎◌, Bool, true, not, ◌&&◌, ◌||◌, List, [], ◌∷◌, ◌++◌, Some}
use Rattle.std.specs.List.{list_any}
use Rattle.sysin_text.specs.declared.token.Token.{Token}
use Rattle.sysin_text.specs.declared.token.Token.TheVariants as tokens
use Rattle.sysin_words.specs.declared.keyword.Keyword.{Keyword}
use Rattle.sysin_words.specs.declared.keyword.Keyword.TheVariants as keywords
use Rattle.sysin_lang.specs.declared.command.Filter.{Filter}
use Rattle.sysin_forms.specs.declared.operand.Operand.{Operand}
use Rattle.sysin_forms.specs.Operand.{name_of, is_part, clash, StandOnce}
use Rattle.sysin_forms.specs.Made.{said, filter_made}
use Rattle.sysin_values.specs.declared.fault.ValueFault.{ValueFault}
use Rattle.sysin_values.specs.declared.fault.ValueFault.TheVariants as faults
use Rattle.sysin_operands.specs.declared.bracket.Bracket.{Bracket}
use Rattle.sysin_operands.specs.declared.operand.OperandPlace.{OperandPlace}
use Rattle.sysin_operands.specs.declared.operand.OperandPlace.TheVariants as operands
use Rattle.sysin_operands.specs.Operand.{IsKeyword, OperandGoes, OperandStops, OperandReads}
use Rattle.sysin_filters.specs.declared.filter.FilterPlace.{FilterPlace}
use Rattle.sysin_filters.specs.declared.filter.FilterPlace.TheVariants as places
use Rattle.sysin_filters.specs.declared.filter.FilterReading.{FilterReading}
use Rattle.sysin_filters.specs.Filter.{IsSeriesOf, IsPart, part_of}

-- ---- what may stand next

-- a part with this keyword may stand behind these
abbrev pub may_stand : List Operand → Keyword → Bool
may_stand parts keyword = is_part keyword && not (list_any (λ part. clash (name_of part) keyword) parts)

-- some part may
abbrev pub may_have_more : List Operand → Bool
may_have_more parts = may_stand parts keywords.Include || may_stand parts keywords.Exclude || may_stand parts keywords.By

-- ---- one token more

-- a keyword that may stand begins a part
pub record StartsPart (old : FilterReading) (token : Token) (new : FilterReading) : Type 0 where
  pub keyword : Keyword
  pub bracket : Bracket
  pub word : IsKeyword keyword token
  pub may : may_stand old.parts keyword ≡ true
  pub brackets : part_of keyword ≡ Some bracket
  pub new_is : new ≡ record old { place = places.Inside (operands.Named bracket) }

-- where the part ends it is added
abbrev pub Behind : FilterReading → OperandPlace → FilterReading
Behind old (operands.Ended part) = record old { parts = old.parts ++ part ∷ []; place = places.Behind }
Behind old place = record old { place = places.Inside place }

-- what is read with one more token, where it is right
abbrev pub GoesFrom : FilterPlace → FilterReading → Token → FilterReading → Type 0
GoesFrom places.First old token new = StartsPart old token new
GoesFrom places.Comma old token new = StartsPart old token new
GoesFrom places.Behind old token new =
    StartsPart old token new ⊎ ((token ≡ tokens.Comma) × (may_have_more old.parts ≡ true) × (new ≡ record old { place = places.Comma }))
GoesFrom (places.Inside place) old token new = (next : OperandPlace) × OperandGoes old.verb place token next × (new ≡ Behind old next)

abbrev pub FilterGoes : FilterReading → Token → FilterReading → Type 0
FilterGoes old token new = GoesFrom old.place old token new

-- no part begins with this token
abbrev pub StartsNone : FilterReading → Token → Type 0
StartsNone old token = (keyword : Keyword) → IsKeyword keyword token → ¬ (may_stand old.parts keyword ≡ true)

-- why a token is wrong
abbrev pub StopsFrom : FilterPlace → FilterReading → Token → ValueFault → Type 0
StopsFrom places.First old token fault = (fault ≡ faults.Word) × StartsNone old token
StopsFrom places.Comma old token fault = (fault ≡ faults.Word) × StartsNone old token
StopsFrom places.Behind old token fault = (fault ≡ faults.Word) × StartsNone old token × (token ≡ tokens.Comma → ¬ (may_have_more old.parts ≡ true))
StopsFrom (places.Inside place) old token fault = (fault ≡ faults.NoMemory) ⊎ OperandStops old.verb place token fault

abbrev pub FilterStops : FilterReading → Token → ValueFault → Type 0
FilterStops old token fault = StopsFrom old.place old token fault

-- ---- its end

abbrev pub EndsAt : FilterPlace → Type 0
EndsAt places.First = Unit {0}
EndsAt places.Behind = Unit {0}
EndsAt _ = ⊥

abbrev pub CanEnd : FilterReading → Type 0
CanEnd reading = EndsAt reading.place

abbrev pub FilterGives : FilterReading → Filter → Type 0
FilterGives reading filter = CanEnd reading × (filter ≡ filter_made (said reading.parts))

-- ---- the tokens that lead to it

-- parts, each once
abbrev pub AreParts : List Operand → List Token → Type 0
AreParts parts text = IsSeriesOf (IsPart true) parts text × StandOnce parts

-- nothing, or parts and perhaps a comma behind them: a part may begin
abbrev pub ComeBefore : List Operand → List Token → Type 0
ComeBefore parts front =
    ((parts ≡ []) × (front ≡ []))
    ⊎ ((parts ≢ []) × (AreParts parts front ⊎ ((before : List Token) × (front ≡ before ++ tokens.Comma ∷ []) × AreParts parts before)))

-- the part that is read may stand
abbrev pub MayStandAt : List Operand → OperandPlace → Type 0
MayStandAt parts (operands.Named bracket) = (keyword : Keyword) × (part_of keyword ≡ Some bracket) × (may_stand parts keyword ≡ true)
MayStandAt parts (operands.Inside bracket content) = (keyword : Keyword) × (part_of keyword ≡ Some bracket) × (may_stand parts keyword ≡ true)
MayStandAt parts _ = ⊥

abbrev pub ReadsAt : FilterPlace → FilterReading → List Token → Type 0
ReadsAt places.First reading text = (reading.parts ≡ []) × (text ≡ [])
ReadsAt places.Behind reading text = (reading.parts ≢ []) × AreParts reading.parts text
ReadsAt places.Comma reading text =
    (reading.parts ≢ []) × (may_have_more reading.parts ≡ true) × ((front : List Token) × (text ≡ front ++ tokens.Comma ∷ []) × AreParts reading.parts front)
ReadsAt (places.Inside place) reading text =
    (front : List Token) × (rest : List Token) × (text ≡ front ++ rest) × ComeBefore reading.parts front × OperandReads reading.verb place rest × MayStandAt reading.parts place

abbrev pub FilterReads : FilterReading → List Token → Type 0
FilterReads reading text = ReadsAt reading.place reading text

-- some tokens lead to it
abbrev pub FilterIsRead : FilterReading → Type 0
FilterIsRead reading = (text : List Token) × FilterReads reading text
