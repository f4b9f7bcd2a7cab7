-- What one more token leaves.
use Rattle.std.proofs.Common.{◌≡◌, inl, inr, List, refl, sym, subst, true}
use Rattle.std.specs.Prelude.{IfOk, Result, Ok, Err}
use Rattle.sysin_text.specs.declared.token.Token.{Token}
use Rattle.sysin_text.specs.declared.token.Token.TheVariants.{Comma}
use Rattle.sysin_words.specs.declared.keyword.Keyword.{Keyword}
use Rattle.sysin_words.specs.declared.lead.Verb.{Verb}
use Rattle.sysin_forms.specs.declared.operand.Operand.{Operand}
use Rattle.sysin_values.specs.declared.fault.ValueFault.{ValueFault}
use Rattle.sysin_operands.specs.declared.operand.OperandPlace.{OperandPlace}
use Rattle.sysin_operands.specs.declared.operand.OperandPlace.TheVariants as operand_places
use Rattle.sysin_operands.specs.declared.operand.OperandReading.{OperandReading}
use Rattle.sysin_operands.specs.Operand.{IsKeyword, OperandStops}
use Rattle.sysin_filters.specs.declared.filter.FilterPlace.{FilterPlace}
use Rattle.sysin_filters.specs.declared.filter.FilterPlace.TheVariants as places
use Rattle.sysin_filters.specs.declared.filter.FilterReading.{FilterReading}
use Rattle.sysin_filters.specs.Progress.{may_stand, may_have_more, StartsPart, GoesFrom, FilterGoes, FilterIsRead}
use Rattle.sysin_filters.proofs.Once.{is_a_part}
use Rattle.sysin_filters.proofs.Parts.{part_has_brackets, brackets_of_part}
use Rattle.sysin_filters.proofs.Filters.{read_on}

pub taken_is_read : (old : FilterReading) (token : Token) (r : Result FilterReading ValueFault) → FilterIsRead old → IfOk r (FilterGoes old token) → IfOk r FilterIsRead
taken_is_read old token (Ok new) read goes = read_on old new token read goes
taken_is_read old token (Err fault) read goes = tt

-- a part that begins here does so wherever one may
starts_same : (old new : FilterReading) (place : FilterPlace) (token : Token) → StartsPart (record { verb = old.verb; parts = old.parts; place = place }) token new → StartsPart old token new
starts_same old new place token s = record { keyword = s.keyword; bracket = s.bracket; word = s.word; may = s.may; brackets = s.brackets; new_is = s.new_is }

starts_at : (place : FilterPlace) (old new : FilterReading) (token : Token) → ((inside : OperandPlace) → ¬ (place ≡ places.Inside inside)) → StartsPart old token new → GoesFrom place old token new
starts_at places.First old new token out s = s
starts_at places.Behind old new token out s = inl s
starts_at places.Comma old new token out s = s
starts_at (places.Inside place) old new token out s = absurd (out place refl)

pub started_goes : (old : FilterReading) (token : Token) (r : Result FilterReading ValueFault) → ((inside : OperandPlace) → ¬ (old.place ≡ places.Inside inside))
    → IfOk r (StartsPart (record { verb = old.verb; parts = old.parts; place = places.First }) token) → IfOk r (FilterGoes old token)
started_goes old token (Ok new) out s = starts_at old.place old new token out (starts_same old new places.First token s)
started_goes old token (Err fault) out s = tt

-- a keyword that may stand begins an operand
pub no_stop : (reading : OperandReading) (verb : Verb) (parts : List Operand) (token : Token) (keyword : Keyword) (fault : ValueFault) → reading ≡ record { verb = verb; place = operand_places.Start }
    → IsKeyword keyword token → may_stand parts keyword ≡ true → OperandStops reading.verb reading.place token fault → ⊥
no_stop reading verb parts token keyword fault new word may stops =
    let s = subst (λ (r : OperandReading). OperandStops r.verb r.place token fault) new stops in
    let p = part_has_brackets keyword (is_a_part parts keyword may) in
    let some = brackets_of_part verb keyword p.0 p.1 in
    let none = (s.1 keyword word).1 in
    cc

-- a comma behind parts is read where one more may stand
pub comma_is_read : (old : FilterReading) → FilterIsRead old → old.place ≡ places.Behind → may_have_more old.parts ≡ true
    → FilterIsRead (record { verb = old.verb; parts = old.parts; place = places.Comma })
comma_is_read old read e room =
    let new : FilterReading = record { verb = old.verb; parts = old.parts; place = places.Comma } in
    read_on old new Comma read (subst (λ (p : FilterPlace). GoesFrom p old Comma new) (sym e) (inr (refl, room, refl)))
