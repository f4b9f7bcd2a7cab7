-- What one more token leaves of a command.
use Rattle.std.proofs.Common.{◌≡◌, inl, inr, List, refl, sym, ap, subst, ◌∙◌, true, false}
use Rattle.std.specs.Prelude.{◌↔◌, if◌then◌else◌, Bool, IsTrue, IfOk, Result, Ok, Err}
use Rattle.sysin_text.specs.declared.token.Token.{Token}
use Rattle.sysin_text.specs.declared.token.Token.TheVariants.{Comma}
use Rattle.sysin_words.specs.declared.keyword.Keyword.{Keyword}
use Rattle.sysin_words.specs.declared.lead.Verb.{Verb}
use Rattle.sysin_forms.specs.declared.operand.Operand.{Operand}
use Rattle.sysin_values.specs.declared.fault.ValueFault.{ValueFault}
use Rattle.sysin_values.specs.declared.fault.ValueFault.TheVariants as values
use Rattle.sysin_operands.specs.declared.operand.OperandPlace.TheVariants as plains
use Rattle.sysin_operands.specs.Operand.{IsKeyword}
use Rattle.sysin_commands.specs.declared.fault.CommandFault.{CommandFault}
use Rattle.sysin_commands.specs.declared.fault.CommandFault.TheVariants as faults
use Rattle.sysin_commands.specs.declared.operand.AnyPlace.{AnyPlace}
use Rattle.sysin_commands.specs.declared.operand.AnyPlace.TheVariants as any_places
use Rattle.sysin_commands.specs.declared.command.CommandPlace.{CommandPlace}
use Rattle.sysin_commands.specs.declared.command.CommandPlace.TheVariants as places
use Rattle.sysin_commands.specs.declared.command.CommandReading.{CommandReading}
use Rattle.sysin_commands.specs.declared.operand.AnyReading.{AnyReading}
use Rattle.sysin_commands.specs.AnyOperand.{AnyGoes, AnyStops}
use Rattle.sysin_commands.specs.CommandProgress.{one_clashes, may_stand, may_have_more, StartsOperand, Behind, GoesFrom, CommandGoes, StartsNone, StandsAlready, IsWhy, CommandIsRead}
use Rattle.sysin_commands.proofs.Standing.{none_clashes}
use Rattle.sysin_commands.proofs.Samples.{begins_one}
use Rattle.sysin_commands.proofs.Commands.{read_on}

pub taken_is_read : (old : CommandReading) (token : Token) (r : Result CommandReading CommandFault) → CommandIsRead old → IfOk r (CommandGoes old token) → IfOk r CommandIsRead
taken_is_read old token (Ok new) read goes = read_on old new token read goes
taken_is_read old token (Err fault) read goes = tt

-- a reading between operands, at whichever place
abbrev pub at_first : Verb → List Operand → CommandReading
at_first verb list = record { verb = verb; operands = list; place = places.First }

-- an operand leaves the same wherever it stood
behind_same : (old : CommandReading) (place : AnyPlace) → Behind (at_first old.verb old.operands) place ≡ Behind old place
behind_same old (any_places.Plain plains.Start) = refl
behind_same old (any_places.Plain (plains.Named bracket)) = refl
behind_same old (any_places.Plain (plains.Inside bracket content)) = refl
behind_same old (any_places.Plain (plains.Ended operand)) = refl
behind_same old any_places.Named = refl
behind_same old (any_places.Inside filter) = refl
behind_same old (any_places.Whole filter) = refl

-- an operand that begins here does so wherever one may
starts_same : (old new : CommandReading) (token : Token) → StartsOperand (at_first old.verb old.operands) token new → StartsOperand old token new
starts_same old new token s = record { keyword = s.keyword; next = s.next; word = s.word; may = s.may; goes = s.goes; new_is = s.new_is ∙ behind_same old s.next }

starts_at : (place : CommandPlace) (old new : CommandReading) (token : Token) → ((inside : AnyPlace) → ¬ (place ≡ places.Inside inside)) → StartsOperand old token new → GoesFrom place old token new
starts_at places.First old new token out s = s
starts_at places.Behind old new token out s = inl s
starts_at places.Comma old new token out s = s
starts_at (places.Inside place) old new token out s = absurd (out place refl)

pub started_goes : (old : CommandReading) (token : Token) (r : Result CommandReading CommandFault) → ((inside : AnyPlace) → ¬ (old.place ≡ places.Inside inside))
    → IfOk r (StartsOperand (at_first old.verb old.operands) token) → IfOk r (CommandGoes old token)
started_goes old token (Ok new) out s = starts_at old.place old new token out (starts_same old new token s)
started_goes old token (Err fault) out s = tt

-- a keyword begins an operand of any verb
pub no_stop : (verb : Verb) (token : Token) (keyword : Keyword) (fault : ValueFault) → IsKeyword keyword token → AnyStops verb (any_places.Plain plains.Start) token fault → ⊥
no_stop verb token keyword fault word (other, stop) = elim (begins_one verb keyword) [
  | inl a ↦ let none = (stop.1 keyword word).0 in let some = a.1 in cc
  | inr (inl b) ↦ let none = (stop.1 keyword word).1 in let some = b.1 in cc
  | inr (inr d) ↦ other (refl, subst (λ (k : Keyword). IsKeyword k token) d word)
]

same_keyword : (keyword other : Keyword) (token : Token) → IsKeyword keyword token → IsKeyword other token → keyword ≡ other
same_keyword keyword other token (word, sign, k) (word', sign', l) =
    let words : word ≡ word' = cc in
    cc

-- the keyword of what stands already begins no operand, and is told
pub twice : (reading : CommandReading) (token : Token) (keyword : Keyword) → IsKeyword keyword token → one_clashes reading.operands keyword ≡ true
    → StartsNone reading token × IsWhy (StandsAlready reading.operands token) values.Word faults.Twice
twice reading token keyword word clash = (
  (λ other word' may.
      let same = same_keyword other keyword token word' word in
      let none : one_clashes reading.operands keyword ≡ false = sym (ap (one_clashes reading.operands) same) ∙ none_clashes reading.verb reading.operands other may in
      cc),
  inl ((keyword, word, clash), refl),
)

pub comma_is_read : (old : CommandReading) → CommandIsRead old → old.place ≡ places.Behind → may_have_more old.verb old.operands ≡ true
    → CommandIsRead (record { verb = old.verb; operands = old.operands; place = places.Comma })
comma_is_read old read e room =
    let new : CommandReading = record { verb = old.verb; operands = old.operands; place = places.Comma } in
    read_on old new Comma read (subst (λ (p : CommandPlace). GoesFrom p old Comma new) (sym e) (inr (refl, room, refl)))

-- an operand that begins is placed
pub placed_starts : (reading : AnyReading) (verb : Verb) (list : List Operand) (token : Token) (keyword : Keyword) (next' : AnyPlace) (r : Result CommandReading CommandFault)
    → reading ≡ record { verb = verb; place = any_places.Plain plains.Start } → IsKeyword keyword token → may_stand verb list keyword ≡ true → AnyGoes reading.verb reading.place token next'
    → IfOk r (λ new. new ≡ Behind (at_first verb list) next') → IfOk r (StartsOperand (at_first verb list) token)
placed_starts reading verb list token keyword next' (Ok new) start word may goes is = record {
  keyword = keyword;
  next = next';
  word = word;
  may = may;
  goes = subst (λ (a : AnyReading). AnyGoes a.verb a.place token next') start goes;
  new_is = is;
}
placed_starts reading verb list token keyword next' (Err fault) start word may goes is = tt

pub no_stop_new : (reading : AnyReading) (verb : Verb) (token : Token) (keyword : Keyword) (fault : ValueFault) → reading ≡ record { verb = verb; place = any_places.Plain plains.Start }
    → IsKeyword keyword token → AnyStops reading.verb reading.place token fault → ⊥
no_stop_new reading verb token keyword fault start word stops = no_stop verb token keyword fault word (subst (λ (a : AnyReading). AnyStops a.verb a.place token fault) start stops)

pub why_is : (Stands : Type 0) (stands : Bool) (known : ValueFault) (fault : CommandFault) → (IsTrue stands ↔ Stands) → fault ≡ (if stands then faults.Twice else faults.Value known) → IsWhy Stands known fault
why_is Stands true known fault both is = inl (both.0 refl, is)
why_is Stands false known fault both is = inr ((λ there. let e = both.1 there in cc), is)

-- an operand that goes on does so in the command
pub inside_goes : (old : CommandReading) (place : AnyPlace) (token : Token) (r : Result CommandReading CommandFault) → old.place ≡ places.Inside place
    → IfOk r (λ new. (next' : AnyPlace) × AnyGoes old.verb place token next' × (new ≡ Behind (at_first old.verb old.operands) next')) → IfOk r (CommandGoes old token)
inside_goes old place token (Ok new) at (next', g, is) =
    subst (λ (p : CommandPlace). GoesFrom p old token new) (sym at) (next', g, is ∙ behind_same old next')
inside_goes old place token (Err fault) at goes = tt
