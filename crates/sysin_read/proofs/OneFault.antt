-- A token is wrong among values, operands and commands for one reason at most.
use Rattle.std.proofs.Common.{◌≡◌, ◌⊎◌, inl, inr, ℕ, ◌≤◌, ◌<◌, List, length, refl, sym, subst, ◌∙◌, Bool, true, false, Option, Some, None, arith}
use Rattle.dsn_filter.specs.declared.dsn.Dsn.{Dsn}
use Rattle.by_rules.specs.Reading.{Machine}
use Rattle.sysin_text.specs.declared.token.Token.{Token}
use Rattle.sysin_text.specs.declared.token.Token.TheVariants as tokens
use Rattle.sysin_words.specs.declared.lead.Verb.{Verb}
use Rattle.sysin_values.specs.declared.fault.ValueFault.{ValueFault}
use Rattle.sysin_values.specs.declared.fault.ValueFault.TheVariants as faults
use Rattle.sysin_values.specs.declared.place.PairPlace.{PairPlace}
use Rattle.sysin_values.specs.declared.place.WaitPlace.{WaitPlace}
use Rattle.sysin_values.specs.Values.{SaysPattern, SaysDdName, most_entries, most_outputs}
use Rattle.sysin_values.specs.Progress.{Progress, Stops}
use Rattle.sysin_values.specs.Pairs.{PairProgress, PairStops, Fits, WantsName, NamesNone}
use Rattle.sysin_values.specs.Names.{NameProgress, NamesStop}
use Rattle.sysin_values.specs.Wait.{WaitStops, WaitFits, WantsNumber, NumbersNone}
use Rattle.sysin_values.specs.Criteria.{CriteriaStop}
use Rattle.sysin_operands.specs.declared.bracket.Single.{Single}
use Rattle.sysin_operands.specs.declared.content.Content.{Content}
use Rattle.sysin_operands.specs.declared.content.Content.TheVariants as contents
use Rattle.sysin_operands.specs.declared.operand.OperandPlace.{OperandPlace}
use Rattle.sysin_operands.specs.declared.operand.OperandPlace.TheVariants as plains
use Rattle.sysin_operands.specs.Content.{ContentStops, SingleStops}
use Rattle.sysin_operands.specs.Operand.{OperandStops}
use Rattle.sysin_filters.specs.declared.filter.FilterPlace.{FilterPlace}
use Rattle.sysin_filters.specs.declared.filter.FilterPlace.TheVariants as parts
use Rattle.sysin_filters.specs.declared.filter.FilterReading.{FilterReading}
use Rattle.sysin_filters.specs.Progress.{StopsFrom as FilterStopsFrom}
use Rattle.sysin_heads.specs.declared.head.HeadPlace.{HeadPlace}
use Rattle.sysin_heads.specs.Reading.{Stops as HeadStops}
use Rattle.sysin_commands.specs.declared.fault.CommandFault.{CommandFault}
use Rattle.sysin_commands.specs.declared.fault.CommandFault.TheVariants as command_faults
use Rattle.sysin_commands.specs.declared.operand.AnyPlace.{AnyPlace}
use Rattle.sysin_commands.specs.declared.operand.AnyPlace.TheVariants as any_places
use Rattle.sysin_commands.specs.declared.command.CommandPlace.{CommandPlace}
use Rattle.sysin_commands.specs.declared.command.CommandPlace.TheVariants as places
use Rattle.sysin_commands.specs.declared.command.CommandReading.{CommandReading}
use Rattle.sysin_commands.specs.AnyOperand.{AnyStops}
use Rattle.sysin_commands.specs.CommandProgress.{IsWhy, StandsAlready, PartStands, StopsFrom, CommandStops}
use Rattle.sysin_read.specs.declared.fault.Why.{Why}
use Rattle.sysin_read.specs.Why.{IsToldAs, CommandIsToldAs}

-- ---- one reason

-- two are one but for want of memory
abbrev OneOf : ValueFault → ValueFault → Type 0
OneOf f g = (f ≡ faults.NoMemory) ⊎ ((g ≡ faults.NoMemory) ⊎ (f ≡ g))

abbrev pub OneFault : (ValueFault → Type 0) → Type 0
OneFault Why' = (f g : ValueFault) → Why' f → Why' g → OneOf f g

record Apart (Why' : ValueFault → Type 0) : Type 0 where
  count_value : Why' faults.Count → ¬ Why' faults.Value
  count_word : Why' faults.Count → ¬ Why' faults.Word
  value_word : Why' faults.Value → ¬ Why' faults.Word

apart : (Why' : ValueFault → Type 0) → Apart Why' → OneFault Why'
apart Why' a faults.NoMemory g x y = inl refl
apart Why' a faults.Count faults.NoMemory x y = inr (inl refl)
apart Why' a faults.Value faults.NoMemory x y = inr (inl refl)
apart Why' a faults.Word faults.NoMemory x y = inr (inl refl)
apart Why' a faults.Count faults.Count x y = inr (inr refl)
apart Why' a faults.Count faults.Value x y = absurd (a.count_value x y)
apart Why' a faults.Count faults.Word x y = absurd (a.count_word x y)
apart Why' a faults.Value faults.Count x y = absurd (a.count_value y x)
apart Why' a faults.Value faults.Value x y = inr (inr refl)
apart Why' a faults.Value faults.Word x y = absurd (a.value_word x y)
apart Why' a faults.Word faults.Count x y = absurd (a.count_word y x)
apart Why' a faults.Word faults.Value x y = absurd (a.value_word y x)
apart Why' a faults.Word faults.Word x y = inr (inr refl)

of_one : (Why' : ValueFault → Type 0) (known : ValueFault) → ((f : ValueFault) → Why' f → f ≡ known) → OneFault Why'
of_one Why' known each f g x y = inr (inr (each f x ∙ sym (each g y)))

of_other : (Why' Other : ValueFault → Type 0) → OneFault Other → ((f : ValueFault) → Why' f → (f ≡ faults.NoMemory) ⊎ Other f) → OneFault Why'
of_other Why' Other one each f g x y = by_each (each f x) (each g y)
  where
    by_each : (f ≡ faults.NoMemory) ⊎ Other f → (g ≡ faults.NoMemory) ⊎ Other g → OneOf f g
    by_each (inl m) b = inl m
    by_each (inr a) (inl m) = inr (inl m)
    by_each (inr a) (inr b) = one f g a b

not_both : (b : Bool) → b ≡ true → b ≡ false → ⊥
not_both b e f = let both : true ≡ false = sym e ∙ f in cc

no_word : (token : Token) (word : List ℕ) → token ≡ tokens.Word word → token ≡ tokens.Open → ⊥
no_word token word e f = let both : tokens.Word word ≡ tokens.Open = sym e ∙ f in cc

-- ---- values

in_list : {X : Type 0} (Says : List ℕ → X → Type 0) (most : ℕ) (old : Progress X) (token : Token) → OneFault (Stops Says most old token)
in_list {X} Says most old token = apart (Stops Says most old token) (record {
  count_value = λ c v. let many : most ≤ length old.list = c.1 in let few : length old.list < most = v.1 in omega (arith, many, few);
  count_word = λ c w. by_count c w;
  value_word = λ v w. by_value v w;
})
  where
    by_word : (word : List ℕ) → token ≡ tokens.Word word → old.wants ≡ true → Stops Says most old token faults.Word → ⊥
    by_word word is wants (inl (w, none)) = none word is
    by_word word is wants (inr (w, none)) = not_both old.wants wants w

    by_count : Stops Says most old token faults.Count → Stops Says most old token faults.Word → ⊥
    by_count (wants, many, word, is) w = by_word word is wants w

    by_value : Stops Says most old token faults.Value → Stops Says most old token faults.Word → ⊥
    by_value (wants, few, word, is, none) w = by_word word is wants w

word_fits : (place : PairPlace) (token : Token) → WantsName place → NamesNone token → Fits place token
word_fits place token (inl e) n = subst (λ (p : PairPlace). Fits p token) (sym e) (n.word, n.sign)
word_fits place token (inr (old, e)) n = subst (λ (p : PairPlace). Fits p token) (sym e) (n.word, n.sign)

in_pairs : (old : PairProgress) (token : Token) → OneFault (PairStops old token)
in_pairs old token = apart (PairStops old token) (record {
  count_value = λ c v. no_word token v.1.word v.1.sign c.2;
  count_word = λ c w. w (subst (λ (p : PairPlace). Fits p token) (sym c.0) c.2);
  value_word = λ v w. w (word_fits old.place token v.0 v.1);
})

no_prefix : (prefix : Option Dsn) (name : Dsn) → prefix ≡ Some name → prefix ≡ None → ⊥
no_prefix prefix name e f = let both : Some name ≡ None = sym e ∙ f in cc

in_names : (old : NameProgress) (token : Token) → OneFault (NamesStop old token)
in_names old token f g (inl (n, e, x)) (inl (m, h, y)) = inr (inr (x ∙ sym y))
in_names old token f g (inl (n, e, x)) (inr (inl (h, y, m))) = absurd (no_prefix old.prefix n e h)
in_names old token f g (inl (n, e, x)) (inr (inr (h, later, y))) = absurd (no_prefix old.prefix n e h)
in_names old token f g (inr (inl (e, x, n))) (inl (m, h, y)) = absurd (no_prefix old.prefix m h e)
in_names old token f g (inr (inl (e, x, n))) (inr (inl (h, y, m))) = inr (inr (x ∙ sym y))
in_names old token f g (inr (inl (e, x, n))) (inr (inr (h, later, y))) = absurd (later (n.first, (n.word, n.sign)))
in_names old token f g (inr (inr (e, later, x))) (inl (m, h, y)) = absurd (no_prefix old.prefix m h e)
in_names old token f g (inr (inr (e, later, x))) (inr (inl (h, y, m))) = absurd (later (m.first, (m.word, m.sign)))
in_names old token f g (inr (inr (e, later, x))) (inr (inr (h, other, y))) = in_pairs old.pairs token f g x y

number_fits : (place : WaitPlace) (token : Token) → WantsNumber place → NumbersNone token → WaitFits place token
number_fits place token (inl e) n = subst (λ (p : WaitPlace). WaitFits p token) (sym e) (n.word, n.sign)
number_fits place token (inr e) n = subst (λ (p : WaitPlace). WaitFits p token) (sym e) (n.word, n.sign)

in_wait : (old : WaitPlace) (token : Token) → OneFault (WaitStops old token)
in_wait old token = apart (WaitStops old token) (record {
  count_value = λ c v. c;
  count_word = λ c w. c;
  value_word = λ v w. w (number_fits old token v.0 v.1);
})

in_criteria : (old : Machine) (token : Token) → OneFault (CriteriaStop old token)
in_criteria old token = apart (CriteriaStop old token) (record {
  count_value = λ c v. no_word token v.1.0 v.1.1 c.2;
  count_word = λ c w. w.2 c.2 c.1;
  value_word = λ v w. w.1 v.1;
})

-- ---- operands

in_single : (single : Single) (token : Token) → OneFault (SingleStops single token)
in_single single token = apart (SingleStops single token) (record {
  count_value = λ c v. c;
  count_word = λ c w. c;
  value_word = λ v w. w v.0 v.1;
})

in_content : (old : Content) (token : Token) → OneFault (ContentStops old token)
in_content (contents.Single single) token = in_single single token
in_content (contents.Said operand) token = of_one (ContentStops (contents.Said operand) token) faults.Word (λ f x. x)
in_content (contents.Include old) token = in_list SaysPattern most_entries old token
in_content (contents.Exclude old) token = in_list SaysPattern most_entries old token
in_content (contents.By old) token = in_criteria old token
in_content (contents.Outputs old) token = in_list SaysDdName most_outputs old token
in_content (contents.Rename old) token = in_names old token
in_content (contents.Wait old) token = in_wait old token

in_operand : (verb : Verb) (place : OperandPlace) (token : Token) → OneFault (OperandStops verb place token)
in_operand verb plains.Start token = of_one (OperandStops verb plains.Start token) faults.Word (λ f x. x.0)
in_operand verb (plains.Named bracket) token = of_one (OperandStops verb (plains.Named bracket) token) faults.Word (λ f x. x.0)
in_operand verb (plains.Inside bracket content) token =
    of_other (OperandStops verb (plains.Inside bracket content) token) (ContentStops content token) (in_content content token) (λ f x. inr x.1)
in_operand verb (plains.Ended operand) token = of_one (OperandStops verb (plains.Ended operand) token) faults.Word (λ f x. x)

in_filter : (place : FilterPlace) (old : FilterReading) (token : Token) → OneFault (FilterStopsFrom place old token)
in_filter parts.First old token = of_one (FilterStopsFrom parts.First old token) faults.Word (λ f x. x.0)
in_filter parts.Comma old token = of_one (FilterStopsFrom parts.Comma old token) faults.Word (λ f x. x.0)
in_filter parts.Behind old token = of_one (FilterStopsFrom parts.Behind old token) faults.Word (λ f x. x.0)
in_filter (parts.Inside place) old token = of_other (FilterStopsFrom (parts.Inside place) old token) (OperandStops old.verb place token) (in_operand old.verb place token) (λ f x. x)

in_any : (verb : Verb) (place : AnyPlace) (token : Token) → OneFault (AnyStops verb place token)
in_any verb (any_places.Plain place) token = of_other (AnyStops verb (any_places.Plain place) token) (OperandStops verb place token) (in_operand verb place token) (λ f x. inr x.1)
in_any verb any_places.Named token = of_one (AnyStops verb any_places.Named token) faults.Word (λ f x. x.0)
in_any verb (any_places.Inside filter) token =
    of_other (AnyStops verb (any_places.Inside filter) token) (FilterStopsFrom filter.place filter token) (in_filter filter.place filter token) (λ f x. inr x.1)
in_any verb (any_places.Whole filter) token = of_one (AnyStops verb (any_places.Whole filter) token) faults.Word (λ f x. x)

-- ---- SET and IF

in_head : (old : HeadPlace) (token : Token) → OneFault (HeadStops old token)
in_head old token = apart (HeadStops old token) (record {
  count_value = λ c v. c;
  count_word = λ c w. c;
  value_word = λ v w. w.1 (v.1, v.2);
})

-- ---- as what it is told

no_told : (f : ValueFault) (why : Why) → f ≡ faults.NoMemory → IsToldAs f why → ⊥
no_told f why e t = subst (λ (x : ValueFault). IsToldAs x why) e t

told_so : (f : ValueFault) (why other : Why) → IsToldAs f why → IsToldAs f other → why ≡ other
told_so faults.Count why other x y = x ∙ sym y
told_so faults.Value why other x y = x ∙ sym y
told_so faults.Word why other x y = x ∙ sym y
told_so faults.NoMemory why other x y = absurd x

told_once : (f g : ValueFault) (why other : Why) → OneOf f g → IsToldAs f why → IsToldAs g other → why ≡ other
told_once f g why other (inl m) x y = absurd (no_told f why m x)
told_once f g why other (inr (inl m)) x y = absurd (no_told g other m y)
told_once f g why other (inr (inr e)) x y = told_so g why other (subst (λ (z : ValueFault). IsToldAs z why) e x) y

pub head_told_once : (old : HeadPlace) (token : Token) (f g : ValueFault) (why other : Why) → HeadStops old token f → HeadStops old token g → IsToldAs f why → IsToldAs g other → why ≡ other
head_told_once old token f g why other a b x y = told_once f g why other (in_head old token f g a b) x y

command_told_so : (f g : CommandFault) (why other : Why) → f ≡ g → CommandIsToldAs f why → CommandIsToldAs g other → why ≡ other
command_told_so f g why other e x y = by_fault g (subst (λ (z : CommandFault). CommandIsToldAs z why) e x) y
  where
    by_fault : (h : CommandFault) → CommandIsToldAs h why → CommandIsToldAs h other → why ≡ other
    by_fault command_faults.Twice a b = a ∙ sym b
    by_fault command_faults.Missing a b = a ∙ sym b
    by_fault (command_faults.Value known) a b = told_so known why other a b

-- what stands already is told, whatever else is known, and else what is known
told_by : (Stands : Type 0) (k l : ValueFault) (f g : CommandFault) (why other : Why) → OneOf k l → IsWhy Stands k f → IsWhy Stands l g → CommandIsToldAs f why → CommandIsToldAs g other → why ≡ other
told_by Stands k l f g why other one (inl (s, e)) (inl (t, h)) x y = command_told_so f g why other (e ∙ sym h) x y
told_by Stands k l f g why other one (inl (s, e)) (inr (t, h)) x y = absurd (t s)
told_by Stands k l f g why other one (inr (s, e)) (inl (t, h)) x y = absurd (s t)
told_by Stands k l f g why other one (inr (s, e)) (inr (t, h)) x y =
    told_once k l why other one (subst (λ (z : CommandFault). CommandIsToldAs z why) e x) (subst (λ (z : CommandFault). CommandIsToldAs z other) h y)

from_told_once : (place : CommandPlace) (old : CommandReading) (token : Token) (f g : CommandFault) (why other : Why) → StopsFrom place old token f → StopsFrom place old token g
    → CommandIsToldAs f why → CommandIsToldAs g other → why ≡ other
from_told_once places.First old token f g why other a b x y = told_by (StandsAlready old.operands token) faults.Word faults.Word f g why other (inr (inr refl)) a.1 b.1 x y
from_told_once places.Comma old token f g why other a b x y = told_by (StandsAlready old.operands token) faults.Word faults.Word f g why other (inr (inr refl)) a.1 b.1 x y
from_told_once places.Behind old token f g why other a b x y = told_by (StandsAlready old.operands token) faults.Word faults.Word f g why other (inr (inr refl)) a.2 b.2 x y
from_told_once (places.Inside place) old token f g why other (k, s, a) (l, t, b) x y =
    told_by (PartStands place token) k l f g why other (in_any old.verb place token k l s t) a b x y

no_command_told : (f : CommandFault) (why : Why) → f ≡ command_faults.Value faults.NoMemory → CommandIsToldAs f why → ⊥
no_command_told f why e t = subst (λ (x : CommandFault). CommandIsToldAs x why) e t

pub command_told_once : (old : CommandReading) (token : Token) (f g : CommandFault) (why other : Why) → CommandStops old token f → CommandStops old token g → CommandIsToldAs f why
    → CommandIsToldAs g other → why ≡ other
command_told_once old token f g why other (inl m) b x y = absurd (no_command_told f why m x)
command_told_once old token f g why other (inr a) (inl m) x y = absurd (no_command_told g other m y)
command_told_once old token f g why other (inr a) (inr b) x y = from_told_once old.place old token f g why other a b x y
