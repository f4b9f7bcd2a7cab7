-- What holds of days, tokens and criteria whatever reads them.
use Rattle.std.specs.Prelude.{◌≡◌, ℕ, ◌+◌, List, [], ◌∷◌, ◌++◌, All, Some, None}
use Rattle.by_rules.specs.declared.day.Day.{Day}
use Rattle.by_rules.specs.declared.criterion.Criterion.{Criterion}
use Rattle.by_rules.specs.declared.fault.ByFault.TheVariants.{BadCriterion}
use Rattle.by_rules.specs.Day.{day_number, days_of_year, IsCalendarDay}
use Rattle.by_rules.specs.Token.{Symbol, tokens_of, text_of, IsToken, AreApart}
use Rattle.by_rules.specs.Grammar.{Spell}
use Rattle.by_rules.specs.Refusal.{Begin, IsRefusal}
use Rattle.by_rules.specs.Reading.{Machine, start, next, run, HasEnded}

-- a number is that of one day of the calendar at most
abbrev pub OneDay : Type 0
OneDay = (a b : Day) → IsCalendarDay a → IsCalendarDay b → day_number a ≡ day_number b → a ≡ b

-- the first day of a year has the number behind that of the last day of the year before
abbrev pub YearsFollow : Type 0
YearsFollow =
    (year : ℕ) → day_number (record { year = year + 1; day = 1 }) ≡ day_number (record { year = year; day = days_of_year year }) + 1

-- the tokens of a text are its bytes
abbrev pub TokensCover : Type 0
TokensCover = (text : List ℕ) → text_of (tokens_of text) ≡ text

abbrev pub EachToken : Type 0
EachToken = (text : List ℕ) → All IsToken (tokens_of text)

-- the words are as long as they can be
abbrev pub WordsApart : Type 0
WordsApart = (text : List ℕ) → AreApart (tokens_of text)

-- tokens spell one list of criteria at most
abbrev pub OneReading : Type 0
OneReading = (tokens : List Symbol) (a b : List Criterion) → Spell tokens a → Spell tokens b → a ≡ b

-- a text is refused at one place at most, and only where it spells nothing
abbrev pub OnePlace : Type 0
OnePlace = (text : List ℕ) (p q : ℕ) → IsRefusal text (BadCriterion p) → IsRefusal text (BadCriterion q) → p ≡ q

abbrev pub NothingWhereWrong : Type 0
NothingWhereWrong = (text : List ℕ) (place : ℕ) (criteria : List Criterion) → IsRefusal text (BadCriterion place) → ¬ Spell (tokens_of text) criteria

-- tokens that were read up to an end spell the criteria that were kept
abbrev pub ReadIsSpelled : Type 0
ReadIsSpelled = (tokens : List Symbol) (machine : Machine) → run start tokens ≡ Some machine → HasEnded machine → Spell tokens machine.criteria

-- tokens that spell criteria are read up to an end, and those criteria are kept
abbrev pub SpelledIsRead : Type 0
SpelledIsRead = (tokens : List Symbol) (criteria : List Criterion) → Spell tokens criteria
    → (machine : Machine) × (run start tokens ≡ Some machine) × HasEnded machine × (machine.criteria ≡ criteria)

-- tokens that were read begin criteria
abbrev pub ReadIsRight : Type 0
ReadIsRight = (tokens : List Symbol) (machine : Machine) → run start tokens ≡ Some machine → Begin tokens

-- with the token at which the reading stops they begin none
abbrev pub StoppedIsWrong : Type 0
StoppedIsWrong = (machine : Machine) (front : List Symbol) (token : Symbol) → run start front ≡ Some machine → next machine token ≡ None → ¬ Begin (front ++ token ∷ [])
