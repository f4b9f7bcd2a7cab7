-- What is known behind each token: for the reader and its proof.
use Rattle.std.specs.Prelude.{◌≡◌, ℕ, ◌==◌, if◌then◌else◌, List, [], ◌∷◌, ◌++◌, length, Option, Some, None, ℤ, pos}
use Rattle.std.specs.Option.{option_map, option_and_then}
use Rattle.std.specs.Str.{bytes_eq}
use Rattle.by_rules.specs.declared.criterion.Key.{Key}
use Rattle.by_rules.specs.declared.criterion.Op.{Op}
use Rattle.by_rules.specs.declared.criterion.When.TheVariants as dates
use Rattle.by_rules.specs.declared.criterion.Value.{Value}
use Rattle.by_rules.specs.declared.criterion.Value.TheVariants as values
use Rattle.by_rules.specs.declared.criterion.Criterion.{Criterion}
use Rattle.by_rules.specs.declared.fault.ByFault.{ByFault}
use Rattle.by_rules.specs.declared.fault.ByFault.TheVariants.{BadCriterion, NoMemory}
use Rattle.by_rules.specs.declared.state.Test.{Test}
use Rattle.by_rules.specs.declared.state.Place.{Place}
use Rattle.by_rules.specs.declared.state.Place.TheVariants as places
use Rattle.by_rules.specs.declared.state.State.{State}
use Rattle.by_rules.specs.declared.state.State.TheVariants as states
use Rattle.by_rules.specs.declared.state.Step.{Step}
use Rattle.by_rules.specs.declared.state.Step.TheVariants as steps
use Rattle.by_rules.specs.Token.{Symbol, Open, Close, Comma, Word}
use Rattle.by_rules.specs.Words.{key_of, op_of, value_of, shift_of}
use Rattle.by_rules.specs.Grammar.{is_date, is_equality, is_allowed, star, most_criteria}

-- behind a value
abbrev pub behind : Test → Place → State
behind test places.Alone = states.Whole test
behind test places.InList = states.Member test

-- a token that may only be this one
abbrev pub open_step : Step → Symbol → Option Step
open_step step Open = Some step
open_step step _ = None

abbrev pub comma_step : Step → Symbol → Option Step
comma_step step Comma = Some step
comma_step step _ = None

abbrev pub close_step : Step → Symbol → Option Step
close_step step Close = Some step
close_step step _ = None

abbrev pub key_step : Symbol → Option Step
key_step (Word word) = option_map (λ key. steps.Go (states.Keyed key)) (key_of word)
key_step _ = None

-- how a fact may be compared
abbrev pub compared : Key → Op → Option Step
compared key op = if is_allowed key op then Some (steps.Go (states.Compared (record { key = key; op = op }))) else None

abbrev pub op_step : Key → Symbol → Option Step
op_step key (Word word) = option_and_then (compared key) (op_of word)
op_step key _ = None

-- a word as a value
abbrev pub value_step : Test → Place → List ℕ → Option Step
value_step test place word = option_map (λ value. steps.Keep value (behind test place)) (value_of test.key word)

-- a bracket in front of the values
abbrev pub bracket_step : Test → Option Step
bracket_step test =
    if is_date test.key then (if is_equality test.op then Some (steps.Go (states.Bracket test)) else Some (steps.Go (states.Today test places.Alone)))
    else (if is_equality test.op then Some (steps.Go (states.Listing test)) else None)

abbrev pub operand_step : Test → Symbol → Option Step
operand_step test (Word word) = value_step test places.Alone word
operand_step test Open = bracket_step test
operand_step test _ = None

-- a list's first value, or a date's star
abbrev pub first_step : Test → Symbol → Option Step
first_step test (Word word) =
    if bytes_eq word star then Some (steps.Go (states.Star test places.Alone)) else value_step test places.InList word
first_step test Open = Some (steps.Go (states.Today test places.InList))
first_step test _ = None

abbrev pub listing_step : Test → Symbol → Option Step
listing_step test (Word word) = value_step test places.InList word
listing_step test Open = if is_date test.key then Some (steps.Go (states.Today test places.InList)) else None
listing_step test _ = None

abbrev pub member_step : Test → Symbol → Option Step
member_step test Comma = Some (steps.Go (states.Listing test))
member_step test Close = Some (steps.Go (states.Whole test))
member_step test _ = None

abbrev pub today_step : Test → Place → Symbol → Option Step
today_step test place (Word word) = if bytes_eq word star then Some (steps.Go (states.Star test place)) else None
today_step test place _ = None

-- the value of a date from today on
abbrev pub days_from_today : Test → Place → ℤ → Step
days_from_today test place days = steps.Keep (values.Date (dates.FromToday days)) (behind test place)

abbrev pub star_step : Test → Place → Symbol → Option Step
star_step test place Close = Some (days_from_today test place (pos 0))
star_step test place Comma = Some (steps.Go (states.Shift test place))
star_step test place _ = None

abbrev pub shift_step : Test → Place → Symbol → Option Step
shift_step test place (Word word) = option_map (λ days. steps.Go (states.Shifted test place days)) (shift_of word)
shift_step test place _ = None

abbrev pub ended_step : Symbol → Option Step
ended_step Open = Some steps.Begin
ended_step Comma = Some (steps.Go states.Comma)
ended_step _ = None

-- what a token does in a state, where it is right
abbrev pub step_of : State → Symbol → Option Step
step_of states.Start symbol = open_step steps.Begin symbol
step_of states.Comma symbol = open_step steps.Begin symbol
step_of states.Ended symbol = ended_step symbol
step_of states.Opened symbol = key_step symbol
step_of (states.Keyed key) symbol = comma_step (steps.Go (states.Operator key)) symbol
step_of (states.Operator key) symbol = op_step key symbol
step_of (states.Compared test) symbol = comma_step (steps.Go (states.Operand test)) symbol
step_of (states.Operand test) symbol = operand_step test symbol
step_of (states.Bracket test) symbol = first_step test symbol
step_of (states.Listing test) symbol = listing_step test symbol
step_of (states.Member test) symbol = member_step test symbol
step_of (states.Whole test) symbol = close_step (steps.End test) symbol
step_of (states.Today test place) symbol = today_step test place symbol
step_of (states.Star test place) symbol = star_step test place symbol
step_of (states.Shift test place) symbol = shift_step test place symbol
step_of (states.Shifted test place days) symbol = close_step (days_from_today test place days) symbol

-- what is read so far
pub record Machine : Type 0 where
  pub state : State
  pub criteria : List Criterion
  pub values : List Value

abbrev pub start : Machine
start = record { state = states.Start; criteria = []; values = [] }

-- the criterion whose last bracket is read
abbrev pub closed : Test → List Value → Criterion
closed test list = record { key = test.key; op = test.op; values = list }

abbrev pub after_step : Machine → Step → Option Machine
after_step machine steps.Begin = if length machine.criteria == most_criteria then None else Some (record machine { state = states.Opened })
after_step machine (steps.Go state) = Some (record machine { state = state })
after_step machine (steps.Keep value state) = Some (record machine { state = state; values = machine.values ++ value ∷ [] })
after_step machine (steps.End test) =
    Some (record { state = states.Ended; criteria = machine.criteria ++ closed test machine.values ∷ []; values = [] })

-- what is read behind one more token, where it is right
abbrev pub next : Machine → Symbol → Option Machine
next machine symbol = option_and_then (after_step machine) (step_of machine.state symbol)

-- the tokens one after the other
abbrev pub run : Machine → List Symbol → Option Machine
run machine [] = Some machine
run machine (symbol ∷ symbols) = option_and_then (λ after. run after symbols) (next machine symbol)

abbrev pub HasEnded : Machine → Type 0
HasEnded machine = machine.state ≡ states.Ended

-- a token that is wrong is refused where it stands
abbrev pub Stops : Machine → Symbol → ℕ → ByFault → Type 0
Stops machine symbol offset (BadCriterion place) = (place ≡ offset) × (next machine symbol ≡ None)
Stops machine symbol offset NoMemory = Unit {0}
