-- What is read is spelled: each state says what stands before it.
use Rattle.std.proofs.Common.{◌≡◌, ◌⊎◌, inl, inr, ℕ, ◌<◌, ◌≤◌, List, [], ◌∷◌, ◌++◌, length, refl, sym, ap, subst, ◌∙◌, Bool, true, false, arith, Option, Some, None, append_assoc, append-nil, length-append, ℤ, pos}
use Rattle.std.specs.Prelude.{◌==◌, if◌then◌else◌}
use Rattle.std.specs.Option.{option_and_then, option_map}
use Rattle.std.specs.Str.{bytes_eq}
use Rattle.std.proofs.lemmas.Bool.Decides.{nat_tests}
use Rattle.by_rules.specs.declared.criterion.Key.{Key}
use Rattle.by_rules.specs.declared.criterion.Op.{Op}
use Rattle.by_rules.specs.declared.criterion.When.TheVariants as dates
use Rattle.by_rules.specs.declared.criterion.Value.{Value}
use Rattle.by_rules.specs.declared.criterion.Value.TheVariants as values
use Rattle.by_rules.specs.declared.criterion.Criterion.{Criterion}
use Rattle.by_rules.specs.declared.state.Test.{Test}
use Rattle.by_rules.specs.declared.state.Place.{Place}
use Rattle.by_rules.specs.declared.state.Place.TheVariants as places
use Rattle.by_rules.specs.declared.state.State.{State}
use Rattle.by_rules.specs.declared.state.State.TheVariants as states
use Rattle.by_rules.specs.declared.state.Step.TheVariants as steps
use Rattle.by_rules.specs.Token.{Symbol, Open, Close, Comma, Word, Other}
use Rattle.by_rules.specs.Words.{key_of, op_of, value_of, shift_of}
use Rattle.by_rules.specs.Grammar.{is_date, is_equality, is_allowed, star, most_criteria, IsValue, IsMembers, IsOperand, IsCriterion, IsSequence}
use Rattle.by_rules.specs.Reading.{Machine, behind, closed, compared, after_step, next, run, start}
use Rattle.by_rules.proofs.Complete.{at, is_star}

-- ---- what stands before a state

-- a list's values so far: none, or some and a comma
abbrev pub BeforeMember : Key → List Value → List Symbol → Type 0
BeforeMember key list tokens = ((list ≡ []) × (tokens ≡ [])) ⊎ ((front : List Symbol) × (tokens ≡ front ++ Comma ∷ []) × IsMembers key list front)

-- what stands in an operand before a value
abbrev pub InPlace : Test → Place → List Value → List Symbol → Type 0
InPlace test places.Alone list tokens = (list ≡ []) × (tokens ≡ [])
InPlace test places.InList list tokens = (is_equality test.op ≡ true) × (members : List Symbol) × (tokens ≡ Open ∷ members) × BeforeMember test.key list members

-- a date's first tokens, and what stands before them
pub record InDate (test : Test) (place : Place) (list : List Value) (tokens begun : List Symbol) : Type 0 where
  pub front : List Symbol
  pub date : is_date test.key ≡ true
  pub text : tokens ≡ front ++ begun
  pub place_is : InPlace test place list front

-- an operand's first tokens
abbrev pub IsTail : State → List Value → List Symbol → Type 0
IsTail (states.Operand test) list tokens = InPlace test places.Alone list tokens
IsTail (states.Bracket test) list tokens = (list ≡ []) × (tokens ≡ Open ∷ []) × (is_date test.key ≡ true) × (is_equality test.op ≡ true)
IsTail (states.Listing test) list tokens = InPlace test places.InList list tokens
IsTail (states.Member test) list tokens = (is_equality test.op ≡ true) × (members : List Symbol) × (tokens ≡ Open ∷ members) × IsMembers test.key list members
IsTail (states.Whole test) list tokens = IsOperand test.key test.op list tokens
IsTail (states.Today test place) list tokens = InDate test place list tokens (Open ∷ [])
IsTail (states.Star test place) list tokens = InDate test place list tokens (Open ∷ Word star ∷ [])
IsTail (states.Shift test place) list tokens = InDate test place list tokens (Open ∷ Word star ∷ Comma ∷ [])
IsTail (states.Shifted test place days) list tokens =
    (word : List ℕ) × (shift_of word ≡ Some days) × InDate test place list tokens (Open ∷ Word star ∷ Comma ∷ Word word ∷ [])
IsTail _ list tokens = ⊥

-- a criterion's first tokens up to its operand, and those of the operand
pub record IsHeaded (test : Test) (state : State) (list : List Value) (tokens : List Symbol) : Type 0 where
  pub key_word : List ℕ
  pub op_word : List ℕ
  pub tail : List Symbol
  pub text : tokens ≡ Open ∷ Word key_word ∷ Comma ∷ Word op_word ∷ Comma ∷ tail
  pub key : key_of key_word ≡ Some test.key
  pub op : op_of op_word ≡ Some test.op
  pub allowed : is_allowed test.key test.op ≡ true
  pub operand : IsTail state list tail

-- a criterion's first tokens
abbrev pub IsCurrent : State → List Value → List Symbol → Type 0
IsCurrent states.Opened list tokens = (list ≡ []) × (tokens ≡ Open ∷ [])
IsCurrent (states.Keyed key) list tokens = (list ≡ []) × (word : List ℕ) × (tokens ≡ Open ∷ Word word ∷ []) × (key_of word ≡ Some key)
IsCurrent (states.Operator key) list tokens = (list ≡ []) × (word : List ℕ) × (tokens ≡ Open ∷ Word word ∷ Comma ∷ []) × (key_of word ≡ Some key)
IsCurrent (states.Compared test) list tokens =
    (list ≡ []) × (key_word : List ℕ) × (op_word : List ℕ) × (tokens ≡ Open ∷ Word key_word ∷ Comma ∷ Word op_word ∷ [])
    × (key_of key_word ≡ Some test.key) × (op_of op_word ≡ Some test.op) × (is_allowed test.key test.op ≡ true)
IsCurrent (states.Operand test) list tokens = IsHeaded test (states.Operand test) list tokens
IsCurrent (states.Bracket test) list tokens = IsHeaded test (states.Bracket test) list tokens
IsCurrent (states.Listing test) list tokens = IsHeaded test (states.Listing test) list tokens
IsCurrent (states.Member test) list tokens = IsHeaded test (states.Member test) list tokens
IsCurrent (states.Whole test) list tokens = IsHeaded test (states.Whole test) list tokens
IsCurrent (states.Today test place) list tokens = IsHeaded test (states.Today test place) list tokens
IsCurrent (states.Star test place) list tokens = IsHeaded test (states.Star test place) list tokens
IsCurrent (states.Shift test place) list tokens = IsHeaded test (states.Shift test place) list tokens
IsCurrent (states.Shifted test place days) list tokens = IsHeaded test (states.Shifted test place days) list tokens
IsCurrent _ list tokens = ⊥

-- what stands before a criterion
abbrev pub IsBefore : List Criterion → List Symbol → Type 0
IsBefore criteria tokens =
    ((criteria ≡ []) × (tokens ≡ [])) ⊎ (IsSequence criteria tokens ⊎ ((front : List Symbol) × (tokens ≡ front ++ Comma ∷ []) × IsSequence criteria front))

-- whole criteria, and the first tokens of one more
pub record InCriterion (state : State) (criteria : List Criterion) (list : List Value) (tokens : List Symbol) : Type 0 where
  pub done : List Symbol
  pub current : List Symbol
  pub text : tokens ≡ done ++ current
  pub before : IsBefore criteria done
  pub few : length criteria < most_criteria
  pub begun : IsCurrent state list current

abbrev pub ReadsBy : State → List Criterion → List Value → List Symbol → Type 0
ReadsBy states.Start criteria list tokens = (criteria ≡ []) × (list ≡ []) × (tokens ≡ [])
ReadsBy states.Ended criteria list tokens = (list ≡ []) × IsSequence criteria tokens × (length criteria ≤ most_criteria)
ReadsBy states.Comma criteria list tokens =
    (list ≡ []) × (front : List Symbol) × (tokens ≡ front ++ Comma ∷ []) × IsSequence criteria front × (length criteria ≤ most_criteria)
ReadsBy state criteria list tokens = InCriterion state criteria list tokens

-- the tokens lead to what is read
abbrev pub Reads : Machine → List Symbol → Type 0
Reads machine tokens = ReadsBy machine.state machine.criteria machine.values tokens

-- ---- one more value, one more criterion

members_more : (key : Key) (list : List Value) (front : List Symbol) (value : Value) (text : List Symbol) → IsMembers key list front → IsValue key value text → IsMembers key (list ++ value ∷ []) (front ++ Comma ∷ text)
members_more key [] front value text m v = absurd m
members_more key (first ∷ []) front value text m v = (front, text, refl, m, v)
members_more key (first ∷ second ∷ list) front value text m v = (
  m.0,
  m.1 ++ Comma ∷ text,
  ap (λ (t : List Symbol). t ++ Comma ∷ text) m.2 ∙ append_assoc m.0 (Comma ∷ m.1) (Comma ∷ text),
  m.3,
  members_more key (second ∷ list) m.1 value text m.4 v,
)

member_more : (key : Key) (list : List Value) (tokens : List Symbol) (value : Value) (text : List Symbol) → BeforeMember key list tokens → IsValue key value text → IsMembers key (list ++ value ∷ []) (tokens ++ text)
member_more key list tokens value text (inl none) v = rw (none.0, none.1) v
member_more key list tokens value text (inr some) v = rw (some.1, append_assoc some.0 (Comma ∷ []) text) (members_more key list some.0 value text some.2 v)

-- a value that ends where it may stand
valued : (test : Test) (place : Place) (list : List Value) (front : List Symbol) (value : Value) (text : List Symbol) → InPlace test place list front → IsValue test.key value text
    → IsTail (behind test place) (list ++ value ∷ []) (front ++ text)
valued test places.Alone list front value text p v = inl (record { value = value; one = ap (λ (l : List Value). l ++ value ∷ []) p.0; text = rw p.1 v })
valued test places.InList list front value text p v = (
  p.0,
  p.1 ++ text,
  ap (λ (t : List Symbol). t ++ text) p.2,
  member_more test.key list p.1 value text p.3 v,
)

-- criteria and a last one, with a comma before it or none
sequence_more : (list : List Criterion) (front : List Symbol) (criterion : Criterion) (current tail : List Symbol) → IsSequence list front → IsCriterion criterion current
    → (tail ≡ current) ⊎ (tail ≡ Comma ∷ current) → IsSequence (list ++ criterion ∷ []) (front ++ tail)
sequence_more [] front criterion current tail s c gap = absurd s
sequence_more (first ∷ []) front criterion current tail s c (inl e) = (front, current, inl (ap (λ (t : List Symbol). front ++ t) e), s, c)
sequence_more (first ∷ []) front criterion current tail s c (inr e) = (front, current, inr (ap (λ (t : List Symbol). front ++ t) e), s, c)
sequence_more (first ∷ second ∷ list) front criterion current tail (one, rest, inl e, o, others) c gap =
    (one, rest ++ tail, inl (ap (λ (t : List Symbol). t ++ tail) e ∙ append_assoc one rest tail), o, sequence_more (second ∷ list) rest criterion current tail others c gap)
sequence_more (first ∷ second ∷ list) front criterion current tail (one, rest, inr e, o, others) c gap =
    (one, rest ++ tail, inr (ap (λ (t : List Symbol). t ++ tail) e ∙ append_assoc one (Comma ∷ rest) tail), o, sequence_more (second ∷ list) rest criterion current tail others c gap)

pub criterion_more : (list : List Criterion) (done : List Symbol) (criterion : Criterion) (current : List Symbol) → IsBefore list done → IsCriterion criterion current → IsSequence (list ++ criterion ∷ []) (done ++ current)
criterion_more list done criterion current (inl none) c = rw (none.0, none.1) c
criterion_more list done criterion current (inr (inl s)) c = sequence_more list done criterion current current s c (inl refl)
criterion_more list done criterion current (inr (inr s)) c =
    rw (s.1, append_assoc s.0 (Comma ∷ []) current) (sequence_more list s.0 criterion current (Comma ∷ current) s.2 c (inr refl))

-- ---- one more token

nothing : (machine : Machine) → None ≡ Some machine → ⊥
nothing machine e = cc

reads_some : (from to : Machine) (tokens : List Symbol) → Some from ≡ Some to → Reads from tokens → Reads to tokens
reads_some from to tokens e r =
    let same : from ≡ to = cc in
    let P : Machine → Type 0 = λ machine. Reads machine tokens in
    subst P same r

-- a criterion goes on
goes_on : (state later : State) (criteria : List Criterion) (list more : List Value) (tokens : List Symbol) (symbol : Symbol) (r : InCriterion state criteria list tokens)
    → IsCurrent later more (r.current ++ symbol ∷ []) → InCriterion later criteria more (tokens ++ symbol ∷ [])
goes_on state later criteria list more tokens symbol r c = record {
  done = r.done;
  current = r.current ++ symbol ∷ [];
  text = ap (λ (t : List Symbol). t ++ symbol ∷ []) r.text ∙ append_assoc r.done r.current (symbol ∷ []);
  before = r.before;
  few = r.few;
  begun = c;
}

-- and its operand
operand_on : (test : Test) (state later : State) (list more : List Value) (tokens : List Symbol) (symbol : Symbol) (h : IsHeaded test state list tokens)
    → IsTail later more (h.tail ++ symbol ∷ []) → IsHeaded test later more (tokens ++ symbol ∷ [])
operand_on test state later list more tokens symbol h t = record {
  key_word = h.key_word;
  op_word = h.op_word;
  tail = h.tail ++ symbol ∷ [];
  text = ap (λ (t : List Symbol). t ++ symbol ∷ []) h.text;
  key = h.key;
  op = h.op;
  allowed = h.allowed;
  operand = t;
}

-- a date's next token
date_on : (test : Test) (place : Place) (list : List Value) (tokens begun : List Symbol) (symbol : Symbol) → InDate test place list tokens begun
    → InDate test place list (tokens ++ symbol ∷ []) (begun ++ symbol ∷ [])
date_on test place list tokens begun symbol d = record {
  front = d.front;
  date = d.date;
  text = ap (λ (t : List Symbol). t ++ symbol ∷ []) d.text ∙ append_assoc d.front begun (symbol ∷ []);
  place_is = d.place_is;
}

-- a date's last token
date_valued : (test : Test) (place : Place) (list : List Value) (tokens text : List Symbol) (value : Value) → InDate test place list tokens text → IsValue test.key value text
    → IsTail (behind test place) (list ++ value ∷ []) tokens
date_valued test place list tokens text value d v =
    let P : List Symbol → Type 0 = λ t. IsTail (behind test place) (list ++ value ∷ []) t in
    subst P (sym d.text) (valued test place list d.front value text d.place_is v)

-- a criterion begins
begins_by : (state : State) (criteria : List Criterion) (list : List Value) (tokens : List Symbol) (to : Machine) (full : Bool) → (length criteria == most_criteria) ≡ full
    → length criteria ≤ most_criteria → list ≡ [] → IsBefore criteria tokens
    → (if full then None else Some (at states.Opened criteria list)) ≡ Some to → Reads to (tokens ++ Open ∷ [])
begins_by state criteria list tokens to true full few none before e = absurd (nothing to e)
begins_by state criteria list tokens to false full few none before e =
    reads_some (at states.Opened criteria list) to (tokens ++ Open ∷ []) e (record {
      done = tokens;
      current = Open ∷ [];
      text = refl;
      before = before;
      few = grind (arith, nat_tests);
      begun = (none, refl);
    })

behind_reads : (test : Test) (place : Place) (criteria : List Criterion) (list : List Value) (tokens : List Symbol) → InCriterion (behind test place) criteria list tokens
    → ReadsBy (behind test place) criteria list tokens
behind_reads test places.Alone criteria list tokens r = r
behind_reads test places.InList criteria list tokens r = r

behind_current : (test : Test) (place : Place) (list : List Value) (tokens : List Symbol) → IsHeaded test (behind test place) list tokens → IsCurrent (behind test place) list tokens
behind_current test places.Alone list tokens h = h
behind_current test places.InList list tokens h = h

-- a value ends
keeps : (state : State) (test : Test) (place : Place) (criteria : List Criterion) (list : List Value) (tokens : List Symbol) (symbol : Symbol) (value : Value) (to : Machine)
    → (r : InCriterion state criteria list tokens) → (h : IsHeaded test state list r.current) → IsTail (behind test place) (list ++ value ∷ []) (h.tail ++ symbol ∷ [])
    → Some (at (behind test place) criteria (list ++ value ∷ [])) ≡ Some to → Reads to (tokens ++ symbol ∷ [])
keeps state test place criteria list tokens symbol value to r h t e =
    reads_some (at (behind test place) criteria (list ++ value ∷ [])) to (tokens ++ symbol ∷ []) e
    (behind_reads test place criteria (list ++ value ∷ []) (tokens ++ symbol ∷ [])
    (goes_on state (behind test place) criteria list (list ++ value ∷ []) tokens symbol r
    (behind_current test place (list ++ value ∷ []) (r.current ++ symbol ∷ []) (operand_on test state (behind test place) list (list ++ value ∷ []) r.current symbol h t))))

-- a word ends a value
word_keeps : (state : State) (test : Test) (place : Place) (criteria : List Criterion) (list : List Value) (tokens : List Symbol) (word : List ℕ) (to : Machine) (found : Option Value)
    → value_of test.key word ≡ found → (r : InCriterion state criteria list tokens) → (h : IsHeaded test state list r.current) → InPlace test place list h.tail
    → option_and_then (after_step (at state criteria list)) (option_map (λ (value : Value). steps.Keep value (behind test place)) found) ≡ Some to → Reads to (tokens ++ Word word ∷ [])
word_keeps state test place criteria list tokens word to None says r h p e = absurd (nothing to e)
word_keeps state test place criteria list tokens word to (Some value) says r h p e =
    keeps state test place criteria list tokens (Word word) value to r h
    (valued test place list h.tail value (Word word ∷ []) p (inl (record { word = word; text = refl; says = says }))) e

-- ---- each state

at_key : (criteria : List Criterion) (list : List Value) (tokens : List Symbol) (word : List ℕ) (to : Machine) (found : Option Key) → key_of word ≡ found → InCriterion states.Opened criteria list tokens
    → option_and_then (after_step (at states.Opened criteria list)) (option_map (λ (key : Key). steps.Go (states.Keyed key)) found) ≡ Some to → Reads to (tokens ++ Word word ∷ [])
at_key criteria list tokens word to None says r e = absurd (nothing to e)
at_key criteria list tokens word to (Some key) says r e =
    reads_some (at (states.Keyed key) criteria list) to (tokens ++ Word word ∷ []) e
    (goes_on states.Opened (states.Keyed key) criteria list list tokens (Word word) r (r.begun.0, word, ap (λ (t : List Symbol). t ++ Word word ∷ []) r.begun.1, says))

after_opened : (criteria : List Criterion) (list : List Value) (tokens : List Symbol) (symbol : Symbol) (to : Machine) → InCriterion states.Opened criteria list tokens
    → next (at states.Opened criteria list) symbol ≡ Some to → Reads to (tokens ++ symbol ∷ [])
after_opened criteria list tokens (Word word) to r e = at_key criteria list tokens word to (key_of word) refl r e
after_opened criteria list tokens Open to r e = absurd (nothing to e)
after_opened criteria list tokens Close to r e = absurd (nothing to e)
after_opened criteria list tokens Comma to r e = absurd (nothing to e)
after_opened criteria list tokens (Other byte) to r e = absurd (nothing to e)

after_keyed : (key : Key) (criteria : List Criterion) (list : List Value) (tokens : List Symbol) (symbol : Symbol) (to : Machine) → InCriterion (states.Keyed key) criteria list tokens
    → next (at (states.Keyed key) criteria list) symbol ≡ Some to → Reads to (tokens ++ symbol ∷ [])
after_keyed key criteria list tokens Comma to r e =
    reads_some (at (states.Operator key) criteria list) to (tokens ++ Comma ∷ []) e
    (goes_on (states.Keyed key) (states.Operator key) criteria list list tokens Comma r (r.begun.0, r.begun.1, ap (λ (t : List Symbol). t ++ Comma ∷ []) r.begun.2, r.begun.3))
after_keyed key criteria list tokens Open to r e = absurd (nothing to e)
after_keyed key criteria list tokens Close to r e = absurd (nothing to e)
after_keyed key criteria list tokens (Word word) to r e = absurd (nothing to e)
after_keyed key criteria list tokens (Other byte) to r e = absurd (nothing to e)

at_allowed : (key : Key) (op : Op) (criteria : List Criterion) (list : List Value) (tokens : List Symbol) (word : List ℕ) (to : Machine) (allowed : Bool) → is_allowed key op ≡ allowed → op_of word ≡ Some op
    → InCriterion (states.Operator key) criteria list tokens
    → option_and_then (after_step (at (states.Operator key) criteria list)) (if allowed then Some (steps.Go (states.Compared (record { key = key; op = op }))) else None) ≡ Some to → Reads to (tokens ++ Word word ∷ [])
at_allowed key op criteria list tokens word to false a says r e = absurd (nothing to e)
at_allowed key op criteria list tokens word to true a says r e =
    let test : Test = record { key = key; op = op } in
    reads_some (at (states.Compared test) criteria list) to (tokens ++ Word word ∷ []) e
    (goes_on (states.Operator key) (states.Compared test) criteria list list tokens (Word word) r
    (r.begun.0, r.begun.1, word, ap (λ (t : List Symbol). t ++ Word word ∷ []) r.begun.2, r.begun.3, says, a))

at_op : (key : Key) (criteria : List Criterion) (list : List Value) (tokens : List Symbol) (word : List ℕ) (to : Machine) (found : Option Op) → op_of word ≡ found → InCriterion (states.Operator key) criteria list tokens
    → option_and_then (after_step (at (states.Operator key) criteria list)) (option_and_then (compared key) found) ≡ Some to → Reads to (tokens ++ Word word ∷ [])
at_op key criteria list tokens word to None says r e = absurd (nothing to e)
at_op key criteria list tokens word to (Some op) says r e = at_allowed key op criteria list tokens word to (is_allowed key op) refl says r e

after_operator : (key : Key) (criteria : List Criterion) (list : List Value) (tokens : List Symbol) (symbol : Symbol) (to : Machine) → InCriterion (states.Operator key) criteria list tokens
    → next (at (states.Operator key) criteria list) symbol ≡ Some to → Reads to (tokens ++ symbol ∷ [])
after_operator key criteria list tokens (Word word) to r e = at_op key criteria list tokens word to (op_of word) refl r e
after_operator key criteria list tokens Open to r e = absurd (nothing to e)
after_operator key criteria list tokens Close to r e = absurd (nothing to e)
after_operator key criteria list tokens Comma to r e = absurd (nothing to e)
after_operator key criteria list tokens (Other byte) to r e = absurd (nothing to e)

after_compared : (test : Test) (criteria : List Criterion) (list : List Value) (tokens : List Symbol) (symbol : Symbol) (to : Machine) → InCriterion (states.Compared test) criteria list tokens
    → next (at (states.Compared test) criteria list) symbol ≡ Some to → Reads to (tokens ++ symbol ∷ [])
after_compared test criteria list tokens Comma to r e =
    reads_some (at (states.Operand test) criteria list) to (tokens ++ Comma ∷ []) e
    (goes_on (states.Compared test) (states.Operand test) criteria list list tokens Comma r (record {
      key_word = r.begun.1;
      op_word = r.begun.2;
      tail = [];
      text = ap (λ (t : List Symbol). t ++ Comma ∷ []) r.begun.3;
      key = r.begun.4;
      op = r.begun.5;
      allowed = r.begun.6;
      operand = (r.begun.0, refl);
    }))
after_compared test criteria list tokens Open to r e = absurd (nothing to e)
after_compared test criteria list tokens Close to r e = absurd (nothing to e)
after_compared test criteria list tokens (Word word) to r e = absurd (nothing to e)
after_compared test criteria list tokens (Other byte) to r e = absurd (nothing to e)

-- a bracket in front of the values
operand_bracket : (test : Test) (criteria : List Criterion) (list : List Value) (tokens : List Symbol) (to : Machine) (date equality : Bool) → is_date test.key ≡ date → is_equality test.op ≡ equality
    → InCriterion (states.Operand test) criteria list tokens
    → option_and_then (after_step (at (states.Operand test) criteria list)) (if date then (if equality then Some (steps.Go (states.Bracket test)) else Some (steps.Go (states.Today test places.Alone))) else (if equality then Some (steps.Go (states.Listing test)) else None)) ≡ Some to
    → Reads to (tokens ++ Open ∷ [])
operand_bracket test criteria list tokens to true true d q r e =
    reads_some (at (states.Bracket test) criteria list) to (tokens ++ Open ∷ []) e
    (goes_on (states.Operand test) (states.Bracket test) criteria list list tokens Open r
    (operand_on test (states.Operand test) (states.Bracket test) list list r.current Open r.begun (r.begun.operand.0, ap (λ (t : List Symbol). t ++ Open ∷ []) r.begun.operand.1, d, q)))
operand_bracket test criteria list tokens to true false d q r e =
    reads_some (at (states.Today test places.Alone) criteria list) to (tokens ++ Open ∷ []) e
    (goes_on (states.Operand test) (states.Today test places.Alone) criteria list list tokens Open r
    (operand_on test (states.Operand test) (states.Today test places.Alone) list list r.current Open r.begun (record { front = r.begun.tail; date = d; text = refl; place_is = r.begun.operand })))
operand_bracket test criteria list tokens to false true d q r e =
    reads_some (at (states.Listing test) criteria list) to (tokens ++ Open ∷ []) e
    (goes_on (states.Operand test) (states.Listing test) criteria list list tokens Open r
    (operand_on test (states.Operand test) (states.Listing test) list list r.current Open r.begun (q, [], ap (λ (t : List Symbol). t ++ Open ∷ []) r.begun.operand.1, inl (r.begun.operand.0, refl))))
operand_bracket test criteria list tokens to false false d q r e = absurd (nothing to e)

after_operand : (test : Test) (criteria : List Criterion) (list : List Value) (tokens : List Symbol) (symbol : Symbol) (to : Machine) → InCriterion (states.Operand test) criteria list tokens
    → next (at (states.Operand test) criteria list) symbol ≡ Some to → Reads to (tokens ++ symbol ∷ [])
after_operand test criteria list tokens (Word word) to r e =
    word_keeps (states.Operand test) test places.Alone criteria list tokens word to (value_of test.key word) refl r r.begun r.begun.operand e
after_operand test criteria list tokens Open to r e = operand_bracket test criteria list tokens to (is_date test.key) (is_equality test.op) refl refl r e
after_operand test criteria list tokens Close to r e = absurd (nothing to e)
after_operand test criteria list tokens Comma to r e = absurd (nothing to e)
after_operand test criteria list tokens (Other byte) to r e = absurd (nothing to e)

-- a list of dates begins
bracket_list : (test : Test) (list : List Value) (tokens : List Symbol) → IsTail (states.Bracket test) list tokens → InPlace test places.InList list tokens
bracket_list test list tokens t = (t.3, [], t.1, inl (t.0, refl))

bracket_word : (test : Test) (criteria : List Criterion) (list : List Value) (tokens : List Symbol) (word : List ℕ) (to : Machine) (starred : Bool) → bytes_eq word star ≡ starred
    → InCriterion (states.Bracket test) criteria list tokens
    → option_and_then (after_step (at (states.Bracket test) criteria list)) (if starred then Some (steps.Go (states.Star test places.Alone)) else option_map (λ (value : Value). steps.Keep value (states.Member test)) (value_of test.key word)) ≡ Some to
    → Reads to (tokens ++ Word word ∷ [])
bracket_word test criteria list tokens word to true s r e =
    reads_some (at (states.Star test places.Alone) criteria list) to (tokens ++ Word word ∷ []) e
    (goes_on (states.Bracket test) (states.Star test places.Alone) criteria list list tokens (Word word) r
    (operand_on test (states.Bracket test) (states.Star test places.Alone) list list r.current (Word word) r.begun (record {
      front = [];
      date = r.begun.operand.2;
      text = ap (λ (t : List Symbol). t ++ Word word ∷ []) r.begun.operand.1 ∙ ap (λ (w : List ℕ). Open ∷ Word w ∷ []) (is_star word s);
      place_is = (r.begun.operand.0, refl);
    })))
bracket_word test criteria list tokens word to false s r e =
    word_keeps (states.Bracket test) test places.InList criteria list tokens word to (value_of test.key word) refl r r.begun (bracket_list test list r.begun.tail r.begun.operand) e

after_bracket : (test : Test) (criteria : List Criterion) (list : List Value) (tokens : List Symbol) (symbol : Symbol) (to : Machine) → InCriterion (states.Bracket test) criteria list tokens
    → next (at (states.Bracket test) criteria list) symbol ≡ Some to → Reads to (tokens ++ symbol ∷ [])
after_bracket test criteria list tokens (Word word) to r e = bracket_word test criteria list tokens word to (bytes_eq word star) refl r e
after_bracket test criteria list tokens Open to r e =
    reads_some (at (states.Today test places.InList) criteria list) to (tokens ++ Open ∷ []) e
    (goes_on (states.Bracket test) (states.Today test places.InList) criteria list list tokens Open r
    (operand_on test (states.Bracket test) (states.Today test places.InList) list list r.current Open r.begun (record {
      front = r.begun.tail;
      date = r.begun.operand.2;
      text = refl;
      place_is = bracket_list test list r.begun.tail r.begun.operand;
    })))
after_bracket test criteria list tokens Close to r e = absurd (nothing to e)
after_bracket test criteria list tokens Comma to r e = absurd (nothing to e)
after_bracket test criteria list tokens (Other byte) to r e = absurd (nothing to e)

listing_bracket : (test : Test) (criteria : List Criterion) (list : List Value) (tokens : List Symbol) (to : Machine) (date : Bool) → is_date test.key ≡ date
    → InCriterion (states.Listing test) criteria list tokens
    → option_and_then (after_step (at (states.Listing test) criteria list)) (if date then Some (steps.Go (states.Today test places.InList)) else None) ≡ Some to
    → Reads to (tokens ++ Open ∷ [])
listing_bracket test criteria list tokens to true d r e =
    reads_some (at (states.Today test places.InList) criteria list) to (tokens ++ Open ∷ []) e
    (goes_on (states.Listing test) (states.Today test places.InList) criteria list list tokens Open r
    (operand_on test (states.Listing test) (states.Today test places.InList) list list r.current Open r.begun (record { front = r.begun.tail; date = d; text = refl; place_is = r.begun.operand })))
listing_bracket test criteria list tokens to false d r e = absurd (nothing to e)

after_listing : (test : Test) (criteria : List Criterion) (list : List Value) (tokens : List Symbol) (symbol : Symbol) (to : Machine) → InCriterion (states.Listing test) criteria list tokens
    → next (at (states.Listing test) criteria list) symbol ≡ Some to → Reads to (tokens ++ symbol ∷ [])
after_listing test criteria list tokens (Word word) to r e =
    word_keeps (states.Listing test) test places.InList criteria list tokens word to (value_of test.key word) refl r r.begun r.begun.operand e
after_listing test criteria list tokens Open to r e = listing_bracket test criteria list tokens to (is_date test.key) refl r e
after_listing test criteria list tokens Close to r e = absurd (nothing to e)
after_listing test criteria list tokens Comma to r e = absurd (nothing to e)
after_listing test criteria list tokens (Other byte) to r e = absurd (nothing to e)

after_member : (test : Test) (criteria : List Criterion) (list : List Value) (tokens : List Symbol) (symbol : Symbol) (to : Machine) → InCriterion (states.Member test) criteria list tokens
    → next (at (states.Member test) criteria list) symbol ≡ Some to → Reads to (tokens ++ symbol ∷ [])
after_member test criteria list tokens Comma to r e =
    reads_some (at (states.Listing test) criteria list) to (tokens ++ Comma ∷ []) e
    (goes_on (states.Member test) (states.Listing test) criteria list list tokens Comma r
    (operand_on test (states.Member test) (states.Listing test) list list r.current Comma r.begun (
      r.begun.operand.0,
      r.begun.operand.1 ++ Comma ∷ [],
      ap (λ (t : List Symbol). t ++ Comma ∷ []) r.begun.operand.2,
      inr (r.begun.operand.1, refl, r.begun.operand.3),
    )))
after_member test criteria list tokens Close to r e =
    reads_some (at (states.Whole test) criteria list) to (tokens ++ Close ∷ []) e
    (goes_on (states.Member test) (states.Whole test) criteria list list tokens Close r
    (operand_on test (states.Member test) (states.Whole test) list list r.current Close r.begun (inr (record {
      equality = r.begun.operand.0;
      members = r.begun.operand.1;
      text = ap (λ (t : List Symbol). t ++ Close ∷ []) r.begun.operand.2;
      each = r.begun.operand.3;
    }))))
after_member test criteria list tokens Open to r e = absurd (nothing to e)
after_member test criteria list tokens (Word word) to r e = absurd (nothing to e)
after_member test criteria list tokens (Other byte) to r e = absurd (nothing to e)

after_whole : (test : Test) (criteria : List Criterion) (list : List Value) (tokens : List Symbol) (symbol : Symbol) (to : Machine) → InCriterion (states.Whole test) criteria list tokens
    → next (at (states.Whole test) criteria list) symbol ≡ Some to → Reads to (tokens ++ symbol ∷ [])
after_whole test criteria list tokens Close to r e =
    let criterion : IsCriterion (closed test list) (r.current ++ Close ∷ []) = record {
      key_word = r.begun.key_word;
      op_word = r.begun.op_word;
      operand = r.begun.tail;
      text = ap (λ (t : List Symbol). t ++ Close ∷ []) r.begun.text;
      key = r.begun.key;
      op = r.begun.op;
      allowed = r.begun.allowed;
      compared = r.begun.operand;
    } in
    let whole : tokens ++ Close ∷ [] ≡ r.done ++ (r.current ++ Close ∷ []) = ap (λ (t : List Symbol). t ++ Close ∷ []) r.text ∙ append_assoc r.done r.current (Close ∷ []) in
    reads_some (at states.Ended (criteria ++ closed test list ∷ []) []) to (tokens ++ Close ∷ []) e (
      refl,
      subst (λ (t : List Symbol). IsSequence (criteria ++ closed test list ∷ []) t) (sym whole) (criterion_more criteria r.done (closed test list) (r.current ++ Close ∷ []) r.before criterion),
      omega (arith, r.few, length-append criteria (closed test list ∷ [])),
    )
after_whole test criteria list tokens Open to r e = absurd (nothing to e)
after_whole test criteria list tokens Comma to r e = absurd (nothing to e)
after_whole test criteria list tokens (Word word) to r e = absurd (nothing to e)
after_whole test criteria list tokens (Other byte) to r e = absurd (nothing to e)

today_word : (test : Test) (place : Place) (criteria : List Criterion) (list : List Value) (tokens : List Symbol) (word : List ℕ) (to : Machine) (starred : Bool) → bytes_eq word star ≡ starred
    → InCriterion (states.Today test place) criteria list tokens
    → option_and_then (after_step (at (states.Today test place) criteria list)) (if starred then Some (steps.Go (states.Star test place)) else None) ≡ Some to
    → Reads to (tokens ++ Word word ∷ [])
today_word test place criteria list tokens word to true s r e =
    let P : Symbol → Type 0 = λ t. InDate test place list (r.begun.tail ++ Word word ∷ []) (Open ∷ t ∷ []) in
    reads_some (at (states.Star test place) criteria list) to (tokens ++ Word word ∷ []) e
    (goes_on (states.Today test place) (states.Star test place) criteria list list tokens (Word word) r
    (operand_on test (states.Today test place) (states.Star test place) list list r.current (Word word) r.begun
    (subst P (ap Word (is_star word s)) (date_on test place list r.begun.tail (Open ∷ []) (Word word) r.begun.operand))))
today_word test place criteria list tokens word to false s r e = absurd (nothing to e)

after_today : (test : Test) (place : Place) (criteria : List Criterion) (list : List Value) (tokens : List Symbol) (symbol : Symbol) (to : Machine) → InCriterion (states.Today test place) criteria list tokens
    → next (at (states.Today test place) criteria list) symbol ≡ Some to → Reads to (tokens ++ symbol ∷ [])
after_today test place criteria list tokens (Word word) to r e = today_word test place criteria list tokens word to (bytes_eq word star) refl r e
after_today test place criteria list tokens Open to r e = absurd (nothing to e)
after_today test place criteria list tokens Close to r e = absurd (nothing to e)
after_today test place criteria list tokens Comma to r e = absurd (nothing to e)
after_today test place criteria list tokens (Other byte) to r e = absurd (nothing to e)

after_star : (test : Test) (place : Place) (criteria : List Criterion) (list : List Value) (tokens : List Symbol) (symbol : Symbol) (to : Machine) → InCriterion (states.Star test place) criteria list tokens
    → next (at (states.Star test place) criteria list) symbol ≡ Some to → Reads to (tokens ++ symbol ∷ [])
after_star test place criteria list tokens Close to r e =
    keeps (states.Star test place) test place criteria list tokens Close (values.Date (dates.FromToday (pos 0))) to r r.begun
    (date_valued test place list (r.begun.tail ++ Close ∷ []) (Open ∷ Word star ∷ Close ∷ []) (values.Date (dates.FromToday (pos 0)))
    (date_on test place list r.begun.tail (Open ∷ Word star ∷ []) Close r.begun.operand)
    (inr (r.begun.operand.date, inl (record { text = refl; says = refl })))) e
after_star test place criteria list tokens Comma to r e =
    reads_some (at (states.Shift test place) criteria list) to (tokens ++ Comma ∷ []) e
    (goes_on (states.Star test place) (states.Shift test place) criteria list list tokens Comma r
    (operand_on test (states.Star test place) (states.Shift test place) list list r.current Comma r.begun
    (date_on test place list r.begun.tail (Open ∷ Word star ∷ []) Comma r.begun.operand)))
after_star test place criteria list tokens Open to r e = absurd (nothing to e)
after_star test place criteria list tokens (Word word) to r e = absurd (nothing to e)
after_star test place criteria list tokens (Other byte) to r e = absurd (nothing to e)

shift_word : (test : Test) (place : Place) (criteria : List Criterion) (list : List Value) (tokens : List Symbol) (word : List ℕ) (to : Machine) (found : Option ℤ) → shift_of word ≡ found
    → InCriterion (states.Shift test place) criteria list tokens
    → option_and_then (after_step (at (states.Shift test place) criteria list)) (option_map (λ (days : ℤ). steps.Go (states.Shifted test place days)) found) ≡ Some to
    → Reads to (tokens ++ Word word ∷ [])
shift_word test place criteria list tokens word to None s r e = absurd (nothing to e)
shift_word test place criteria list tokens word to (Some days) s r e =
    reads_some (at (states.Shifted test place days) criteria list) to (tokens ++ Word word ∷ []) e
    (goes_on (states.Shift test place) (states.Shifted test place days) criteria list list tokens (Word word) r
    (operand_on test (states.Shift test place) (states.Shifted test place days) list list r.current (Word word) r.begun
    (word, s, date_on test place list r.begun.tail (Open ∷ Word star ∷ Comma ∷ []) (Word word) r.begun.operand)))

after_shift : (test : Test) (place : Place) (criteria : List Criterion) (list : List Value) (tokens : List Symbol) (symbol : Symbol) (to : Machine) → InCriterion (states.Shift test place) criteria list tokens
    → next (at (states.Shift test place) criteria list) symbol ≡ Some to → Reads to (tokens ++ symbol ∷ [])
after_shift test place criteria list tokens (Word word) to r e = shift_word test place criteria list tokens word to (shift_of word) refl r e
after_shift test place criteria list tokens Open to r e = absurd (nothing to e)
after_shift test place criteria list tokens Close to r e = absurd (nothing to e)
after_shift test place criteria list tokens Comma to r e = absurd (nothing to e)
after_shift test place criteria list tokens (Other byte) to r e = absurd (nothing to e)

after_shifted : (test : Test) (place : Place) (days : ℤ) (criteria : List Criterion) (list : List Value) (tokens : List Symbol) (symbol : Symbol) (to : Machine) → InCriterion (states.Shifted test place days) criteria list tokens
    → next (at (states.Shifted test place days) criteria list) symbol ≡ Some to → Reads to (tokens ++ symbol ∷ [])
after_shifted test place days criteria list tokens Close to r e =
    let word = r.begun.operand.0 in
    keeps (states.Shifted test place days) test place criteria list tokens Close (values.Date (dates.FromToday days)) to r r.begun
    (date_valued test place list (r.begun.tail ++ Close ∷ []) (Open ∷ Word star ∷ Comma ∷ Word word ∷ Close ∷ []) (values.Date (dates.FromToday days))
    (date_on test place list r.begun.tail (Open ∷ Word star ∷ Comma ∷ Word word ∷ []) Close r.begun.operand.2)
    (inr (r.begun.operand.2.date, inr (record { word = word; days = days; text = refl; says = r.begun.operand.1; date = refl })))) e
after_shifted test place days criteria list tokens Open to r e = absurd (nothing to e)
after_shifted test place days criteria list tokens Comma to r e = absurd (nothing to e)
after_shifted test place days criteria list tokens (Word word) to r e = absurd (nothing to e)
after_shifted test place days criteria list tokens (Other byte) to r e = absurd (nothing to e)

after_start : (criteria : List Criterion) (list : List Value) (tokens : List Symbol) (symbol : Symbol) (to : Machine) → ReadsBy states.Start criteria list tokens
    → next (at states.Start criteria list) symbol ≡ Some to → Reads to (tokens ++ symbol ∷ [])
after_start criteria list tokens Open to r e =
    begins_by states.Start criteria list tokens to (length criteria == most_criteria) refl (omega (arith, ap length r.0)) r.1 (inl (r.0, r.2)) e
after_start criteria list tokens Close to r e = absurd (nothing to e)
after_start criteria list tokens Comma to r e = absurd (nothing to e)
after_start criteria list tokens (Word word) to r e = absurd (nothing to e)
after_start criteria list tokens (Other byte) to r e = absurd (nothing to e)

after_comma : (criteria : List Criterion) (list : List Value) (tokens : List Symbol) (symbol : Symbol) (to : Machine) → ReadsBy states.Comma criteria list tokens
    → next (at states.Comma criteria list) symbol ≡ Some to → Reads to (tokens ++ symbol ∷ [])
after_comma criteria list tokens Open to r e =
    begins_by states.Comma criteria list tokens to (length criteria == most_criteria) refl r.4 r.0 (inr (inr (r.1, r.2, r.3))) e
after_comma criteria list tokens Close to r e = absurd (nothing to e)
after_comma criteria list tokens Comma to r e = absurd (nothing to e)
after_comma criteria list tokens (Word word) to r e = absurd (nothing to e)
after_comma criteria list tokens (Other byte) to r e = absurd (nothing to e)

after_ended : (criteria : List Criterion) (list : List Value) (tokens : List Symbol) (symbol : Symbol) (to : Machine) → ReadsBy states.Ended criteria list tokens
    → next (at states.Ended criteria list) symbol ≡ Some to → Reads to (tokens ++ symbol ∷ [])
after_ended criteria list tokens Open to r e =
    begins_by states.Ended criteria list tokens to (length criteria == most_criteria) refl r.2 r.0 (inr (inl r.1)) e
after_ended criteria list tokens Comma to r e = reads_some (at states.Comma criteria list) to (tokens ++ Comma ∷ []) e (r.0, tokens, refl, r.1, r.2)
after_ended criteria list tokens Close to r e = absurd (nothing to e)
after_ended criteria list tokens (Word word) to r e = absurd (nothing to e)
after_ended criteria list tokens (Other byte) to r e = absurd (nothing to e)

reads_next : (state : State) (criteria : List Criterion) (list : List Value) (tokens : List Symbol) (symbol : Symbol) (to : Machine) → ReadsBy state criteria list tokens
    → next (at state criteria list) symbol ≡ Some to → Reads to (tokens ++ symbol ∷ [])
reads_next states.Start = after_start
reads_next states.Comma = after_comma
reads_next states.Ended = after_ended
reads_next states.Opened = after_opened
reads_next (states.Keyed key) = after_keyed key
reads_next (states.Operator key) = after_operator key
reads_next (states.Compared test) = after_compared test
reads_next (states.Operand test) = after_operand test
reads_next (states.Bracket test) = after_bracket test
reads_next (states.Listing test) = after_listing test
reads_next (states.Member test) = after_member test
reads_next (states.Whole test) = after_whole test
reads_next (states.Today test place) = after_today test place
reads_next (states.Star test place) = after_star test place
reads_next (states.Shift test place) = after_shift test place
reads_next (states.Shifted test place days) = after_shifted test place days

-- the tokens that were read lead to what was read
reads_run : (machine : Machine) (before tokens : List Symbol) (to : Machine) → Reads machine before → run machine tokens ≡ Some to → Reads to (before ++ tokens)
reads_run machine before [] to r e =
    let same : machine ≡ to = cc in
    let P : Machine → Type 0 = λ m. Reads m (before ++ []) in
    subst P same (rw append-nil r)
reads_run machine before (symbol ∷ tokens) to r e =
    let here : (found : Option Machine) → next machine symbol ≡ found → option_and_then (λ (after : Machine). run after tokens) found ≡ Some to → Reads to ((before ++ symbol ∷ []) ++ tokens) =
    (λ found. elim found as (λ (o : Option Machine). next machine symbol ≡ o → option_and_then (λ (after : Machine). run after tokens) o ≡ Some to → Reads to ((before ++ symbol ∷ []) ++ tokens)) [
      | None ↦ (λ n f. absurd (nothing to f))
      | Some after ↦ (λ n f. reads_run after (before ++ symbol ∷ []) tokens to (reads_next machine.state machine.criteria machine.values before symbol after r n) f)
    ]) in
    let P : List Symbol → Type 0 = λ t. Reads to t in
    subst P (append_assoc before (symbol ∷ []) tokens) (here (next machine symbol) refl e)

pub reads : (tokens : List Symbol) (to : Machine) → run start tokens ≡ Some to → Reads to tokens
reads tokens to e = reads_run start [] tokens to (refl, refl, refl) e
