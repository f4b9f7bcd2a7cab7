-- What the grammar spells is read.
use Rattle.std.proofs.Common.{◌≡◌, ◌⊎◌, inl, inr, ℕ, ◌+◌, ◌<◌, ◌≤◌, List, [], ◌∷◌, ◌++◌, length, refl, sym, ap, ◌∙◌, true, false, arith, Option, Some, None, append_assoc, length-append}
use Rattle.std.specs.Prelude.{◌==◌}
use Rattle.std.specs.Option.{option_and_then}
use Rattle.std.specs.Str.{bytes_eq}
use Rattle.std.proofs.lemmas.Bool.Decides.{Decides-eqb, nat_tests}
use Rattle.std.proofs.lemmas.Slice.Eq.{slice_eq-Decides}
use Rattle.by_rules.specs.declared.criterion.Key.{Key}
use Rattle.by_rules.specs.declared.criterion.Key.TheVariants as keys
use Rattle.by_rules.specs.declared.criterion.Value.{Value}
use Rattle.by_rules.specs.declared.criterion.Criterion.{Criterion}
use Rattle.by_rules.specs.declared.state.Test.{Test}
use Rattle.by_rules.specs.declared.state.State.{State}
use Rattle.by_rules.specs.declared.state.State.TheVariants as states
use Rattle.by_rules.specs.Token.{Symbol, Open, Close, Comma}
use Rattle.by_rules.specs.Words.{value_of}
use Rattle.by_rules.specs.Grammar.{is_date, is_equality, star, most_criteria, IsValue, IsMembers, IsOperand, IsCriterion, IsSequence, Spell}
use Rattle.by_rules.specs.Reading.{Machine, next, run, start}
use Rattle.std.proofs.lemmas.Bool.{cases_Bool}

-- one list of tokens behind another
pub run-append : (machine : Machine) (a b : List Symbol) → run machine (a ++ b) ≡ option_and_then (λ (after : Machine). run after b) (run machine a)
run-append machine [] b = refl
run-append machine (symbol ∷ a) b =
    elim (next machine symbol) as (λ (o : Option Machine). option_and_then (λ (n : Machine). run n (a ++ b)) o ≡ option_and_then (λ (n : Machine). run n b) (option_and_then (λ (n : Machine). run n a) o)) [
      | None ↦ refl
      | Some after ↦ run-append after a b
    ]

pub run_then : (machine after : Machine) (a b : List Symbol) → run machine a ≡ Some after → run machine (a ++ b) ≡ run after b
run_then machine after a b e = run-append machine a b ∙ ap (option_and_then (λ (n : Machine). run n b)) e

abbrev pub at : State → List Criterion → List Value → Machine
at state criteria list = record { state = state; criteria = criteria; values = list }

-- the word is a star
pub is_star : (word : List ℕ) → bytes_eq word star ≡ true → word ≡ star
is_star word e = (slice_eq-Decides Decides-eqb word star (bytes_eq word star) refl).0 e

-- a star is no date
star_is_no_date : (key : Key) → is_date key ≡ true → value_of key star ≡ None
star_is_no_date keys.Created d = refl
star_is_no_date keys.Expires d = refl
star_is_no_date keys.Referred d = refl
star_is_no_date keys.Organization d = cc
star_is_no_date keys.Extents d = cc
star_is_no_date keys.Tracks d = cc
star_is_no_date keys.Changed d = cc
star_is_no_date keys.Allocation d = cc
star_is_no_date keys.Multivolume d = cc

no_star : (key : Key) (word : List ℕ) (value : Value) → is_date key ≡ true → value_of key word ≡ Some value → bytes_eq word star ≡ false
no_star key word value d says =
    elim (cases_Bool (bytes_eq word star)) [
      | inl yes' ↦ let none : value_of key word ≡ None = ap (value_of key) (is_star word yes') ∙ star_is_no_date key d in cc
      | inr no' ↦ no'
    ]

-- a value in a list
pub listed_value : (test : Test) (criteria : List Criterion) (list : List Value) (value : Value) (tokens : List Symbol) → IsValue test.key value tokens
    → run (at (states.Listing test) criteria list) tokens ≡ Some (at (states.Member test) criteria (list ++ value ∷ []))
listed_value test criteria list value tokens (inl w) = rw (w.text, w.says) refl
listed_value test criteria list value tokens (inr (d, inl t)) = rw (t.text, d, t.says) refl
listed_value test criteria list value tokens (inr (d, inr t)) = rw (t.text, d, t.says, t.date) refl

-- a value alone
alone_value : (test : Test) (criteria : List Criterion) (list : List Value) (value : Value) (tokens : List Symbol) → IsValue test.key value tokens
    → run (at (states.Operand test) criteria list) tokens ≡ Some (at (states.Whole test) criteria (list ++ value ∷ []))
alone_value test criteria list value tokens (inl w) = rw (w.text, w.says) refl
alone_value test criteria list value tokens (inr (d, inl t)) =
    elim (cases_Bool (is_equality test.op)) [
      | inl equal ↦ rw (t.text, d, equal, t.says) refl
      | inr other ↦ rw (t.text, d, other, t.says) refl
    ]
alone_value test criteria list value tokens (inr (d, inr t)) =
    elim (cases_Bool (is_equality test.op)) [
      | inl equal ↦ rw (t.text, d, equal, t.says, t.date) refl
      | inr other ↦ rw (t.text, d, other, t.says, t.date) refl
    ]

-- the first value of a list of dates
first_value : (test : Test) (criteria : List Criterion) (list : List Value) (value : Value) (tokens : List Symbol) → is_date test.key ≡ true → IsValue test.key value tokens
    → run (at (states.Bracket test) criteria list) tokens ≡ Some (at (states.Member test) criteria (list ++ value ∷ []))
first_value test criteria list value tokens date (inl w) = rw (w.text, no_star test.key w.word value date w.says, w.says) refl
first_value test criteria list value tokens date (inr (d, inl t)) = rw (t.text, t.says) refl
first_value test criteria list value tokens date (inr (d, inr t)) = rw (t.text, t.says, t.date) refl

-- the values of a list, from a state that reads its first one
members_from : (state : State) (test : Test) (criteria : List Criterion) (before list : List Value) (tokens : List Symbol)
    → ((value : Value) (text : List Symbol) → IsValue test.key value text → run (at state criteria before) text ≡ Some (at (states.Member test) criteria (before ++ value ∷ [])))
    → IsMembers test.key list tokens → run (at state criteria before) tokens ≡ Some (at (states.Member test) criteria (before ++ list))
members_from state test criteria before [] tokens first members = absurd members
members_from state test criteria before (value ∷ []) tokens first members = first value tokens members
members_from state test criteria before (value ∷ more ∷ list) tokens first members =
    ap (run (at state criteria before)) members.2
    ∙ run_then (at state criteria before) (at (states.Member test) criteria (before ++ value ∷ [])) members.0 (Comma ∷ members.1) (first value members.0 members.3)
    ∙ members_from (states.Listing test) test criteria (before ++ value ∷ []) (more ∷ list) members.1 (listed_value test criteria (before ++ value ∷ [])) members.4
    ∙ ap (λ (all : List Value). Some (at (states.Member test) criteria all)) (append_assoc before (value ∷ []) (more ∷ list))

-- all values of a criterion
operand_run : (test : Test) (criteria : List Criterion) (list : List Value) (tokens : List Symbol) → IsOperand test.key test.op list tokens
    → run (at (states.Operand test) criteria []) tokens ≡ Some (at (states.Whole test) criteria list)
operand_run test criteria list tokens (inl a) =
    alone_value test criteria [] a.value tokens a.text ∙ ap (λ (all : List Value). Some (at (states.Whole test) criteria all)) (sym a.one)
operand_run test criteria list tokens (inr l) =
    elim (cases_Bool (is_date test.key)) [
      | inl date ↦ ap (run (at (states.Operand test) criteria [])) l.text
          ∙ rw (date, l.equality) (run_then (at (states.Bracket test) criteria []) (at (states.Member test) criteria list) l.members (Close ∷ [])
          (members_from (states.Bracket test) test criteria [] list l.members (λ value text v. first_value test criteria [] value text date v) l.each))
      | inr other ↦ ap (run (at (states.Operand test) criteria [])) l.text
          ∙ rw (other, l.equality) (run_then (at (states.Listing test) criteria []) (at (states.Member test) criteria list) l.members (Close ∷ [])
          (members_from (states.Listing test) test criteria [] list l.members (listed_value test criteria []) l.each))
    ]

-- a criterion, where one may begin
criterion_run : (state : State) (criteria : List Criterion) (criterion : Criterion) (tokens : List Symbol)
    → next (at state criteria []) Open ≡ Some (at states.Opened criteria []) → IsCriterion criterion tokens
    → run (at state criteria []) tokens ≡ Some (at states.Ended (criteria ++ criterion ∷ []) [])
criterion_run state criteria criterion tokens opens c =
    let test : Test = record { key = criterion.key; op = criterion.op } in
    ap (run (at state criteria [])) c.text
    ∙ rw (opens, c.key, c.op, c.allowed) (run_then (at (states.Operand test) criteria []) (at (states.Whole test) criteria criterion.values) c.operand (Close ∷ [])
    (operand_run test criteria criterion.values c.operand c.compared))

-- where a criterion may begin
abbrev pub IsFree : State → Type 0
IsFree state = (state ≡ states.Start) ⊎ ((state ≡ states.Comma) ⊎ (state ≡ states.Ended))

room : (n : ℕ) → n < most_criteria → (n == most_criteria) ≡ false
room n lt = grind (arith, nat_tests)

opens : (state : State) (criteria : List Criterion) → IsFree state → length criteria < most_criteria → next (at state criteria []) Open ≡ Some (at states.Opened criteria [])
opens state criteria (inl e) lt = rw (e, room (length criteria) lt) refl
opens state criteria (inr (inl e)) lt = rw (e, room (length criteria) lt) refl
opens state criteria (inr (inr e)) lt = rw (e, room (length criteria) lt) refl

sequence_run : (state : State) (before list : List Criterion) (tokens : List Symbol) → IsFree state → length before + length list ≤ most_criteria → IsSequence list tokens
    → run (at state before []) tokens ≡ Some (at states.Ended (before ++ list) [])
sequence_run state before [] tokens free few s = absurd s
sequence_run state before (criterion ∷ []) tokens free few s =
    criterion_run state before criterion tokens (opens state before free (omega arith)) s
sequence_run state before (criterion ∷ more ∷ list) tokens free few (first, rest, inl text, one, others) =
    ap (run (at state before [])) text
    ∙ run_then (at state before []) (at states.Ended (before ++ criterion ∷ []) []) first rest (criterion_run state before criterion first (opens state before free (omega arith)) one)
    ∙ sequence_run states.Ended (before ++ criterion ∷ []) (more ∷ list) rest (inr (inr refl)) (omega (arith, length-append before (criterion ∷ []))) others
    ∙ ap (λ (all : List Criterion). Some (at states.Ended all [])) (append_assoc before (criterion ∷ []) (more ∷ list))
sequence_run state before (criterion ∷ more ∷ list) tokens free few (first, rest, inr text, one, others) =
    ap (run (at state before [])) text
    ∙ run_then (at state before []) (at states.Ended (before ++ criterion ∷ []) []) first (Comma ∷ rest) (criterion_run state before criterion first (opens state before free (omega arith)) one)
    ∙ sequence_run states.Comma (before ++ criterion ∷ []) (more ∷ list) rest (inr (inl refl)) (omega (arith, length-append before (criterion ∷ []))) others
    ∙ ap (λ (all : List Criterion). Some (at states.Ended all [])) (append_assoc before (criterion ∷ []) (more ∷ list))

-- what tokens spell is read from them
pub complete : (tokens : List Symbol) (criteria : List Criterion) → Spell tokens criteria → run start tokens ≡ Some (at states.Ended criteria [])
complete tokens criteria s = sequence_run states.Start [] criteria tokens (inl refl) (omega (arith, s.few)) s.sequence
