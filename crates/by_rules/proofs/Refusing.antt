-- Which tokens are right, and which one is wrong.
use Rattle.std.proofs.Common.{◌≡◌, inl, inr, ℕ, List, [], ◌∷◌, ◌++◌, refl, sym, ap, subst, ◌∙◌, true, false, Some, None, append_assoc, append-nil, ℤ, pos}
use Rattle.std.specs.Prelude.{codes, Result, Ok, Err, IfErr}
use Rattle.std.specs.Option.{option_and_then}
use Rattle.std.specs.Str.{bytes_eq}
use Rattle.by_rules.specs.declared.criterion.Key.{Key}
use Rattle.by_rules.specs.declared.criterion.Key.TheVariants as keys
use Rattle.by_rules.specs.declared.criterion.Op.TheVariants as ops
use Rattle.by_rules.specs.declared.criterion.When.TheVariants as dates
use Rattle.by_rules.specs.declared.criterion.Value.{Value}
use Rattle.by_rules.specs.declared.criterion.Value.TheVariants as values
use Rattle.by_rules.specs.declared.criterion.Criterion.{Criterion}
use Rattle.by_rules.specs.declared.fault.ByFault.{ByFault}
use Rattle.by_rules.specs.declared.fault.ByFault.TheVariants.{BadCriterion, NoMemory}
use Rattle.by_rules.specs.declared.state.Test.{Test}
use Rattle.by_rules.specs.declared.state.Place.{Place}
use Rattle.by_rules.specs.declared.state.Place.TheVariants as places
use Rattle.by_rules.specs.declared.state.State.{State}
use Rattle.by_rules.specs.declared.state.State.TheVariants as states
use Rattle.by_rules.specs.Token.{Symbol, Open, Close, Comma, Word, tokens_of}
use Rattle.by_rules.specs.Words.{value_of}
use Rattle.by_rules.specs.Grammar.{is_allowed, star, Spell}
use Rattle.by_rules.specs.Reading.{Machine, behind, closed, next, run, start}
use Rattle.by_rules.specs.Refusal.{Begin, IsWrongAt, IsRefusal}
use Rattle.by_rules.proofs.Complete.{at, run-append, run_then, complete}
use Rattle.by_rules.proofs.Sound.{Reads, reads}

-- what is read in the end is spelled
pub spelled : (tokens : List Symbol) (criteria : List Criterion) (list : List Value) → run start tokens ≡ Some (at states.Ended criteria list) → Spell tokens criteria
spelled tokens criteria list e =
    let r = reads tokens (at states.Ended criteria list) e in
    record { sequence = r.1; few = r.2 }

-- ---- from each state criteria can be ended

record CanEnd (machine : Machine) : Type 0 where
  pub rest : List Symbol
  pub criteria : List Criterion
  pub ends : run machine rest ≡ Some (at states.Ended criteria [])

by_token : (machine after : Machine) (symbol : Symbol) → next machine symbol ≡ Some after → CanEnd after → CanEnd machine
by_token machine after symbol e c = record { rest = symbol ∷ c.rest; criteria = c.criteria; ends = rw e c.ends }

-- a word that says a value
sample : Key → List ℕ
sample keys.Organization = codes "PS"
sample keys.Created = codes "00000"
sample keys.Expires = codes "00000"
sample keys.Referred = codes "00000"
sample keys.Extents = codes "0"
sample keys.Tracks = codes "0"
sample keys.Changed = codes "NO"
sample keys.Allocation = codes "CYL"
sample keys.Multivolume = codes "NO"

sample_says : (key : Key) → (value : Value) × (value_of key (sample key) ≡ Some value) × (bytes_eq (sample key) star ≡ false)
unfolding sample
sample_says keys.Organization = (_, refl, refl)
sample_says keys.Created = (_, refl, refl)
sample_says keys.Expires = (_, refl, refl)
sample_says keys.Referred = (_, refl, refl)
sample_says keys.Extents = (_, refl, refl)
sample_says keys.Tracks = (_, refl, refl)
sample_says keys.Changed = (_, refl, refl)
sample_says keys.Allocation = (_, refl, refl)
sample_says keys.Multivolume = (_, refl, refl)

equal_allowed : (key : Key) → is_allowed key ops.Equal ≡ true
equal_allowed keys.Organization = refl
equal_allowed keys.Created = refl
equal_allowed keys.Expires = refl
equal_allowed keys.Referred = refl
equal_allowed keys.Extents = refl
equal_allowed keys.Tracks = refl
equal_allowed keys.Changed = refl
equal_allowed keys.Allocation = refl
equal_allowed keys.Multivolume = refl

from_whole : (test : Test) (criteria : List Criterion) (list : List Value) → CanEnd (at (states.Whole test) criteria list)
from_whole test criteria list = record { rest = Close ∷ []; criteria = criteria ++ closed test list ∷ []; ends = refl }

from_member : (test : Test) (criteria : List Criterion) (list : List Value) → CanEnd (at (states.Member test) criteria list)
from_member test criteria list = by_token (at (states.Member test) criteria list) (at (states.Whole test) criteria list) Close refl (from_whole test criteria list)

from_value : (test : Test) (place : Place) (criteria : List Criterion) (list : List Value) → CanEnd (at (behind test place) criteria list)
from_value test places.Alone criteria list = from_whole test criteria list
from_value test places.InList criteria list = from_member test criteria list

from_shifted : (test : Test) (place : Place) (days : ℤ) (criteria : List Criterion) (list : List Value) → CanEnd (at (states.Shifted test place days) criteria list)
from_shifted test place days criteria list =
    let more = list ++ values.Date (dates.FromToday days) ∷ [] in
    by_token (at (states.Shifted test place days) criteria list) (at (behind test place) criteria more) Close refl (from_value test place criteria more)

from_shift : (test : Test) (place : Place) (criteria : List Criterion) (list : List Value) → CanEnd (at (states.Shift test place) criteria list)
from_shift test place criteria list =
    by_token (at (states.Shift test place) criteria list) (at (states.Shifted test place (pos 0)) criteria list) (Word (codes "0")) refl (from_shifted test place (pos 0) criteria list)

from_star : (test : Test) (place : Place) (criteria : List Criterion) (list : List Value) → CanEnd (at (states.Star test place) criteria list)
from_star test place criteria list =
    by_token (at (states.Star test place) criteria list) (at (states.Shift test place) criteria list) Comma refl (from_shift test place criteria list)

from_today : (test : Test) (place : Place) (criteria : List Criterion) (list : List Value) → CanEnd (at (states.Today test place) criteria list)
from_today test place criteria list =
    by_token (at (states.Today test place) criteria list) (at (states.Star test place) criteria list) (Word star) refl (from_star test place criteria list)

from_listing : (test : Test) (criteria : List Criterion) (list : List Value) → CanEnd (at (states.Listing test) criteria list)
from_listing test criteria list =
    let said = sample_says test.key in
    let more = list ++ said.0 ∷ [] in
    by_token (at (states.Listing test) criteria list) (at (states.Member test) criteria more) (Word (sample test.key)) (rw said.1 refl) (from_member test criteria more)

from_bracket : (test : Test) (criteria : List Criterion) (list : List Value) → CanEnd (at (states.Bracket test) criteria list)
from_bracket test criteria list =
    let said = sample_says test.key in
    let more = list ++ said.0 ∷ [] in
    by_token (at (states.Bracket test) criteria list) (at (states.Member test) criteria more) (Word (sample test.key)) (rw (said.2, said.1) refl) (from_member test criteria more)

from_operand : (test : Test) (criteria : List Criterion) (list : List Value) → CanEnd (at (states.Operand test) criteria list)
from_operand test criteria list =
    let said = sample_says test.key in
    let more = list ++ said.0 ∷ [] in
    by_token (at (states.Operand test) criteria list) (at (states.Whole test) criteria more) (Word (sample test.key)) (rw said.1 refl) (from_whole test criteria more)

from_compared : (test : Test) (criteria : List Criterion) (list : List Value) → CanEnd (at (states.Compared test) criteria list)
from_compared test criteria list =
    by_token (at (states.Compared test) criteria list) (at (states.Operand test) criteria list) Comma refl (from_operand test criteria list)

from_operator : (key : Key) (criteria : List Criterion) (list : List Value) → CanEnd (at (states.Operator key) criteria list)
from_operator key criteria list =
    let test : Test = record { key = key; op = ops.Equal } in
    by_token (at (states.Operator key) criteria list) (at (states.Compared test) criteria list) (Word (codes "EQ")) (rw (equal_allowed key) refl) (from_compared test criteria list)

from_keyed : (key : Key) (criteria : List Criterion) (list : List Value) → CanEnd (at (states.Keyed key) criteria list)
from_keyed key criteria list = by_token (at (states.Keyed key) criteria list) (at (states.Operator key) criteria list) Comma refl (from_operator key criteria list)

from_opened : (criteria : List Criterion) (list : List Value) → CanEnd (at states.Opened criteria list)
from_opened criteria list =
    by_token (at states.Opened criteria list) (at (states.Keyed keys.Multivolume) criteria list) (Word (codes "MULTI")) refl (from_keyed keys.Multivolume criteria list)

from_start : CanEnd start
from_start = by_token start (at states.Opened [] []) Open refl (from_opened [] [])

-- ---- the tokens that were read are right

go_on : (tokens : List Symbol) (machine : Machine) → run start tokens ≡ Some machine → CanEnd machine → Begin tokens
go_on tokens machine e c =
    inl (record {
      criteria = c.criteria;
      rest = c.rest;
      spelled = spelled (tokens ++ c.rest) c.criteria [] (run_then start machine tokens c.rest e ∙ c.ends);
    })

right_by : (state : State) (criteria : List Criterion) (list : List Value) (tokens : List Symbol) → run start tokens ≡ Some (at state criteria list) → Reads (at state criteria list) tokens → Begin tokens
right_by states.Start criteria list tokens e r =
    let same : at states.Start criteria list ≡ start = ap (λ (c : List Criterion). at states.Start c list) r.0 ∙ ap (λ (l : List Value). at states.Start [] l) r.1 in
    go_on tokens start (e ∙ ap Some same) from_start
right_by states.Comma criteria list tokens e r =
    inr (record { criteria = criteria; front = r.1; comma = r.2; spelled = record { sequence = r.3; few = r.4 } })
right_by states.Ended criteria list tokens e r =
    inl (record { criteria = criteria; rest = []; spelled = rw append-nil (record { sequence = r.1; few = r.2 }) })
right_by states.Opened criteria list tokens e r = go_on tokens (at states.Opened criteria list) e (from_opened criteria list)
right_by (states.Keyed key) criteria list tokens e r = go_on tokens (at (states.Keyed key) criteria list) e (from_keyed key criteria list)
right_by (states.Operator key) criteria list tokens e r = go_on tokens (at (states.Operator key) criteria list) e (from_operator key criteria list)
right_by (states.Compared test) criteria list tokens e r = go_on tokens (at (states.Compared test) criteria list) e (from_compared test criteria list)
right_by (states.Operand test) criteria list tokens e r = go_on tokens (at (states.Operand test) criteria list) e (from_operand test criteria list)
right_by (states.Bracket test) criteria list tokens e r = go_on tokens (at (states.Bracket test) criteria list) e (from_bracket test criteria list)
right_by (states.Listing test) criteria list tokens e r = go_on tokens (at (states.Listing test) criteria list) e (from_listing test criteria list)
right_by (states.Member test) criteria list tokens e r = go_on tokens (at (states.Member test) criteria list) e (from_member test criteria list)
right_by (states.Whole test) criteria list tokens e r = go_on tokens (at (states.Whole test) criteria list) e (from_whole test criteria list)
right_by (states.Today test place) criteria list tokens e r = go_on tokens (at (states.Today test place) criteria list) e (from_today test place criteria list)
right_by (states.Star test place) criteria list tokens e r = go_on tokens (at (states.Star test place) criteria list) e (from_star test place criteria list)
right_by (states.Shift test place) criteria list tokens e r = go_on tokens (at (states.Shift test place) criteria list) e (from_shift test place criteria list)
right_by (states.Shifted test place days) criteria list tokens e r = go_on tokens (at (states.Shifted test place days) criteria list) e (from_shifted test place days criteria list)

pub right : (tokens : List Symbol) (machine : Machine) → run start tokens ≡ Some machine → Begin tokens
right tokens machine e = right_by machine.state machine.criteria machine.values tokens e (reads tokens machine e)

-- ---- and one that is refused is wrong

stopped : (machine : Machine) (front : List Symbol) (token : Symbol) → run start front ≡ Some machine → next machine token ≡ None → run start (front ++ token ∷ []) ≡ None
stopped machine front token e n = run_then start machine front (token ∷ []) e ∙ ap (option_and_then (λ (after : Machine). run after [])) n

pub wrong : (machine : Machine) (front : List Symbol) (token : Symbol) → run start front ≡ Some machine → next machine token ≡ None → ¬ Begin (front ++ token ∷ [])
wrong machine front token e n (inl g) =
    let none = stopped machine front token e n in
    let some = complete ((front ++ token ∷ []) ++ g.rest) g.criteria g.spelled in
    let joined = run-append start (front ++ token ∷ []) g.rest ∙ ap (option_and_then (λ (after : Machine). run after g.rest)) none in
    cc
wrong machine front token e n (inr w) =
    let none = stopped machine front token e n in
    let some = run_then start (at states.Ended w.criteria []) w.front (Comma ∷ []) (complete w.front w.criteria w.spelled) in
    let same : run start (front ++ token ∷ []) ≡ run start (w.front ++ Comma ∷ []) = ap (run start) w.comma in
    cc

-- ---- a text that is refused spells nothing

pub wrong_spells_none : (text : List ℕ) (place : ℕ) (criteria : List Criterion) → IsWrongAt text place → ¬ Spell (tokens_of text) criteria
wrong_spells_none text place criteria w s =
    let P : List Symbol → Type 0 = λ t. Spell t criteria in
    w.wrong (inl (record {
      criteria = criteria;
      rest = w.behind;
      spelled = subst P (w.tokens ∙ sym (append_assoc w.front (w.token ∷ []) w.behind)) s;
    }))

pub refusal_spells_none : (text : List ℕ) (place : ℕ) (criteria : List Criterion) → IsRefusal text (BadCriterion place) → ¬ Spell (tokens_of text) criteria
refusal_spells_none text place criteria (inl w) s = wrong_spells_none text place criteria w s
refusal_spells_none text place criteria (inr early) s = early.early criteria s

pub only_memory : {X : Type 0} (text : List ℕ) (r : Result X ByFault) → IfErr r (IsRefusal text) → IfErr r (λ e. (criteria : List Criterion) → Spell (tokens_of text) criteria → e ≡ NoMemory)
only_memory text (Ok x) h = tt
only_memory text (Err (BadCriterion place)) h = λ criteria s. absurd (refusal_spells_none text place criteria h s)
only_memory text (Err NoMemory) h = λ criteria s. refl
