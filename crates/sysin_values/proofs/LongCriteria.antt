-- A token that is wrong among criteria is so whatever number of them there may be, but for a bracket where they are full.
use Rattle.std.proofs.Common.{◌≡◌, ◌⊎◌, inl, inr, ℕ, zero, suc, ◌+◌, ◌<◌, List, [], ◌∷◌, ◌++◌, length, refl, sym, ap, subst, ◌∙◌, true, false, arith, Some, None, append_assoc, append-nil}
use Rattle.std.specs.Prelude.{◌==◌, map}
use Rattle.std.specs.Option.{option_and_then}
use Rattle.std.proofs.lemmas.Bool.Decides.{nat_tests}
use Rattle.std.proofs.lemmas.List.{map-append}
use Rattle.std.proofs.lemmas.Bool.{cases_lt}
use Rattle.by_rules.specs.declared.criterion.Criterion.{Criterion}
use Rattle.by_rules.specs.declared.state.State.TheVariants as states
use Rattle.by_rules.specs.Token as rules
use Rattle.by_rules.specs.Token.{Symbol}
use Rattle.by_rules.specs.Grammar.{IsCriterion, IsSequence, most_criteria}
use Rattle.by_rules.specs.Reading.{Machine, start, next, run}
use Rattle.by_rules.proofs.Complete.{at, run_then, complete}
use Rattle.by_rules.proofs.Refusing as refusing
use Rattle.sysin_text.specs.declared.token.Token.{Token}
use Rattle.sysin_values.specs.declared.fault.ValueFault.{ValueFault}
use Rattle.sysin_values.specs.declared.fault.ValueFault.TheVariants as faults
use Rattle.sysin_values.specs.Values.{IsCriteria, rule_of}
use Rattle.sysin_values.specs.Begun.{CanGoOn}
use Rattle.sysin_values.specs.Criteria.{CriteriaStop, CriteriaReads}

-- two beginnings of the same symbols
pub overlap : {X : Type 0} (a b c d : List X) → a ++ b ≡ c ++ d → ((e : List X) × (c ≡ a ++ e) × (b ≡ e ++ d)) ⊎ ((e : List X) × (a ≡ c ++ e) × (d ≡ e ++ b))
overlap [] b c d same = inl (c, refl, same)
overlap (x ∷ a) b [] d same = inr (x ∷ a, refl, sym same)
overlap (x ∷ a) b (y ∷ c) d same =
    let heads : x ≡ y = cc in
    let tails : a ++ b ≡ c ++ d = cc in
    elim (overlap a b c d tails) [
      | inl o ↦ let e = o.1 in inl (o.0, cc, o.2)
      | inr o ↦ let e = o.1 in inr (o.0, cc, o.2)
    ]

-- the first criteria of a sequence, and others behind them with a comma or none
record IsCut (count : ℕ) (symbols : List Symbol) : Type 0 where
  pub whole : List Criterion
  pub others : List Criterion
  pub front : List Symbol
  pub back : List Symbol
  pub length_is : length whole ≡ count
  pub first : IsSequence whole front
  pub second : IsSequence others back
  pub joined : (symbols ≡ front ++ back) ⊎ (symbols ≡ front ++ rules.Comma ∷ back)

longer : (criterion : Criterion) (list : List Criterion) (first rest : List Symbol) → IsCriterion criterion first → IsSequence list rest → IsSequence (criterion ∷ list) (first ++ rest)
longer criterion [] first rest c s = absurd s
longer criterion (next' ∷ list) first rest c s = (first, rest, inl refl, c, s)

longer_comma : (criterion : Criterion) (list : List Criterion) (first rest : List Symbol) → IsCriterion criterion first → IsSequence list rest → IsSequence (criterion ∷ list) (first ++ rules.Comma ∷ rest)
longer_comma criterion [] first rest c s = absurd s
longer_comma criterion (next' ∷ list) first rest c s = (first, rest, inr refl, c, s)

join : (first front rest back : List Symbol) → (rest ≡ front ++ back) ⊎ (rest ≡ front ++ rules.Comma ∷ back) → (first ++ rest ≡ (first ++ front) ++ back) ⊎ (first ++ rest ≡ (first ++ front) ++ rules.Comma ∷ back)
join first front rest back (inl e) = inl (ap (λ (t : List Symbol). first ++ t) e ∙ sym (append_assoc first front back))
join first front rest back (inr e) = inr (ap (λ (t : List Symbol). first ++ t) e ∙ sym (append_assoc first front (rules.Comma ∷ back)))

moved : (symbols same front back : List Symbol) → symbols ≡ same → (same ≡ front ++ back) ⊎ (same ≡ front ++ rules.Comma ∷ back) → (symbols ≡ front ++ back) ⊎ (symbols ≡ front ++ rules.Comma ∷ back)
moved symbols same front back e (inl f) = inl (e ∙ f)
moved symbols same front back e (inr f) = inr (e ∙ f)

cut : (more : ℕ) (list : List Criterion) (symbols : List Symbol) → more + 1 < length list → IsSequence list symbols → IsCut (more + 1) symbols
cut more [] symbols long s = absurd s
cut more (criterion ∷ []) symbols long s = absurd (omega arith)
cut zero (criterion ∷ next' ∷ list) symbols long (first, rest, e, c, s) =
    record { whole = criterion ∷ []; others = next' ∷ list; front = first; back = rest; length_is = refl; first = c; second = s; joined = e }
cut (suc more) (criterion ∷ next' ∷ list) symbols long (first, rest, inl e, c, s) =
    let k = cut more (next' ∷ list) rest (omega arith) s in
    record {
      whole = criterion ∷ k.whole;
      others = k.others;
      front = first ++ k.front;
      back = k.back;
      length_is = let n = k.length_is in omega arith;
      first = longer criterion k.whole first k.front c k.first;
      second = k.second;
      joined = moved symbols (first ++ rest) (first ++ k.front) k.back e (join first k.front rest k.back k.joined);
    }
cut (suc more) (criterion ∷ next' ∷ list) symbols long (first, rest, inr e, c, s) =
    let k = cut more (next' ∷ list) rest (omega arith) s in
    let same : first ++ rules.Comma ∷ (k.front ++ k.back) ≡ (first ++ rules.Comma ∷ k.front) ++ k.back = sym (append_assoc first (rules.Comma ∷ k.front) k.back) in
    record {
      whole = criterion ∷ k.whole;
      others = k.others;
      front = first ++ rules.Comma ∷ k.front;
      back = k.back;
      length_is = let n = k.length_is in omega arith;
      first = longer_comma criterion k.whole first k.front c k.first;
      second = k.second;
      joined = moved symbols (first ++ rules.Comma ∷ rest) (first ++ rules.Comma ∷ k.front) k.back e (join_comma first k.front rest k.back k.joined);
    }
  where
    join_comma : (first front rest back : List Symbol) → (rest ≡ front ++ back) ⊎ (rest ≡ front ++ rules.Comma ∷ back)
        → (first ++ rules.Comma ∷ rest ≡ (first ++ rules.Comma ∷ front) ++ back) ⊎ (first ++ rules.Comma ∷ rest ≡ (first ++ rules.Comma ∷ front) ++ rules.Comma ∷ back)
    join_comma first front rest back (inl e) = inl (ap (λ (t : List Symbol). first ++ rules.Comma ∷ t) e ∙ sym (append_assoc first (rules.Comma ∷ front) back))
    join_comma first front rest back (inr e) = inr (ap (λ (t : List Symbol). first ++ rules.Comma ∷ t) e ∙ sym (append_assoc first (rules.Comma ∷ front) (rules.Comma ∷ back)))

-- criteria begin with a bracket
opened : (list : List Criterion) (symbols : List Symbol) → IsSequence list symbols → (rest : List Symbol) × (symbols ≡ rules.Open ∷ rest)
opened [] symbols s = absurd s
opened (criterion ∷ []) symbols c = (_, c.text)
opened (criterion ∷ next' ∷ list) symbols (first, rest, inl e, c, s) = (_, e ∙ ap (λ (t : List Symbol). t ++ rest) c.text)
opened (criterion ∷ next' ∷ list) symbols (first, rest, inr e, c, s) = (_, e ∙ ap (λ (t : List Symbol). t ++ rules.Comma ∷ rest) c.text)

-- behind criteria that are full
pub is_full : (n : ℕ) → n ≡ most_criteria → (n == most_criteria) ≡ true
is_full n e = grind (arith, nat_tests)

abbrev After : List Criterion → Machine
After whole = at states.Ended whole []

none_opens : (whole : List Criterion) → length whole ≡ most_criteria → next (After whole) rules.Open ≡ None
none_opens whole full = rw (is_full (length whole) full) refl

none_opens_comma : (whole : List Criterion) → length whole ≡ most_criteria → next (at states.Comma whole []) rules.Open ≡ None
none_opens_comma whole full = rw (is_full (length whole) full) refl

abbrev IsFull : Machine → Symbol → Type 0
IsFull machine token = (token ≡ rules.Open) × (length machine.criteria ≡ most_criteria)

no_run : (machine : Machine) (token : Symbol) (rest : List Symbol) → next machine token ≡ None → run machine (token ∷ rest) ≡ None
no_run machine token rest none = ap (option_and_then (λ (after : Machine). run after rest)) none

-- where the symbols that were read end with the full criteria
at_end : (machine : Machine) (whole : List Criterion) (token : Symbol) (rest tail back : List Symbol) → machine ≡ After whole → length whole ≡ most_criteria → next machine token ≡ None
    → token ∷ rest ≡ tail → (tail ≡ rules.Open ∷ back) ⊎ (tail ≡ rules.Comma ∷ rules.Open ∷ back) → IsFull machine token
at_end machine whole token rest tail back e full none t (inl o) =
    let sign : token ≡ rules.Open = cc in
    (sign, ap (λ (m : Machine). length m.criteria) e ∙ full)
at_end machine whole token rest tail back e full none t (inr o) =
    let sign : token ≡ rules.Comma = cc in
    let some : next (After whole) rules.Comma ≡ Some (at states.Comma whole []) = refl in
    let none' : next (After whole) rules.Comma ≡ None = subst (λ (m : Machine). next m rules.Comma ≡ None) e (subst (λ (s : Symbol). next machine s ≡ None) sign none) in
    cc

-- or go on behind it
beyond : (machine : Machine) (whole : List Criterion) (s token : Symbol) (e rest back : List Symbol) → run (After whole) (s ∷ e) ≡ Some machine → length whole ≡ most_criteria
    → (s ∷ (e ++ token ∷ rest) ≡ rules.Open ∷ back) ⊎ (s ∷ (e ++ token ∷ rest) ≡ rules.Comma ∷ rules.Open ∷ back) → IsFull machine token
beyond machine whole s token e rest back r full (inl o) =
    let sign : s ≡ rules.Open = cc in
    let none = no_run (After whole) rules.Open e (none_opens whole full) in
    let some : run (After whole) (rules.Open ∷ e) ≡ Some machine = subst (λ (z : Symbol). run (After whole) (z ∷ e) ≡ Some machine) sign r in
    cc
beyond machine whole s token [] rest back r full (inr o) =
    let sign : s ≡ rules.Comma = cc in
    let same : at states.Comma whole [] ≡ machine = let some : run (After whole) (rules.Comma ∷ []) ≡ Some machine = subst (λ (z : Symbol). run (After whole) (z ∷ []) ≡ Some machine) sign r in cc in
    (cc, ap (λ (m : Machine). length m.criteria) (sym same) ∙ full)
beyond machine whole s token (u ∷ e) rest back r full (inr o) =
    let sign : s ≡ rules.Comma = cc in
    let second : u ≡ rules.Open = cc in
    let none = no_run (at states.Comma whole []) rules.Open e (none_opens_comma whole full) in
    let first : run (After whole) (rules.Comma ∷ u ∷ e) ≡ Some machine = subst (λ (z : Symbol). run (After whole) (z ∷ u ∷ e) ≡ Some machine) sign r in
    let some : run (at states.Comma whole []) (rules.Open ∷ e) ≡ Some machine = subst (λ (z : Symbol). run (at states.Comma whole []) (z ∷ e) ≡ Some machine) second first in
    cc

full_behind : (machine : Machine) (front : List Symbol) (token : Symbol) (rest tail back : List Symbol) (whole : List Criterion) (first : List Symbol) → run start front ≡ Some machine → next machine token ≡ None
    → run start first ≡ Some (After whole) → length whole ≡ most_criteria → (tail ≡ rules.Open ∷ back) ⊎ (tail ≡ rules.Comma ∷ rules.Open ∷ back)
    → ((e : List Symbol) × (first ≡ front ++ e) × (token ∷ rest ≡ e ++ tail)) ⊎ ((e : List Symbol) × (front ≡ first ++ e) × (tail ≡ e ++ token ∷ rest)) → IsFull machine token
full_behind machine front token rest tail back whole first r none w full t (inl ([], f, e)) =
    let there : run start first ≡ Some machine = ap (run start) (f ∙ append-nil front) ∙ r in
    let same : machine ≡ After whole = cc in
    at_end machine whole token rest tail back same full none e t
full_behind machine front token rest tail back whole first r none w full t (inl (s ∷ e, f, g)) =
    let sign : s ≡ token = cc in
    let none' : next machine s ≡ None = subst (λ (z : Symbol). next machine z ≡ None) (sym sign) none in
    let stopped : run start first ≡ None = ap (run start) f ∙ run_then start machine front (s ∷ e) r ∙ no_run machine s e none' in
    cc
full_behind machine front token rest tail back whole first r none w full t (inr ([], f, e)) =
    let there : run start front ≡ Some (After whole) = ap (run start) (f ∙ append-nil first) ∙ w in
    let same : machine ≡ After whole = cc in
    at_end machine whole token rest tail back same full none (sym e) t
full_behind machine front token rest tail back whole first r none w full t (inr (s ∷ e, f, g)) =
    let there : run (After whole) (s ∷ e) ≡ Some machine = sym (run_then start (After whole) first (s ∷ e) w) ∙ sym (ap (run start) f) ∙ r in
    beyond machine whole s token e rest back there full (first_of (s ∷ (e ++ token ∷ rest)) g t)
  where
    first_of : (same : List Symbol) → tail ≡ same → (tail ≡ rules.Open ∷ back) ⊎ (tail ≡ rules.Comma ∷ rules.Open ∷ back) → (same ≡ rules.Open ∷ back) ⊎ (same ≡ rules.Comma ∷ rules.Open ∷ back)
    first_of same h (inl o) = inl (sym h ∙ o)
    first_of same h (inr o) = inr (sym h ∙ o)

only_full : (machine : Machine) (front : List Symbol) (token : Symbol) (rest : List Symbol) (list : List Criterion) → run start front ≡ Some machine → next machine token ≡ None
    → IsSequence list (front ++ token ∷ rest) → IsFull machine token
only_full machine front token rest list r none s =
    elim (cases_lt most_criteria (length list)) [
      | inl long ↦ by_cut (cut 254 list (front ++ token ∷ rest) (omega (arith, long)) s)
      | inr few ↦ absurd (refusing.wrong machine front token r none (inl (record {
        criteria = list;
        rest = rest;
        spelled = record { sequence = subst (λ (t : List Symbol). IsSequence list t) (sym (append_assoc front (token ∷ []) rest)) s; few = few };
      })))
    ]
  where
    by_cut : IsCut (254 + 1) (front ++ token ∷ rest) → IsFull machine token
    by_cut k = by_join k.joined
      where
        full : length k.whole ≡ most_criteria
        full = k.length_is

        ran : run start k.front ≡ Some (After k.whole)
        ran = complete k.front k.whole (record { sequence = k.first; few = omega (arith, full) })

        by_join : (front ++ token ∷ rest ≡ k.front ++ k.back) ⊎ (front ++ token ∷ rest ≡ k.front ++ rules.Comma ∷ k.back) → IsFull machine token
        by_join (inl j) =
            let o = opened k.others k.back k.second in
            full_behind machine front token rest k.back o.0 k.whole k.front r none ran full (inl o.1) (overlap front (token ∷ rest) k.front k.back j)
        by_join (inr j) =
            let o = opened k.others k.back k.second in
            full_behind machine front token rest (rules.Comma ∷ k.back) o.0 k.whole k.front r none ran full (inr (ap (λ (t : List Symbol). rules.Comma ∷ t) o.1)) (overlap front (token ∷ rest) k.front (rules.Comma ∷ k.back) j)

pub no_next : (machine : Machine) (token : Token) (fault : ValueFault) → CriteriaStop machine token fault → ¬ (fault ≡ faults.NoMemory) → next machine (rule_of token) ≡ None
no_next machine token faults.Count stop real = stop.0
no_next machine token faults.Value stop real = stop.0
no_next machine token faults.Word stop real = stop.0
no_next machine token faults.NoMemory stop real = absurd (real refl)

pub stopped : (machine : Machine) (text : List Token) (token : Token) (fault : ValueFault) → CriteriaReads machine text → CriteriaStop machine token fault → ¬ (fault ≡ faults.NoMemory)
    → ¬ (rule_of token ≡ rules.Open) → ¬ CanGoOn IsCriteria false (text ++ token ∷ [])
stopped machine text token fault r stop real mark (rest, list, (sequence, few)) =
    let whole : map rule_of ((text ++ token ∷ []) ++ rest) ≡ map rule_of text ++ rule_of token ∷ map rule_of rest =
    ap (map rule_of) (append_assoc text (token ∷ []) rest) ∙ map-append rule_of text (token ∷ rest) in
    let f = only_full machine (map rule_of text) (rule_of token) (map rule_of rest) list r (no_next machine token fault stop real) (subst (λ (t : List Symbol). IsSequence list t) whole sequence) in
    mark f.0
