-- Reading a text token by token.
use Rattle.std.proofs.Common.{◌≡◌, inl, inr, ℕ, ◌-◌, List, [], ◌∷◌, ◌++◌, length, refl, sym, ap, ◌∙◌, arith, Some, append_assoc, append-nil, length-append}
use Rattle.ckd_image.proofs.Texts.{texts_push}
use Rattle.by_rules.specs.declared.criterion.Criterion.{Criterion}
use Rattle.by_rules.specs.declared.state.State.TheVariants as states
use Rattle.by_rules.specs.declared.fault.ByFault.{ByFault}
use Rattle.by_rules.specs.declared.fault.ByFault.TheVariants.{BadCriterion, NoMemory}
use Rattle.by_rules.specs.Token.{Symbol, bytes_of, text_of, tokens_of}
use Rattle.by_rules.specs.Grammar.{Spell}
use Rattle.by_rules.specs.Reading.{Machine, next, run, start, Stops, HasEnded}
use Rattle.by_rules.specs.Refusal.{IsRefusal}
use Rattle.by_rules.proofs.Complete.{at, run_then, complete}
use Rattle.by_rules.proofs.Refusing.{right, wrong, spelled}

-- tokens were read, and the rest was not
pub record IsRead (text rest : List ℕ) (machine : Machine) : Type 0 where
  pub front : List Symbol
  pub tokens : tokens_of text ≡ front ++ tokens_of rest
  pub bytes : text ≡ text_of front ++ rest
  pub ran : run start front ≡ Some machine

pub nothing_read : (text : List ℕ) → IsRead text text start
nothing_read text = record { front = []; tokens = refl; bytes = refl; ran = refl }

-- one more token
pub more_read : (text rest more : List ℕ) (machine after : Machine) (symbol : Symbol) → IsRead text rest machine → tokens_of rest ≡ symbol ∷ tokens_of more → rest ≡ bytes_of symbol ++ more
    → next machine symbol ≡ Some after → IsRead text more after
more_read text rest more machine after symbol r t b n = record {
  front = r.front ++ symbol ∷ [];
  tokens = r.tokens ∙ ap (λ (s : List Symbol). r.front ++ s) t ∙ sym (append_assoc r.front (symbol ∷ []) (tokens_of more));
  bytes = texts_push bytes_of r.front symbol text rest more r.bytes b;
  ran = run_then start machine r.front (symbol ∷ []) r.ran ∙ rw n refl;
}

-- the place of what is next
pub place_of : (text rest : List ℕ) (machine : Machine) (r : IsRead text rest machine) → length text - length rest ≡ length (text_of r.front)
place_of text rest machine r = omega (arith, ap length r.bytes, length-append (text_of r.front) rest)

pub is_refused : (text rest more : List ℕ) (machine : Machine) (symbol : Symbol) (offset : ℕ) (e : ByFault) → IsRead text rest machine → tokens_of rest ≡ symbol ∷ tokens_of more
    → offset ≡ length text - length rest → Stops machine symbol offset e → IsRefusal text e
is_refused text rest more machine symbol offset NoMemory r t o s = tt
is_refused text rest more machine symbol offset (BadCriterion place) r t o s =
    inl (record {
      front = r.front;
      token = symbol;
      behind = tokens_of more;
      tokens = r.tokens ∙ ap (λ (s : List Symbol). r.front ++ s) t;
      place_is = s.0 ∙ o ∙ place_of text rest machine r;
      right = right r.front machine r.ran;
      wrong = wrong machine r.front symbol r.ran s.1;
    })

-- the whole text was read
pub all_read : (text rest : List ℕ) (machine : Machine) → IsRead text rest machine → rest ≡ [] → run start (tokens_of text) ≡ Some machine
all_read text rest machine r e =
    let same : tokens_of text ≡ r.front = r.tokens ∙ ap (λ (b : List ℕ). r.front ++ tokens_of b) e ∙ append-nil r.front in
    ap (run start) same ∙ r.ran

pub is_spelled : (text rest : List ℕ) (machine : Machine) → IsRead text rest machine → rest ≡ [] → HasEnded machine → Spell (tokens_of text) machine.criteria
is_spelled text rest machine r e ended =
    let ran = all_read text rest machine r e in
    let same : machine ≡ at machine.state machine.criteria machine.values = refl in
    spelled (tokens_of text) machine.criteria machine.values (ran ∙ ap (λ (s : _). Some (at s machine.criteria machine.values)) ended)

pub ends_early : (text rest : List ℕ) (machine : Machine) → IsRead text rest machine → rest ≡ [] → ¬ HasEnded machine → IsRefusal text (BadCriterion (length text))
ends_early text rest machine r e not_ended =
    let ran = all_read text rest machine r e in
    inr (record {
      place_is = refl;
      right = right (tokens_of text) machine ran;
      early = λ criteria s. let done = complete (tokens_of text) criteria s in not_ended (let same : machine ≡ at _ criteria [] = cc in ap (λ (m : Machine). m.state) same);
    })

-- ---- tokens handed in one by one

pub read_is_spelled : (tokens : List Symbol) (machine : Machine) → run start tokens ≡ Some machine → HasEnded machine → Spell tokens machine.criteria
read_is_spelled tokens machine ran ended =
    let same : machine ≡ at machine.state machine.criteria machine.values = refl in
    spelled tokens machine.criteria machine.values (ran ∙ ap (λ (s : _). Some (at s machine.criteria machine.values)) ended)

pub spelled_is_read : (tokens : List Symbol) (criteria : List Criterion) → Spell tokens criteria → (machine : Machine) × (run start tokens ≡ Some machine) × HasEnded machine × (machine.criteria ≡ criteria)
spelled_is_read tokens criteria s = (at states.Ended criteria [], complete tokens criteria s, refl, refl)
