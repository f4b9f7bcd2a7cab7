-- One list of criteria, and one place.
use Rattle.std.proofs.Common.{◌≡◌, inl, inr, ℕ, List, [], ◌∷◌, ◌++◌, length, refl, sym, ap, ◌∙◌, Option, Some, None, append_assoc}
use Rattle.std.specs.Option.{option_and_then}
use Rattle.by_rules.specs.declared.criterion.Criterion.{Criterion}
use Rattle.by_rules.specs.declared.state.State.TheVariants as states
use Rattle.by_rules.specs.declared.fault.ByFault.TheVariants.{BadCriterion}
use Rattle.by_rules.specs.Token.{Symbol, Comma, tokens_of, text_of}
use Rattle.by_rules.specs.Grammar.{Spell}
use Rattle.by_rules.specs.Reading.{Machine, next, run, start}
use Rattle.by_rules.specs.Refusal.{Begin, IsWrongAt, EndsEarly, IsRefusal}
use Rattle.by_rules.proofs.Complete.{at, run-append, run_then, complete}
use Rattle.by_rules.proofs.Refusing.{right}

pub one_reading : (tokens : List Symbol) (a b : List Criterion) → Spell tokens a → Spell tokens b → a ≡ b
one_reading tokens a b p q =
    let first = complete tokens a p in
    let second = complete tokens b q in
    let same : at states.Ended a [] ≡ at states.Ended b [] = cc in
    ap (λ (m : Machine). m.criteria) same

-- what is read in the front of what is read
front_read : (machine after : Machine) (front rest : List Symbol) (found : Option Machine) → run machine front ≡ found → run machine (front ++ rest) ≡ Some after → (m : Machine) × (found ≡ Some m)
front_read machine after front rest (Some m) e f = (m, refl)
front_read machine after front rest None e f =
    let joined = run-append machine front rest ∙ ap (option_and_then (λ (m : Machine). run m rest)) e in
    cc

-- right tokens are read
read_where_right : (tokens : List Symbol) → Begin tokens → (machine : Machine) × (run start tokens ≡ Some machine)
read_where_right tokens (inl g) = front_read start (at states.Ended g.criteria []) tokens g.rest (run start tokens) refl (complete (tokens ++ g.rest) g.criteria g.spelled)
read_where_right tokens (inr w) =
    (at states.Comma w.criteria [], ap (run start) w.comma ∙ run_then start (at states.Ended w.criteria []) w.front (Comma ∷ []) (complete w.front w.criteria w.spelled))

refused_by : (tokens : List Symbol) (found : Option Machine) → run start tokens ≡ found → ¬ Begin tokens → found ≡ None
refused_by tokens None e n = refl
refused_by tokens (Some machine) e n = absurd (n (right tokens machine e))

-- tokens that are wrong are not read
refused_where_wrong : (tokens : List Symbol) → ¬ Begin tokens → run start tokens ≡ None
refused_where_wrong tokens n = refused_by tokens (run start tokens) refl n

by_one : (found : Option Machine) (f g : List Symbol) (t u : Symbol) (a b : Machine)
    → ((m : Machine) → run m f ≡ Some a → run m (f ++ t ∷ []) ≡ None → run m g ≡ Some b → run m (g ++ u ∷ []) ≡ None → f ≡ g)
    → option_and_then (λ (m : Machine). run m f) found ≡ Some a → option_and_then (λ (m : Machine). run m (f ++ t ∷ [])) found ≡ None
    → option_and_then (λ (m : Machine). run m g) found ≡ Some b → option_and_then (λ (m : Machine). run m (g ++ u ∷ [])) found ≡ None → f ≡ g
by_one None f g t u a b h p q r v = cc
by_one (Some m) f g t u a b h p q r v = h m p q r v

no_more : (found : Option Machine) (g : List Symbol) (b : Machine) → option_and_then (λ (m : Machine). run m []) found ≡ None → option_and_then (λ (m : Machine). run m g) found ≡ Some b → ⊥
no_more None g b p q = cc
no_more (Some m) g b p q = cc

-- a token after which nothing is read ends what was read before it
same_front : (machine : Machine) (f g : List Symbol) (t u : Symbol) (x y : List Symbol) (a b : Machine) → f ++ t ∷ x ≡ g ++ u ∷ y
    → run machine f ≡ Some a → run machine (f ++ t ∷ []) ≡ None → run machine g ≡ Some b → run machine (g ++ u ∷ []) ≡ None → f ≡ g
same_front machine [] [] t u x y a b e p q r v = refl
same_front machine [] (s ∷ g) t u x y a b e p q r v =
    let same : t ≡ s = cc in
    absurd (no_more (next machine s) g b (ap (λ (z : Symbol). run machine (z ∷ [])) (sym same) ∙ q) r)
same_front machine (s ∷ f) [] t u x y a b e p q r v =
    let same : u ≡ s = cc in
    absurd (no_more (next machine s) f a (ap (λ (z : Symbol). run machine (z ∷ [])) (sym same) ∙ v) p)
same_front machine (s ∷ f) (z ∷ g) t u x y a b e p q r v =
    let same : z ≡ s = cc in
    let rest : f ++ t ∷ x ≡ g ++ u ∷ y = cc in
    let here : run machine (s ∷ g) ≡ Some b = ap (λ (k : Symbol). run machine (k ∷ g)) (sym same) ∙ r in
    let stop : run machine (s ∷ (g ++ u ∷ [])) ≡ None = ap (λ (k : Symbol). run machine (k ∷ (g ++ u ∷ []))) (sym same) ∙ v in
    let behind : f ≡ g = by_one (next machine s) f g t u a b (λ m k l n o. same_front m f g t u x y a b rest k l n o) p q here stop in
    ap (λ (k : Symbol). k ∷ f) (sym same) ∙ ap (λ (k : List Symbol). z ∷ k) behind

one_wrong : (text : List ℕ) (p q : ℕ) → IsWrongAt text p → IsWrongAt text q → p ≡ q
one_wrong text p q v w =
    let first = read_where_right v.front v.right in
    let second = read_where_right w.front w.right in
    let same = same_front start v.front w.front v.token w.token v.behind w.behind first.0 second.0 (sym v.tokens ∙ w.tokens)
    first.1 (refused_where_wrong (v.front ++ v.token ∷ []) v.wrong) second.1 (refused_where_wrong (w.front ++ w.token ∷ []) w.wrong) in
    v.place_is ∙ ap (λ (f : List Symbol). length (text_of f)) same ∙ sym w.place_is

not_both : (text : List ℕ) (p q : ℕ) → IsWrongAt text p → ¬ EndsEarly text q
not_both text p q w early =
    let all = read_where_right (tokens_of text) early.right in
    let whole : (w.front ++ w.token ∷ []) ++ w.behind ≡ tokens_of text = append_assoc w.front (w.token ∷ []) w.behind ∙ sym w.tokens in
    let read = front_read start all.0 (w.front ++ w.token ∷ []) w.behind (run start (w.front ++ w.token ∷ [])) refl (ap (run start) whole ∙ all.1) in
    let none = refused_where_wrong (w.front ++ w.token ∷ []) w.wrong in
    let some = read.1 in
    cc

pub one_place : (text : List ℕ) (p q : ℕ) → IsRefusal text (BadCriterion p) → IsRefusal text (BadCriterion q) → p ≡ q
one_place text p q (inl v) (inl w) = one_wrong text p q v w
one_place text p q (inl v) (inr w) = absurd (not_both text p q v w)
one_place text p q (inr v) (inl w) = absurd (not_both text q p w v)
one_place text p q (inr v) (inr w) = v.place_is ∙ sym w.place_is
