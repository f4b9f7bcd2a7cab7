-- The qualifiers of a text.
use Rattle.std.proofs.Common.{◌≡◌, ℕ, ◌+◌, ◌*◌, ◌<◌, ◌≤◌, ◌==◌, Bool, cond, List, [], ◌∷◌, ◌++◌, length, take, drop, get_or, refl, sym, ap, ◌∙◌, arith, length-append}
use Rattle.std.specs.List.{AllByRecursion}
use Rattle.std.proofs.lemmas.Bool.{ne_eqb, cond_both, eqb-true}
use Rattle.std.proofs.lemmas.List.{take-append-drop, drop_more}
use Rattle.dsn_filter.specs.Text.{dotted, onto_first, qualifiers}
use Rattle.dsn_filter.proofs.Joins.{Dotless}

pub qualifiers_dot : (p rest : List ℕ) → Dotless p → qualifiers (p ++ (46 ∷ rest)) ≡ p ∷ qualifiers rest
qualifiers_dot [] rest h = refl
qualifiers_dot (b ∷ p) rest h =
    ap (λ (t : Bool). cond t ([] ∷ qualifiers (p ++ (46 ∷ rest))) (onto_first b (qualifiers (p ++ (46 ∷ rest))))) (ne_eqb b 46 h.0)
    ∙ ap (λ (t : List (List ℕ)). onto_first b t) (qualifiers_dot p rest h.1)

pub qualifiers_last : (p : List ℕ) → Dotless p → qualifiers p ≡ p ∷ []
qualifiers_last [] h = refl
qualifiers_last (b ∷ p) h =
    ap (λ (t : Bool). cond t ([] ∷ qualifiers p) (onto_first b (qualifiers p))) (ne_eqb b 46 h.0) ∙ ap (λ (t : List (List ℕ)). onto_first b t) (qualifiers_last p h.1)

-- a dot behind the bytes that are looked through
pub qualifiers_at_dot : (text : List ℕ) (place : ℕ) → place < length text → Dotless (take place text) → get_or text place 0 ≡ 46
    → qualifiers text ≡ take place text ∷ qualifiers (drop (place + 1) text)
qualifiers_at_dot text place lt h dot =
    let parted : text ≡ take place text ++ (46 ∷ drop (place + 1) text) =
    sym (take-append-drop place text) ∙ ap (λ (t : List ℕ). take place text ++ t) (drop_more text place 0 lt)
    ∙ ap (λ (b : ℕ). take place text ++ (b ∷ drop (place + 1) text)) dot in
    ap qualifiers parted ∙ qualifiers_dot (take place text) (drop (place + 1) text) h

-- what is joined by dots comes apart again
pub qualifiers_joined : (spelled : List (List ℕ)) → AllByRecursion Dotless spelled → 0 < length spelled → qualifiers (dotted spelled) ≡ spelled
qualifiers_joined [] h some = absurd (omega arith)
qualifiers_joined (x ∷ []) h some = qualifiers_last x h.0
qualifiers_joined (x ∷ y ∷ ys) h some = qualifiers_dot x (dotted (y ∷ ys)) h.0 ∙ ap (λ (t : List (List ℕ)). x ∷ t) (qualifiers_joined (y ∷ ys) h.1 (omega arith))

-- each qualifier takes a character and a dot at least
pub few_joined : (spelled : List (List ℕ)) → AllByRecursion (λ (q : List ℕ). 0 < length q) spelled → 2 * length spelled ≤ length (dotted spelled) + 1
few_joined [] h = omega arith
few_joined (x ∷ []) h = omega (arith, h.0)
few_joined (x ∷ y ∷ ys) h = omega (arith, h.0, few_joined (y ∷ ys) h.1, length-append x (46 ∷ dotted (y ∷ ys)))

joined_cons : (x : List ℕ) (qs : List (List ℕ)) → 0 < length qs → dotted (x ∷ qs) ≡ x ++ (46 ∷ dotted qs)
joined_cons x [] some = absurd (omega arith)
joined_cons x (y ∷ ys) some = refl

joined_onto : (b : ℕ) (qs : List (List ℕ)) → 0 < length qs → dotted (onto_first b qs) ≡ b ∷ dotted qs
joined_onto b [] some = absurd (omega arith)
joined_onto b (q ∷ []) some = refl
joined_onto b (q ∷ r ∷ rs) some = refl

onto_some : (b : ℕ) (qs : List (List ℕ)) → 0 < length (onto_first b qs)
onto_some b [] = omega arith
onto_some b (q ∷ qs) = omega arith

pub qualifiers_some : (text : List ℕ) → 0 < length (qualifiers text)
qualifiers_some [] = omega arith
qualifiers_some (b ∷ rest) = cond_both (b == 46) ([] ∷ qualifiers rest) (onto_first b (qualifiers rest)) (λ qs. 0 < length qs) (λ _. omega arith) (λ _. onto_some b (qualifiers rest))

-- what is apart joins again
pub joined_qualifiers : (text : List ℕ) → dotted (qualifiers text) ≡ text
joined_qualifiers [] = refl
joined_qualifiers (b ∷ rest) =
    let again : dotted (qualifiers rest) ≡ rest = joined_qualifiers rest in
    cond_both (b == 46) ([] ∷ qualifiers rest) (onto_first b (qualifiers rest)) (λ qs. dotted qs ≡ b ∷ rest)
    (λ dot. joined_cons [] (qualifiers rest) (qualifiers_some rest) ∙ ap (λ (t : List ℕ). 46 ∷ t) again ∙ ap (λ (c : ℕ). c ∷ rest) (sym (eqb-true b 46 dot)))
    (λ _. joined_onto b (qualifiers rest) (qualifiers_some rest) ∙ ap (λ (t : List ℕ). b ∷ t) again)
