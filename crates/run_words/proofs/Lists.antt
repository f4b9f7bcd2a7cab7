-- Lists of which each element belongs to one of another list, and lists whose elements differ.
use Rattle.std.proofs.Common.{◌≡◌, ℕ, suc, ◌+◌, ◌<◌, ◌≤◌, List, [], ◌∷◌, ◌++◌, length, get_or, take, All, sym, ap, subst, ◌∙◌, arith, refl, zero, add-one}
use Rattle.std.specs.List.{AllZip, AllPairs}
use Rattle.std.proofs.Math.Seq.{take-suc, take-length}
use Rattle.std.proofs.lemmas.List.Quantifiers.{all_pairs_push}
use Rattle.std.proofs.lemmas.Grind.{common_steps}

pub zip_push : {A B : Type 0} (R : A → B → Type 0) (xs : List A) (ys : List B) (x : A) (y : B) → AllZip R xs ys → R x y → AllZip R (xs ++ x ∷ []) (ys ++ y ∷ [])
zip_push R [] [] x y h r = (r, tt)
zip_push R [] (b ∷ ys) x y h r = absurd h
zip_push R (a ∷ xs) [] x y h r = absurd h
zip_push R (a ∷ xs) (b ∷ ys) x y h r = (h.0, zip_push R xs ys x y h.1 r)

pub zip_more : {A B : Type 0} (R : A → B → Type 0) (xs : List A) (ys : List B) (i : ℕ) (x : A) (y : B) → i < length xs → x ≡ get_or xs i x
    → AllZip R (take i xs) ys → R x y → AllZip R (take (i + 1) xs) (ys ++ y ∷ [])
zip_more {A} R xs ys i x y lt is h r =
    let same : take (i + 1) xs ≡ take i xs ++ x ∷ [] = ap (λ (n : ℕ). take n xs) (add-one i) ∙ take-suc xs i x lt ∙ ap (λ (t : A). take i xs ++ t ∷ []) (sym is) in
    subst (λ (t : List A). AllZip R t (ys ++ y ∷ [])) (sym same) (zip_push R (take i xs) ys x y h r)

-- an element that has none belongs to no list
pub no_zip : {A B : Type 0} (R : A → B → Type 0) (xs : List A) (i : ℕ) (x : A) → i < length xs → x ≡ get_or xs i x → ((y : B) → ¬ R x y) → (ys : List B) → ¬ AllZip R xs ys
no_zip R [] i x lt is none ys h = omega (arith, lt)
no_zip R (a ∷ xs) i x lt is none [] h = h
no_zip {A} R (a ∷ xs) zero x lt is none (b ∷ ys) h = none b (subst (λ (t : A). R t b) (sym is) h.0)
no_zip R (a ∷ xs) (suc i) x lt is none (b ∷ ys) h = no_zip R xs i x (omega (arith, lt)) is none ys h.1

-- where each element has one, a list has one
pub one_zip : {A B : Type 0} (R : A → B → Type 0) → ((x : A) (y z : B) → R x y → R x z → y ≡ z) → (xs : List A) (ys zs : List B) → AllZip R xs ys → AllZip R xs zs → ys ≡ zs
one_zip R one [] [] [] p q = refl
one_zip R one [] [] (z ∷ zs) p q = absurd q
one_zip R one [] (y ∷ ys) zs p q = absurd p
one_zip R one (x ∷ xs) [] zs p q = absurd p
one_zip R one (x ∷ xs) (y ∷ ys) [] p q = absurd q
one_zip R one (x ∷ xs) (y ∷ ys) (z ∷ zs) p q =
    let first = one x y z p.0 q.0 in
    let rest = one_zip R one xs ys zs p.1 q.1 in
    (λ i. first i ∷ rest i)

-- ---- elements that differ

pub apart_more : {X : Type 0} (R : X → X → Type 0) (xs : List X) (i : ℕ) (x : X) → i < length xs → x ≡ get_or xs i x
    → AllPairs R (take i xs) → All (λ y. R y x) (take i xs) → AllPairs R (take (i + 1) xs)
apart_more {X} R xs i x lt is pairs all =
    let same : take (i + 1) xs ≡ take i xs ++ x ∷ [] = ap (λ (n : ℕ). take n xs) (add-one i) ∙ take-suc xs i x lt ∙ ap (λ (t : X). take i xs ++ t ∷ []) (sym is) in
    subst (λ (t : List X). AllPairs R t) (sym same) (all_pairs_push R (take i xs) x pairs all)

pub apart_before : {X : Type 0} (R : X → X → Type 0) (xs : List X) (i : ℕ) (x : X) → i < length xs → x ≡ get_or xs i x → AllPairs R xs → All (λ y. R y x) (take i xs)
apart_before {X} R xs i x lt is pairs = λ k d below.
    let within : k < i = grind (arith, common_steps) in
    let same : get_or (take i xs) k d ≡ get_or xs k d = grind (arith, common_steps) in
    let here : get_or xs i d ≡ x = grind (arith, common_steps) in
    subst (λ (t : X). R t x) (sym same) (subst (λ (t : X). R (get_or xs k d) t) here (pairs k i d within lt))

pub all_taken : {X : Type 0} (xs : List X) (n : ℕ) → n ≤ length xs → length xs ≤ n → take n xs ≡ xs
all_taken xs n within whole =
    let e : n ≡ length xs = omega (arith, within, whole) in
    ap (λ (k : ℕ). take k xs) e ∙ take-length xs
