-- Laws of lists of anything.
use Rattle.std.proofs.Common.{◌≡◌, ℕ, zero, suc, ◌<◌, List, [], ◌∷◌, ◌++◌, length, map, get_or, Contains, refl, ap, arith}

pub contains_map : {X Y : Type 0} (f : X → Y) (xs : List X) (x : X) → Contains xs x → Contains (map f xs) (f x)
contains_map f [] x h = absurd (omega (arith, h.1))
contains_map {X} {Y} f (y ∷ xs) x h = by (λ there. contains_map f xs x there) h.0 h.1 h.2
  where
    by : (Contains xs x → Contains (map f xs) (f x)) → (k : ℕ) → k < length (y ∷ xs) → get_or (y ∷ xs) k x ≡ x → Contains (f y ∷ map f xs) (f x)
    by behind zero lt is = (0, omega arith, ap f is)
    by behind (suc k) lt is = let later = behind (k, omega (arith, lt), is) in (suc later.0, omega (arith, later.1), later.2)

-- ---- where there is nothing

pub left_nil : {X : Type 0} (xs ys : List X) → xs ++ ys ≡ [] → xs ≡ []
left_nil [] ys e = refl
left_nil (x ∷ xs) ys e = absurd (let q : x ∷ (xs ++ ys) ≡ [] = e in let r : ⊥ = cc in r)

pub right_nil : {X : Type 0} (xs ys : List X) → xs ++ ys ≡ [] → ys ≡ []
right_nil [] ys e = e
right_nil (x ∷ xs) ys e = absurd (let q : x ∷ (xs ++ ys) ≡ [] = e in let r : ⊥ = cc in r)

pub map_nil : {X Y : Type 0} (f : X → Y) (xs : List X) → map f xs ≡ [] → xs ≡ []
map_nil f [] e = refl
map_nil f (x ∷ xs) e = absurd (let q : f x ∷ map f xs ≡ [] = e in let r : ⊥ = cc in r)
