-- A list is split at one of its elements in one way, where its place is known or it is the only one that counts.
use Rattle.std.proofs.Common.{◌≡◌, ℕ, ◌≤◌, List, [], ◌∷◌, ◌++◌, length, refl, ap, arith}
use Rattle.std.specs.List.{sum_by}
use Rattle.std.proofs.lemmas.List.Sums.{sum_by-cons, sum_by-append}

module _ {X : Type 0} where
  first_same : (x y : X) (xs ys : List X) → x ∷ xs ≡ y ∷ ys → x ≡ y
  first_same x y xs ys same = cc

  rest_same : (x y : X) (xs ys : List X) → x ∷ xs ≡ y ∷ ys → xs ≡ ys
  rest_same x y xs ys same = cc

  -- at an element whose place is known
  pub split_there : (front back : List X) (x : X) (ahead behind : List X) (y : X) → length front ≡ length ahead → front ++ (x ∷ back) ≡ ahead ++ (y ∷ behind)
      → (front ≡ ahead) × (x ≡ y) × (back ≡ behind)
  split_there [] back x [] behind y long same = (refl, first_same x y back behind same, rest_same x y back behind same)
  split_there [] back x (w ∷ ahead) behind y long same = absurd (omega (arith, long))
  split_there (z ∷ front) back x [] behind y long same = absurd (omega (arith, long))
  split_there (z ∷ front) back x (w ∷ ahead) behind y long same =
      let first : z ≡ w = first_same z w (front ++ (x ∷ back)) (ahead ++ (y ∷ behind)) same in
      let rest = split_there front back x ahead behind y (omega (arith, long)) (rest_same z w (front ++ (x ∷ back)) (ahead ++ (y ∷ behind)) same) in
      (λ i. first i ∷ rest.0 i, rest.1, rest.2)

  module _ (count : X → ℕ) where
    pub counts_there : (front back : List X) (x : X) → count x ≤ sum_by count (front ++ (x ∷ back))
    counts_there front back x = omega (arith, sum_by-append count front (x ∷ back), sum_by-cons count x back)

    -- at the only element that counts
    pub split_once : (front back : List X) (x : X) (ahead behind : List X) (y : X) → front ++ (x ∷ back) ≡ ahead ++ (y ∷ behind) → sum_by count (front ++ (x ∷ back)) ≤ 1
        → 1 ≤ count x → 1 ≤ count y → (front ≡ ahead) × (x ≡ y) × (back ≡ behind)
    split_once [] back x [] behind y same once here other = (refl, first_same x y back behind same, rest_same x y back behind same)
    split_once [] back x (w ∷ ahead) behind y same once here other =
        let rest : sum_by count back ≡ sum_by count (ahead ++ (y ∷ behind)) = ap (sum_by count) (rest_same x w back (ahead ++ (y ∷ behind)) same) in
        absurd (omega (arith, sum_by-cons count x back, rest, counts_there ahead behind y, once, here, other))
    split_once (z ∷ front) back x [] behind y same once here other =
        let first : count z ≡ count y = ap count (first_same z y (front ++ (x ∷ back)) behind same) in
        absurd (omega (arith, sum_by-cons count z (front ++ (x ∷ back)), first, counts_there front back x, once, here, other))
    split_once (z ∷ front) back x (w ∷ ahead) behind y same once here other =
        let first : z ≡ w = first_same z w (front ++ (x ∷ back)) (ahead ++ (y ∷ behind)) same in
        let rest =
        split_once front back x ahead behind y (rest_same z w (front ++ (x ∷ back)) (ahead ++ (y ∷ behind)) same)
        (omega (arith, sum_by-cons count z (front ++ (x ∷ back)), once)) here other in
        (λ i. first i ∷ rest.0 i, rest.1, rest.2)
