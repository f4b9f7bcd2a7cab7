-- Lists, split at an element, and what holds of their elements and pairs with it and without it.
use Rattle.std.proofs.Common.{◌≡◌, suc, List, [], ◌∷◌, ◌++◌, length, All, AllPairs, refl, arith}
use Rattle.std.proofs.lemmas.List.Elements.{All-cons, All-head, All-tail}
use Rattle.std.proofs.lemmas.List.Kept.{AllPairs-cons}

-- ---- at a place

module _ {X : Type 0} where
  same_head : (x y : X) (xs ys : List X) → x ∷ xs ≡ y ∷ ys → x ≡ y
  same_head x y xs ys same = cc

  same_tail : (x y : X) (xs ys : List X) → x ∷ xs ≡ y ∷ ys → xs ≡ ys
  same_tail x y xs ys same = cc

  -- where the fronts are as long, the parts are the same
  pub parts_same : (front back : List X) (x : X) (ahead behind : List X) (y : X) → length front ≡ length ahead → front ++ (x ∷ back) ≡ ahead ++ (y ∷ behind)
      → (front ≡ ahead) × (x ≡ y) × (back ≡ behind)
  parts_same [] back x [] behind y long same = (refl, same_head x y back behind same, same_tail x y back behind same)
  parts_same [] back x (z ∷ ahead) behind y long same = absurd (omega (arith, long))
  parts_same (z ∷ front) back x [] behind y long same = absurd (omega (arith, long))
  parts_same (z ∷ front) back x (w ∷ ahead) behind y long same =
      let first : z ≡ w = same_head z w (front ++ (x ∷ back)) (ahead ++ (y ∷ behind)) same in
      let rest = parts_same front back x ahead behind y (omega (arith, long)) (same_tail z w (front ++ (x ∷ back)) (ahead ++ (y ∷ behind)) same) in
      (λ i. first i ∷ rest.0 i, rest.1, rest.2)

-- ---- elements

module _ {X : Type 0} (P : X → Type 0) where
  all_without : (front back : List X) (x : X) → All P (front ++ (x ∷ back)) → All P (front ++ back)
  all_without [] back x all = All-tail P x back all
  all_without (y ∷ front) back x all =
      All-cons P y (front ++ back) (All-head P y (front ++ (x ∷ back)) all) (all_without front back x (All-tail P y (front ++ (x ∷ back)) all))

  all_with : (front back : List X) (x : X) → P x → All P (front ++ back) → All P (front ++ (x ∷ back))
  all_with [] back x here all = All-cons P x back here all
  all_with (y ∷ front) back x here all =
      All-cons P y (front ++ (x ∷ back)) (All-head P y (front ++ back) all) (all_with front back x here (All-tail P y (front ++ back) all))

-- ---- pairs

module _ {X : Type 0} (R : X → X → Type 0) where
  first_pairs : (x : X) (xs : List X) → AllPairs R (x ∷ xs) → All (R x) xs
  first_pairs x xs pairs k d within = pairs 0 (suc k) d (omega arith) (omega (arith, within))

  rest_pairs : (x : X) (xs : List X) → AllPairs R (x ∷ xs) → AllPairs R xs
  rest_pairs x xs pairs i j d less within = pairs (suc i) (suc j) d (omega (arith, less)) (omega (arith, within))

  pub pairs_without : (front back : List X) (x : X) → AllPairs R (front ++ (x ∷ back)) → AllPairs R (front ++ back)
  pairs_without [] back x pairs = rest_pairs x back pairs
  pairs_without (y ∷ front) back x pairs =
      AllPairs-cons R y (front ++ back) (all_without (R y) front back x (first_pairs y (front ++ (x ∷ back)) pairs)) (pairs_without front back x (rest_pairs y (front ++ (x ∷ back)) pairs))

  pub pairs_with : ((x y : X) → R x y → R y x) → (front back : List X) (x : X) → All (R x) (front ++ back) → AllPairs R (front ++ back) → AllPairs R (front ++ (x ∷ back))
  pairs_with turned [] back x all pairs = AllPairs-cons R x back all pairs
  pairs_with turned (y ∷ front) back x all pairs =
      AllPairs-cons R y (front ++ (x ∷ back))
      (all_with (R y) front back x (turned x y (All-head (R x) y (front ++ back) all)) (first_pairs y (front ++ back) pairs))
      (pairs_with turned front back x (All-tail (R x) y (front ++ back) all) (rest_pairs y (front ++ back) pairs))
