-- Lists of anything, by the places of their elements.
use Rattle.std.proofs.Common.{◌≡◌, ◌≢◌, ℕ, zero, suc, List, [], ◌∷◌, ◌++◌, length, Some, slice_get, slice_set, refl, ap}
use Rattle.std.proofs.lemmas.Option.{none-some}

module _ {X : Type 0} where
  -- where one element is put in another's place
  pub get_set : (xs : List X) (i : ℕ) (x y : X) → slice_get xs i ≡ Some y → slice_get (slice_set xs i x) i ≡ Some x
  get_set [] i x y at = absurd (none-some y at)
  get_set (z ∷ xs) zero x y at = refl
  get_set (z ∷ xs) (suc i) x y at = get_set xs i x y at

  pub get_set_other : (xs : List X) (i j : ℕ) (x : X) → j ≢ i → slice_get (slice_set xs i x) j ≡ slice_get xs j
  get_set_other [] i j x apart = refl
  get_set_other (z ∷ xs) zero zero x apart = absurd (apart refl)
  get_set_other (z ∷ xs) zero (suc j) x apart = refl
  get_set_other (z ∷ xs) (suc i) zero x apart = refl
  get_set_other (z ∷ xs) (suc i) (suc j) x apart = get_set_other xs i j x (λ same. apart (ap (λ (n : ℕ). suc n) same))

  -- behind a front
  pub get_there : (front back : List X) (x : X) → slice_get (front ++ (x ∷ back)) (length front) ≡ Some x
  get_there [] back x = refl
  get_there (y ∷ front) back x = get_there front back x

  pub get_other : (front back : List X) (old new : X) (u : ℕ) → ¬ (u ≡ length front) → slice_get (front ++ (old ∷ back)) u ≡ slice_get (front ++ (new ∷ back)) u
  get_other [] back old new zero apart = absurd (apart refl)
  get_other [] back old new (suc u) apart = refl
  get_other (y ∷ front) back old new zero apart = refl
  get_other (y ∷ front) back old new (suc u) apart = get_other front back old new u (λ same. apart (ap (λ (n : ℕ). suc n) same))
