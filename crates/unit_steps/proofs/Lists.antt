-- Lists by their places, and lists of which no element stands twice.
use Rattle.std.proofs.Common.{◌≡◌, ◌≢◌, inl, inr, ℕ, List, Some, sym, ap, subst, ◌∙◌}
use Rattle.std.specs.Prelude.{slice_get, slice_set}
use Rattle.std.proofs.lemmas.Bool.{cases_eq}
use Rattle.std.proofs.lemmas.Option.{same_Some}
use Rattle.dasd_pool.proofs.Slices.{get_set, get_set_other}

-- what holds of each element, once another stands at one place
pub each_set : {X : Type 0} (xs : List X) (i : ℕ) (x y : X) (P : ℕ → X → Type 0) → slice_get xs i ≡ Some y → P i x → ((u : ℕ) (z : X) → u ≢ i → slice_get xs u ≡ Some z → P u z)
    → (u : ℕ) (z : X) → slice_get (slice_set xs i x) u ≡ Some z → P u z
each_set xs i x y P at here others u z there = elim (cases_eq u i) [
  | inl same ↦
      let got : slice_get (slice_set xs i x) u ≡ Some x = ap (slice_get (slice_set xs i x)) same ∙ get_set xs i x y at in
      subst (P u) (same_Some x z (sym got ∙ there)) (subst (λ (n : ℕ). P n x) (sym same) here)
  | inr apart ↦ others u z apart (sym (get_set_other xs i u x apart) ∙ there)
]

-- and of the elements of two lists at one place
pub both_set : {X Y : Type 0} (xs : List X) (ys : List Y) (i : ℕ) (x x' : X) (y y' : Y) (P : ℕ → X → Y → Type 0) → slice_get xs i ≡ Some x' → slice_get ys i ≡ Some y' → P i x y
    → ((u : ℕ) (z : X) (w : Y) → u ≢ i → slice_get xs u ≡ Some z → slice_get ys u ≡ Some w → P u z w)
    → (u : ℕ) (z : X) (w : Y) → slice_get (slice_set xs i x) u ≡ Some z → slice_get (slice_set ys i y) u ≡ Some w → P u z w
both_set {X} {Y} xs ys i x x' y y' P at at' here others u z w there there' =
    each_set xs i x x' (λ u z. (w : Y) → slice_get (slice_set ys i y) u ≡ Some w → P u z w) at
    (λ w got. subst (P i x) (same_Some y w (sym (get_set ys i y y' at') ∙ got)) here)
    (λ u z apart got w got'. others u z w apart got (sym (get_set_other ys i u y apart) ∙ got')) u z there w there'
