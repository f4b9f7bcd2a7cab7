-- The first of a list that passes a test.
use Rattle.std.proofs.Common.{◌≡◌, inl, inr, suc, List, [], ◌∷◌, find, Bool, true, false, cond, Contains, Some, None, refl, sym, ap, ◌∙◌, arith}
use Rattle.std.proofs.lemmas.Bool.{both_ways}
use Rattle.vtoc_layout.proofs.Distinct.{first_or_later}

pub found_passes : {X : Type 0} (test : X → Bool) (xs : List X) (x : X) → find test xs ≡ Some x → Contains xs x × (test x ≡ true)
found_passes test [] x e = absurd cc
found_passes {X} test (y ∷ xs) x e = by (test y) refl e (found_passes test xs x)
  where
    by : (b : Bool) → test y ≡ b → cond b (Some y) (find test xs) ≡ Some x → (find test xs ≡ Some x → Contains xs x × (test x ≡ true)) → Contains (y ∷ xs) x × (test x ≡ true)
    by true passes e later =
        let same : y ≡ x = cc in
        ((0, omega arith, same), ap test (sym same) ∙ passes)
    by false fails e later =
        let rest = later e in
        ((suc rest.0.0, omega (arith, rest.0.1), rest.0.2), rest.1)

pub none_passes : {X : Type 0} (test : X → Bool) (xs : List X) (x : X) → find test xs ≡ None → Contains xs x → test x ≡ true → ⊥
none_passes test [] x e c passes = omega (arith, c.1)
none_passes {X} test (y ∷ xs) x e c passes = by (test y) refl e (λ rest later. none_passes test xs x rest later passes)
  where
    by : (b : Bool) → test y ≡ b → cond b (Some y) (find test xs) ≡ None → (find test xs ≡ None → Contains xs x → ⊥) → ⊥
    by true some e later = cc
    by false fails e later = elim (first_or_later y x xs c) [
      | inl same ↦ both_ways (test x) (ap test (sym same) ∙ fails) passes
      | inr there ↦ later e there
    ]
