-- Tests of which the second is asked only where the first leaves it open.
use Rattle.std.proofs.Common.{◌≡◌, ◌⊎◌, inl, inr, ◌↔◌, Bool, IsTrue, true, false, sym, ◌∙◌}
use Rattle.std.proofs.lemmas.Bool.{false≢true}

module _ {x : Bool} {P : Type 0} (Q : Type 0) (first : IsTrue x ↔ P) where
  pub either_first : x ≡ true → IsTrue x ↔ (P ⊎ Q)
  either_first passed = (λ t. inl (first.0 passed), λ h. passed)

  pub either_second : x ≡ false → (y : Bool) → (IsTrue y ↔ Q) → IsTrue y ↔ (P ⊎ Q)
  either_second failed y second =
      (λ t. inr (second.0 t), λ h. elim h [ inl p ↦ absurd (false≢true (sym failed ∙ first.1 p)) | inr q ↦ second.1 q ])
