-- What the answer of a call says.
use Rattle.std.proofs.Common.{◌≡◌, ◌≢◌, ℕ, suc, ◌==◌, true, false, List, [], ◌∷◌, ◌++◌, length, All, Option, Some, None, sym, ap, ◌∙◌, arith, refl}
use Rattle.std.specs.Prelude.{IfNone}
use Rattle.std.proofs.lemmas.Bool.Decides.{nat_tests}
use Rattle.vol_label.specs.declared.fault.LabelFault.{LabelFault}
use Rattle.vol_label.specs.declared.fault.LabelFault.TheVariants.{BadLabel}
use Rattle.vol_label.specs.Serial.{IsSerialFault, IsSerialName}
use Rattle.run_words.specs.Words.{IsParted}
use Rattle.run_words.proofs.Signs.{has_sign, no_sign, sign_is, same_rest}

pub if_none : {X : Type 0} (r : Option X) (Q : Type 0) → Q → IfNone r Q
if_none None Q q = q
if_none (Some x) Q q = tt

pub not_false : false ≡ true → ⊥
not_false e = cc

pub is_empty : (xs : List ℕ) → true ≡ (length xs == 0) → xs ≡ []
is_empty [] e = refl
is_empty (x ∷ xs) e = absurd (no (length xs) e)
  where
    no : (n : ℕ) → true ≡ (suc n == 0) → ⊥
    no n e = grind (arith, nat_tests)

-- a value without the sign has no parts
pub not_parted : (value : List ℕ) → All (λ c. c ≢ 61) value → (name path : List ℕ) → ¬ IsParted value name path
not_parted value none name path h = not_false (sym (no_sign value none) ∙ ap has_sign h.parts ∙ sign_is name path h.first)

-- nor has one with nothing behind it
pub no_path : (value a x : List ℕ) → value ≡ a ++ 61 ∷ x → All (λ c. c ≢ 61) a → x ≡ [] → (name path : List ℕ) → ¬ IsParted value name path
no_path value a x is none empty name path h = h.some (same_rest name a path x h.first none (sym h.parts ∙ is) ∙ empty)

pub is_none : {X : Type 0} (xs : List X) → true ≡ (length xs == 0) → xs ≡ []
is_none [] e = refl
is_none (x ∷ xs) e = absurd (no (length xs) e)
  where
    no : (n : ℕ) → true ≡ (suc n == 0) → ⊥
    no n e = grind (arith, nat_tests)

pub not_serial : (text : List ℕ) (fault : LabelFault) → IsSerialFault text fault → ¬ IsSerialName text
not_serial text (BadLabel why) h = h.1
