-- The parts of a word around its first equals sign.
use Rattle.std.proofs.Common.{◌≡◌, ◌≢◌, ℕ, suc, Bool, true, false, nat_eq, List, [], ◌∷◌, ◌++◌, All, Option, Some, None, sym, ap, ◌∙◌, arith, refl}
use Rattle.std.specs.Prelude.{IfSome, IfNone, if◌then◌else◌}
use denote.Ref.{Bor}
use Rattle.std.proofs.lemmas.Str.Pattern.{IsSplitOnceResult, split_parts}
use Rattle.std.proofs.lemmas.Bool.Decides.{nat_tests}
use Rattle.vol_label.proofs.Characters.{all_of}

pub found : (word : List ℕ) (r : Option (Bor (List ℕ) × Bor (List ℕ))) → IsSplitOnceResult 61 word r
    → IfSome r (λ x. (word ≡ x.0.now ++ 61 ∷ x.1.now) × All (λ c. c ≢ 61) x.0.now)
found word None h = tt
found word (Some x) h = let p = split_parts 61 word (Some x) h (omega arith) in (p.0, all_of (λ c. c ≢ 61) x.0.now p.1)

pub not_found : (word : List ℕ) (r : Option (Bor (List ℕ) × Bor (List ℕ))) → IsSplitOnceResult 61 word r → IfNone r (All (λ c. c ≢ 61) word)
not_found word None h = all_of (λ c. c ≢ 61) word (split_parts 61 word None h (omega arith))
not_found word (Some x) h = tt

abbrev pub has_sign : List ℕ → Bool
has_sign [] = false
has_sign (c ∷ w) = if nat_eq c 61 then true else has_sign w

abbrev before : List ℕ → List ℕ
before [] = []
before (c ∷ w) = if nat_eq c 61 then [] else c ∷ before w

abbrev behind : List ℕ → List ℕ
behind [] = []
behind (c ∷ w) = if nat_eq c 61 then w else behind w

other : (c : ℕ) → c ≢ 61 → nat_eq c 61 ≡ false
other c h = grind (arith, nat_tests)

rest_of : (c : ℕ) (w : List ℕ) → All (λ x. x ≢ 61) (c ∷ w) → All (λ x. x ≢ 61) w
rest_of c w h = λ k d lt. h (suc k) d (omega arith)

pub no_sign : (w : List ℕ) → All (λ c. c ≢ 61) w → has_sign w ≡ false
no_sign [] h = refl
no_sign (c ∷ w) h = rw (other c (h 0 0 (omega arith))) (no_sign w (rest_of c w h))

before_sign : (a x : List ℕ) → All (λ c. c ≢ 61) a → before (a ++ 61 ∷ x) ≡ a
before_sign [] x h = refl
before_sign (c ∷ a) x h = rw (other c (h 0 0 (omega arith))) (ap (λ t. c ∷ t) (before_sign a x (rest_of c a h)))

behind_sign : (a x : List ℕ) → All (λ c. c ≢ 61) a → behind (a ++ 61 ∷ x) ≡ x
behind_sign [] x h = refl
behind_sign (c ∷ a) x h = rw (other c (h 0 0 (omega arith))) (behind_sign a x (rest_of c a h))

pub sign_is : (a x : List ℕ) → All (λ c. c ≢ 61) a → has_sign (a ++ 61 ∷ x) ≡ true
sign_is [] x h = refl
sign_is (c ∷ a) x h = rw (other c (h 0 0 (omega arith))) (sign_is a x (rest_of c a h))

-- a word is parted in one way
pub same_name : (a b x y : List ℕ) → All (λ c. c ≢ 61) a → All (λ c. c ≢ 61) b → a ++ 61 ∷ x ≡ b ++ 61 ∷ y → a ≡ b
same_name a b x y p q e = sym (before_sign a x p) ∙ ap before e ∙ before_sign b y q

pub same_rest : (a b x y : List ℕ) → All (λ c. c ≢ 61) a → All (λ c. c ≢ 61) b → a ++ 61 ∷ x ≡ b ++ 61 ∷ y → x ≡ y
same_rest a b x y p q e = sym (behind_sign a x p) ∙ ap behind e ∙ behind_sign b y q
