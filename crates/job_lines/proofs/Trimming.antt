-- A name without its trailing blanks.
use Rattle.std.proofs.Common.{◌≡◌, ◌≢◌, ℕ, zero, suc, ◌-◌, subst, ◌<◌, ◌≤◌, List, [], ◌∷◌, length, get_or, take, Bool, true, false, cond, ◌==◌, ◌&&◌, refl, ap, ◌∙◌, arith, eq-eqb}
use Rattle.std.proofs.lemmas.Bool.Decides.{nat_tests}
use Rattle.job_lines.specs.Names.{is_blank, trimmed}

-- a blank more
blank_more : (text : List ℕ) (k : ℕ) → k < length text → get_or text k 0 ≡ 0x40 → is_blank (take (suc k) text) ≡ is_blank (take k text)
blank_more [] k less h = absurd (omega (arith, less))
blank_more (byte ∷ bytes) zero less h = (λ i. eq-eqb byte 0x40 h i && true)
blank_more (byte ∷ bytes) (suc k) less h = ap (λ (b : Bool). (byte == 0x40) && b) (blank_more bytes k (omega (arith, less)) h)

pub trimmed_more : (text : List ℕ) (k : ℕ) → k < length text → get_or text k 0 ≡ 0x40 → trimmed (take (suc k) text) ≡ trimmed (take k text)
trimmed_more [] k less h = absurd (omega (arith, less))
trimmed_more (byte ∷ bytes) zero less h = ap (λ (b : Bool). cond b [] (byte ∷ [])) (λ i. eq-eqb byte 0x40 h i && true)
trimmed_more (byte ∷ bytes) (suc k) less h =
    let blank = blank_more bytes k (omega (arith, less)) h in
    let rest = trimmed_more bytes k (omega (arith, less)) h in
    (λ i. cond ((byte == 0x40) && blank i) [] (byte ∷ rest i))

-- a last byte that is no blank
not_blank : (text : List ℕ) (k : ℕ) → k < length text → (get_or text k 0 == 0x40) ≡ false → is_blank (take (suc k) text) ≡ false
not_blank [] k less h = absurd (omega (arith, less))
not_blank (byte ∷ bytes) zero less h = (λ i. h i && true)
not_blank (byte ∷ bytes) (suc k) less h = ap (λ (b : Bool). (byte == 0x40) && b) (not_blank bytes k (omega (arith, less)) h) ∙ none (byte == 0x40)
  where
    none : (b : Bool) → (b && false) ≡ false
    none true = refl
    none false = refl

pub trimmed_whole : (text : List ℕ) (k : ℕ) → k < length text → (get_or text k 0 == 0x40) ≡ false → trimmed (take (suc k) text) ≡ take (suc k) text
trimmed_whole [] k less h = absurd (omega (arith, less))
trimmed_whole (byte ∷ bytes) zero less h = ap (λ (b : Bool). cond b [] (byte ∷ [])) (λ i. h i && true)
trimmed_whole (byte ∷ bytes) (suc k) less h =
    let kept : is_blank (byte ∷ take (suc k) bytes) ≡ false = not_blank (byte ∷ bytes) (suc k) less h in
    let rest = trimmed_whole bytes k (omega (arith, less)) h in
    (λ i. cond (kept i) [] (byte ∷ rest i))

-- a text up to an end that is 0, or behind a byte that is no blank
pub trimmed_to : (text : List ℕ) (end : ℕ) → end ≤ length text → (0 < end → get_or text (end - 1) 0 ≢ 0x40) → trimmed (take end text) ≡ take end text
trimmed_to text zero within h = refl
trimmed_to text (suc k) within h =
    let less : k < length text = omega (arith, within) in
    let P : ℕ → Type 0 = λ n. get_or text n 0 ≢ 0x40 in
    let one : suc k - 1 ≡ k = omega arith in
    trimmed_whole text k less (differs (get_or text k 0) (subst P one (h (omega arith))))
  where
    differs : (n : ℕ) → n ≢ 0x40 → (n == 0x40) ≡ false
    differs n apart = grind (arith, nat_tests)
