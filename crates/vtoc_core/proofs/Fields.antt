-- Fields that are written one after the other.
use Rattle.std.proofs.Common.{[], ◌≡◌, ℕ, ◌+◌, ◌≤◌, List, ◌++◌, length, take, drop, refl, ap, ◌∙◌, arith, append_assoc}
use Rattle.std.proofs.lemmas.List.{append-nil}
use Rattle.ckd_image.specs.Body.{over}
use Rattle.vtoc_core.proofs.Overs.{take_past, drop_past}

glue_counts : (a p t q b : List ℕ) → t ≡ [] → (a ++ (p ++ t)) ++ (q ++ b) ≡ a ++ (p ++ (q ++ b))
glue_counts a p t q b none = ap (λ (x : List ℕ). (a ++ (p ++ x)) ++ (q ++ b)) none ∙ simp (append_assoc, append-nil)

pub counts_put : (d x new p q : List ℕ) → length d ≡ 140 → length p ≡ 5 → length q ≡ 2 → x ≡ over 45 p d → new ≡ over 50 q x → new ≡ take 45 d ++ (p ++ (q ++ drop 52 d))
counts_put d x new p q long five two is made =
    made ∙ (λ i. front i ++ (q ++ behind i)) ∙ glue_counts (take 45 d) p (take 0 (drop (45 + length p) d)) q (drop 52 d) refl
  where
    fits : 45 + length p ≤ length d
    fits = omega (arith, long, five)

    to_50 : 50 ≡ 45 + (length p + 0)
    to_50 = omega (arith, five)

    front : take 50 x ≡ take 45 d ++ (p ++ take 0 (drop (45 + length p) d))
    front = ap (take 50) is ∙ ap (λ (n : ℕ). take n (over 45 p d)) to_50 ∙ take_past 45 p d 0 fits

    to_52 : 50 + length q ≡ 45 + (length p + 2)
    to_52 = omega (arith, five, two)

    at_52 : 45 + (length p + 2) ≡ 52
    at_52 = omega (arith, five)

    behind : drop (50 + length q) x ≡ drop 52 d
    behind =
        ap (drop (50 + length q)) is ∙ ap (λ (n : ℕ). drop n (over 45 p d)) to_52 ∙ drop_past 45 p d 2 fits
        ∙ ap (λ (n : ℕ). drop n d) at_52
