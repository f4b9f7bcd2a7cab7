-- Extents numbered in order.
use Rattle.std.proofs.Common.{◌≡◌, ℕ, suc, ◌+◌, ◌<◌, List, [], ◌∷◌, ◌++◌, length, take, get_or, ap, ◌∙◌, take-suc, arith}
use Rattle.std.proofs.lemmas.List.{length-take-le}
use Rattle.dscb_rec.specs.declared.field.Extent.{Extent}
use Rattle.vtoc_render.specs.Next.{numbered_from}

abbrev pub with_number : ℕ → Extent → Extent
with_number number extent = record { kind = extent.kind; number = number; first = extent.first; last = extent.last }

pub one_more : (number : ℕ) (extents : List Extent) (extent : Extent) → numbered_from number (extents ++ (extent ∷ [])) ≡ numbered_from number extents ++ (with_number (number + length extents) extent ∷ [])
one_more number [] extent = ap (λ (n : ℕ). with_number n extent ∷ []) (zero_more number)
  where
    zero_more : (n : ℕ) → n ≡ n + 0
    zero_more n = omega arith
one_more number (first ∷ more) extent =
    ap (λ (xs : List Extent). with_number number first ∷ xs)
    (one_more (number + 1) more extent ∙ ap (λ (n : ℕ). numbered_from (number + 1) more ++ (with_number n extent ∷ [])) (moved number (length more)))
  where
    moved : (a b : ℕ) → (a + 1) + b ≡ a + suc b
    moved a b = omega arith

pub numbered_more : (extents : List Extent) (k : ℕ) (d : Extent) → k < length extents
    → numbered_from 0 (take (k + 1) extents) ≡ numbered_from 0 (take k extents) ++ (with_number k (get_or extents k d) ∷ [])
numbered_more extents k d less =
    ap (numbered_from 0) (ap (λ (n : ℕ). take n extents) next ∙ take-suc extents k d less)
    ∙ one_more 0 (take k extents) (get_or extents k d)
    ∙ ap (λ (n : ℕ). numbered_from 0 (take k extents) ++ (with_number n (get_or extents k d) ∷ [])) (counted (length (take k extents)) (length-take-le k extents (omega (arith, less))))
  where
    next : k + 1 ≡ suc k
    next = omega arith

    counted : (n : ℕ) → n ≡ k → 0 + n ≡ k
    counted n e = omega (arith, e)
