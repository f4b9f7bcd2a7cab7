-- The records of a track with their places.
use Rattle.std.proofs.Common.{◌≡◌, ℕ, suc, ◌+◌, ◌<◌, List, [], ◌∷◌, length, map, get_or, arith}
use Rattle.ckd_image.specs.declared.track.Rec.{Rec}

-- the records are numbered from a number on
abbrev pub NumberedFrom : ℕ → List Rec → Type 0
NumberedFrom n [] = Unit {0}
NumberedFrom n (rec ∷ recs) = (rec.r ≡ n) × NumberedFrom (n + 1) recs

pub numbered_from : (n : ℕ) (recs : List Rec) → ((k : ℕ) → k < length recs → get_or (map (λ rec. rec.r) recs) k 0 ≡ k + n) → NumberedFrom n recs
numbered_from n [] h = tt
numbered_from n (rec ∷ recs) h =
    let first : rec.r ≡ n = omega (arith, h 0 (omega arith)) in
    (first, numbered_from (n + 1) recs (λ k lt. omega (arith, h (suc k) (omega arith))))
