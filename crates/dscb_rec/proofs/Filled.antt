-- Bytes that all have one value.
use Rattle.std.proofs.Common.{◌≡◌, ℕ, suc, List, [], ◌∷◌, length, replicate, refl, sym, ap, ◌∙◌, arith}
use Rattle.dscb_rec.specs.Dscb.{IsFilled}

-- they are that many copies of it
pub fills_all : (value : ℕ) (bytes : List ℕ) → IsFilled (length bytes) value bytes → replicate (length bytes) value ≡ bytes
fills_all value [] h = refl
fills_all value (byte ∷ bytes) h =
    let first : byte ≡ value = h 0 (omega arith) in
    let rest : replicate (length bytes) value ≡ bytes = fills_all value bytes (λ k lt. h (suc k) (omega arith)) in
    ap (λ (x : ℕ). x ∷ replicate (length bytes) value) (sym first) ∙ ap (λ (xs : List ℕ). byte ∷ xs) rest

pub fills_140 : (value : ℕ) (bytes : List ℕ) → length bytes ≡ 140 → IsFilled 140 value bytes → replicate 140 value ≡ bytes
fills_140 value bytes len h =
    ap (λ (n : ℕ). replicate n value) (sym len) ∙ fills_all value bytes (λ k lt. h k (omega arith))
