-- The fields of a format 1 that a data set keeps are bytes of it.
use Rattle.std.proofs.Common.{◌≡◌, ℕ, suc, ◌+◌, ◌-◌, ◌<◌, List, ◌∷◌, length, take, drop, get_or, ap, ◌∙◌, arith}
use Rattle.std.proofs.lemmas.List.{length-take-le, get_or-take, get_or-drop, get_or_append_left, get_or-append_right}
use Rattle.volume_model.specs.Reads.{fields_of_1}

pub field_ahead : (bytes : List ℕ) → length bytes ≡ 140 → (k : ℕ) → k < 59 → get_or (fields_of_1 bytes) k 0 ≡ get_or bytes k 0
field_ahead bytes long k lt =
    get_or_append_left (take 59 bytes) (0 ∷ take 45 (drop 60 bytes)) 0 k (omega (arith, lt, length-take-le 59 bytes (omega (arith, long))))
    ∙ get_or-take 59 bytes k 0 lt

pub field_behind : (bytes : List ℕ) → length bytes ≡ 140 → (k : ℕ) → k < 45 → get_or (fields_of_1 bytes) (60 + k) 0 ≡ get_or bytes (60 + k) 0
field_behind bytes long k lt =
    let rest : List ℕ = 0 ∷ take 45 (drop 60 bytes) in
    let at : 60 + k - 59 ≡ suc k = omega arith in
    get_or-append_right (take 59 bytes) rest 59 (60 + k) 0 (length-take-le 59 bytes (omega (arith, long))) (omega arith)
    ∙ ap (λ (i : ℕ). get_or rest i 0) at ∙ get_or-take 45 (drop 60 bytes) k 0 lt ∙ get_or-drop 60 bytes k 0
