-- Bytes of which a piece is others.
use Rattle.std.proofs.Common.{◌≡◌, ℕ, ◌+◌, ◌-◌, ◌<◌, ◌≤◌, List, ◌++◌, length, take, drop, get_or, sym, ap, ◌∙◌, arith}
use Rattle.std.proofs.lemmas.List.{length-take-le, drop-drop, get_or-take, get_or-drop}
use Rattle.std.proofs.Math.ListN.{get_or-append}
use Rattle.std.proofs.Math.Seq.{take-append-add, drop-append-add, get_or-append_right}
use Rattle.ckd_image.specs.Body.{over}

front_long : (start : ℕ) (piece bytes : List ℕ) → start + length piece ≤ length bytes → length (take start bytes) ≡ start
front_long start piece bytes within = length-take-le start bytes (omega (arith, within))

-- the front of them, as far as it goes past the piece
pub take_past : (start : ℕ) (piece bytes : List ℕ) (more : ℕ) → start + length piece ≤ length bytes
    → take (start + (length piece + more)) (over start piece bytes) ≡ take start bytes ++ (piece ++ take more (drop (start + length piece) bytes))
take_past start piece bytes more within =
    ap (λ (n : ℕ). take (n + (length piece + more)) (over start piece bytes)) (sym (front_long start piece bytes within))
    ∙ take-append-add (take start bytes) (piece ++ drop (start + length piece) bytes) (length piece + more)
    ∙ ap (λ (x : List ℕ). take start bytes ++ x) (take-append-add piece (drop (start + length piece) bytes) more)

-- what is behind the piece
pub drop_past : (start : ℕ) (piece bytes : List ℕ) (more : ℕ) → start + length piece ≤ length bytes
    → drop (start + (length piece + more)) (over start piece bytes) ≡ drop (start + (length piece + more)) bytes
drop_past start piece bytes more within =
    ap (λ (n : ℕ). drop (n + (length piece + more)) (over start piece bytes)) (sym (front_long start piece bytes within))
    ∙ drop-append-add (take start bytes) (piece ++ drop (start + length piece) bytes) (length piece + more)
    ∙ drop-append-add piece (drop (start + length piece) bytes) more
    ∙ drop-drop more (start + length piece) bytes
    ∙ ap (λ (n : ℕ). drop n bytes) (omega arith)

-- ---- byte by byte

pub get_before : (start : ℕ) (piece bytes : List ℕ) (k : ℕ) → start + length piece ≤ length bytes → k < start → get_or (over start piece bytes) k 0 ≡ get_or bytes k 0
get_before start piece bytes k within less =
    get_or-append (take start bytes) (piece ++ drop (start + length piece) bytes) 0 k (omega (arith, less, front_long start piece bytes within))
    ∙ get_or-take start bytes k 0 less

pub get_within : (start : ℕ) (piece bytes : List ℕ) (i : ℕ) → start + length piece ≤ length bytes → i < length piece → get_or (over start piece bytes) (start + i) 0 ≡ get_or piece i 0
get_within start piece bytes i within less =
    let front = front_long start piece bytes within in
    get_or-append_right (take start bytes) (piece ++ drop (start + length piece) bytes) (start + i) 0 (omega (arith, front))
    ∙ ap (λ (n : ℕ). get_or (piece ++ drop (start + length piece) bytes) n 0) (omega (arith, front))
    ∙ get_or-append piece (drop (start + length piece) bytes) 0 i less

pub get_behind : (start : ℕ) (piece bytes : List ℕ) (k : ℕ) → start + length piece ≤ length bytes → start + length piece ≤ k → get_or (over start piece bytes) k 0 ≡ get_or bytes k 0
get_behind start piece bytes k within less =
    let front = front_long start piece bytes within in
    get_or-append_right (take start bytes) (piece ++ drop (start + length piece) bytes) k 0 (omega (arith, front, less))
    ∙ get_or-append_right piece (drop (start + length piece) bytes) (k - length (take start bytes)) 0 (omega (arith, front, less))
    ∙ get_or-drop (start + length piece) bytes (k - length (take start bytes) - length piece) 0
    ∙ ap (λ (n : ℕ). get_or bytes n 0) (omega (arith, front, less))
