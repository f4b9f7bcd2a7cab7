-- What is read of a journal's blocks, step by step.
use Rattle.std.proofs.Common.{◌≡◌, ◌<◌, ⊎_elim, ℕ, zero, suc, ◌+◌, ◌*◌, ◌-◌, List, [], ◌∷◌, ◌++◌, length, take, drop, get_or, set, Bool, false, refl, sym, ◌∙◌, ap, subst, arith}
use Rattle.std.specs.Prelude.{Contains, slice_index_or}
use Rattle.std.proofs.lemmas.Bool.{cases_eq}
use Rattle.std.proofs.lemmas.List.{take_all, get_or-drop, get_or_default, get_or-set_same, get_or-set_other, length-drop, drop-drop}
use Rattle.byteorder.specs.Endian.{big_number}
use Rattle.vol_label.specs.declared.serial.Serial.{Serial}
use Rattle.redo_core.specs.declared.target.Target.{Target}
use Rattle.redo_core.specs.Format.{number_at, targets_in, serials_in, is_filling}

-- an element that stands again behind its place is among those behind
pub stands_behind : (list : List Target) (place j n : ℕ) (target d : Target) → place < j → j < length list → n ≡ length list - (place + 1) → target ≡ get_or list j d → Contains (take n (drop (place + 1) list)) target
stands_behind list place j n target d less within many is =
    subst (λ (l : List Target). Contains l target) (sym (take_all n (drop (place + 1) list) (omega (arith, length-drop (place + 1) list)))) (
      j - (place + 1),
      omega (arith, length-drop (place + 1) list),
      get_or-drop (place + 1) list (j - (place + 1)) target ∙ ap (λ (k : ℕ). get_or list k target) there ∙ get_or_default list j target d within ∙ sym is,
    )
  where
    there : place + 1 + (j - (place + 1)) ≡ j
    there = omega arith

-- one test more
pub fill_more : (fills : List Bool) (block : List ℕ) (i : ℕ) (b : Bool) → i < length fills → b ≡ is_filling block i → ((u : ℕ) → u < i → slice_index_or fills u false ≡ is_filling block u)
    → (u : ℕ) → u < i + 1 → slice_index_or (set fills i b) u false ≡ is_filling block u
fill_more fills block i b within is so_far u less = ⊎_elim
    (λ same. ap (λ (k : ℕ). get_or (set fills i b) k false) same ∙ get_or-set_same fills i b false within ∙ is ∙ ap (λ (k : ℕ). is_filling block k) (sym same))
    (λ other. get_or-set_other fills i u b false other ∙ so_far u (below other))
    (cases_eq u i)
  where
    below : (u ≡ i → ⊥) → u < i
    below other = omega (arith, less, other)

-- one target more
pub targets_in-push : (n : ℕ) (bytes : List ℕ) → targets_in (n + 1) bytes ≡ targets_in n bytes ++ record { unit = number_at (8 * n) bytes; block = number_at (8 * n + 4) bytes } ∷ []
targets_in-push zero bytes = refl
targets_in-push (suc n) bytes =
    let more : suc n + 1 ≡ suc (n + 1) = omega arith in
    let unit : number_at (8 * n) (drop 8 bytes) ≡ number_at (8 * suc n) bytes = ap (λ (l : List ℕ). big_number 4 l) (drop-drop (8 * n) 8 bytes ∙ ap (λ (k : ℕ). drop k bytes) (first n)) in
    let block : number_at (8 * n + 4) (drop 8 bytes) ≡ number_at (8 * suc n + 4) bytes = ap (λ (l : List ℕ). big_number 4 l) (drop-drop (8 * n + 4) 8 bytes ∙ ap (λ (k : ℕ). drop k bytes) (second n)) in
    ap (λ (k : ℕ). targets_in k bytes) more
    ∙ ap (λ (l : List Target). record { unit = number_at 0 bytes; block = number_at 4 bytes } ∷ l) (targets_in-push n (drop 8 bytes))
    ∙ (λ i. record { unit = number_at 0 bytes; block = number_at 4 bytes } ∷ (targets_in n (drop 8 bytes) ++ record { unit = unit i; block = block i } ∷ []))
  where
    first : (k : ℕ) → 8 + 8 * k ≡ 8 * suc k
    first k = omega arith

    second : (k : ℕ) → 8 + (8 * k + 4) ≡ 8 * suc k + 4
    second k = omega arith

-- a number behind the first four bytes
pub number_behind : (place k : ℕ) (block : List ℕ) → place ≡ 4 + k → number_at place block ≡ number_at k (drop 4 block)
number_behind place k block at = ap (λ (l : List ℕ). big_number 4 l) (ap (λ (p : ℕ). drop p block) at ∙ sym (drop-drop k 4 block))

pub length-targets_in : (n : ℕ) (bytes : List ℕ) → length (targets_in n bytes) ≡ n
length-targets_in zero bytes = refl
length-targets_in (suc n) bytes = ap suc (length-targets_in n (drop 8 bytes))

-- one serial more
pub serials_in-push : (n : ℕ) (bytes : List ℕ) → serials_in (n + 1) bytes ≡ serials_in n bytes ++ record { text = take 6 (drop (6 * n) bytes) } ∷ []
serials_in-push zero bytes = refl
serials_in-push (suc n) bytes =
    let more : suc n + 1 ≡ suc (n + 1) = omega arith in
    let text : take 6 (drop (6 * n) (drop 6 bytes)) ≡ take 6 (drop (6 * suc n) bytes) = ap (λ (l : List ℕ). take 6 l) (drop-drop (6 * n) 6 bytes ∙ ap (λ (k : ℕ). drop k bytes) (next n)) in
    ap (λ (k : ℕ). serials_in k bytes) more
    ∙ ap (λ (l : List Serial). record { text = take 6 bytes } ∷ l) (serials_in-push n (drop 6 bytes))
    ∙ (λ i. record { text = take 6 bytes } ∷ (serials_in n (drop 6 bytes) ++ record { text = text i } ∷ []))
  where
    next : (k : ℕ) → 6 + 6 * k ≡ 6 * suc k
    next k = omega arith

-- six bytes behind the first sixteen
pub six_behind : (place k : ℕ) (block : List ℕ) → place ≡ 16 + k → take 6 (drop place block) ≡ take 6 (drop k (drop 16 block))
six_behind place k block at = ap (λ (l : List ℕ). take 6 l) (ap (λ (p : ℕ). drop p block) at ∙ sym (drop-drop k 16 block))

pub length-serials_in : (n : ℕ) (bytes : List ℕ) → length (serials_in n bytes) ≡ n
length-serials_in zero bytes = refl
length-serials_in (suc n) bytes = ap suc (length-serials_in n (drop 6 bytes))
