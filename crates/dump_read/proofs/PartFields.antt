-- The fields of a part, each by itself.
use Rattle.std.proofs.Common.{◌≡◌, ◌≢◌, inl, inr, ℕ, zero, suc, ◌+◌, ◌-◌, ◌^◌, ◌≤◌, ◌<◌, List, [], ◌∷◌, ◌++◌, length, take, drop, replicate, refl, sym, ap, subst, ◌∙◌, arith}
use Rattle.std.specs.Prelude.{slice_index}
use Rattle.std.proofs.lemmas.List.{take_all, append-nil}
use Rattle.byteorder.specs.Endian.{big_bytes}
use Rattle.ckd_image.specs.Bytes.{Begins}
use Rattle.dump_read.specs.Header.{BeginsFixed}
use Rattle.dump_read.specs.PartText.{BeginsTracks, BeginsKind}
use Rattle.dump_read.proofs.Numbers.{least, whole_wrong}
use Rattle.dump_read.proofs.Chains.{none_is}

pub byte_cut : (right : ℕ) (bytes : List ℕ) → length bytes < 1 → BeginsFixed (right ∷ []) bytes
byte_cut right [] none = (tt, tt, (right ∷ [], refl))
byte_cut right (x ∷ bytes) none = absurd (omega arith)

pub byte_wrong : (right byte : ℕ) (bytes rest : List ℕ) → bytes ≡ byte ∷ rest → byte ≢ right → ¬ BeginsFixed (right ∷ []) (take 1 bytes)
byte_wrong right byte bytes rest is other = λ (value, may, (more, e)).
    let here : take 1 bytes ≡ byte ∷ [] = ap (take 1) is in
    let begins : right ∷ [] ≡ (byte ∷ []) ++ more = e ∙ ap (λ (t : List ℕ). t ++ more) here in
    let same : byte ≡ right = cc in
    other same

pub kind_cut : (bytes : List ℕ) → length bytes < 1 → BeginsKind bytes
kind_cut [] none = (0x01, inl refl, (0x01 ∷ [], refl))
kind_cut (x ∷ bytes) none = absurd (omega arith)

pub kind_wrong : (kind : ℕ) (bytes rest : List ℕ) → bytes ≡ kind ∷ rest → kind ≢ 0x01 → kind ≢ 0x81 → ¬ BeginsKind (take 1 bytes)
kind_wrong kind bytes rest is one other = λ (value, may, (more, e)).
    let here : take 1 bytes ≡ kind ∷ [] = ap (take 1) is in
    let begins : value ∷ [] ≡ (kind ∷ []) ++ more = e ∙ ap (λ (t : List ℕ). t ++ more) here in
    let same : value ≡ kind = cc in
    elim may [ inl first ↦ one (sym same ∙ first) | inr second ↦ other (sym same ∙ second) ]

pub few_cut : (bytes : List ℕ) (p : ℕ) → big_bytes 4 p ≡ bytes ++ replicate (4 - length bytes) 0 → p ≤ 65535 → BeginsTracks bytes
few_cut bytes p is few = (p, few, (replicate (4 - length bytes) 0, is))

pub few_cut_wrong : (bytes : List ℕ) (p : ℕ) → p < 2 ^ 32 → length bytes < 4 → big_bytes 4 p ≡ bytes ++ replicate (4 - length bytes) 0 → 65535 < p → ¬ BeginsTracks (take 4 bytes)
few_cut_wrong bytes p small short is many = λ (n, may, front).
    let bound : n < 2 ^ 32 = omega arith in
    let front : Begins bytes (big_bytes 4 n) = subst (λ (t : List ℕ). Begins t (big_bytes 4 n)) (take_all 4 bytes (omega arith)) front in
    let low = least bytes p n small bound short is front in
    omega arith

pub few_wrong : (bytes rest : List ℕ) (v : ℕ) → v < 2 ^ 32 → bytes ≡ big_bytes 4 v ++ rest → 65535 < v → ¬ BeginsTracks (take 4 bytes)
few_wrong bytes rest v small is many = whole_wrong (λ n. n ≤ 65535) bytes rest v (λ n may. omega arith) small is (λ may. omega arith)

-- ---- zeros

index_behind : (k : ℕ) (rest : List ℕ) → slice_index (replicate k 0 ++ rest) k ≡ slice_index rest 0
index_behind zero rest = refl
index_behind (suc k) rest = index_behind k rest

zeros_push : (k : ℕ) (rest : List ℕ) → replicate k 0 ++ (0 ∷ rest) ≡ replicate (k + 1) 0 ++ rest
zeros_push zero rest = refl
zeros_push (suc k) rest = ap (λ (t : List ℕ). 0 ∷ t) (zeros_push k rest) ∙ ap (λ (n : ℕ). replicate n 0 ++ rest) (let e : suc (k + 1) ≡ suc k + 1 = omega arith in e)

zeros_drop : (k : ℕ) (rest : List ℕ) → drop k (replicate k 0 ++ rest) ≡ rest
zeros_drop zero rest = refl
zeros_drop (suc k) rest = zeros_drop k rest

long_zeros : (k : ℕ) (rest : List ℕ) → length (replicate k 0 ++ rest) ≡ k + length rest
long_zeros zero rest = (let e : length rest ≡ zero + length rest = omega arith in e)
long_zeros (suc k) rest = let h = long_zeros k rest in omega arith

-- the zeros and one byte more
zeros_then : (bytes rest : List ℕ) (k : ℕ) → bytes ≡ replicate k 0 ++ rest → k < length bytes → (more : List ℕ) × (bytes ≡ replicate k 0 ++ (slice_index bytes k ∷ more))
zeros_then bytes [] k is less = absurd (let a = ap length is in let b = long_zeros k [] in omega arith)
zeros_then bytes (x ∷ rest) k is less =
    let here : slice_index bytes k ≡ x = ap (λ (t : List ℕ). slice_index t k) is ∙ index_behind k (x ∷ rest) in
    (rest, is ∙ ap (λ (b : ℕ). replicate k 0 ++ (b ∷ rest)) (sym here))

pub zeros_more : (bytes rest : List ℕ) (k byte : ℕ) → bytes ≡ replicate k 0 ++ rest → k < length bytes → slice_index bytes k ≡ byte → byte ≡ 0 → (more : List ℕ) × (bytes ≡ replicate (k + 1) 0 ++ more)
zeros_more bytes rest k byte is less there none =
    let found = zeros_then bytes rest k is less in
    (found.0, found.1 ∙ ap (λ (b : ℕ). replicate k 0 ++ (b ∷ found.0)) (there ∙ none) ∙ zeros_push k found.0)

pub zeros_other : (bytes rest : List ℕ) (k byte : ℕ) → bytes ≡ replicate k 0 ++ rest → k < length bytes → slice_index bytes k ≡ byte → byte ≢ 0
    → (b : ℕ) × (more : List ℕ) × (bytes ≡ replicate k 0 ++ (b ∷ more)) × ¬ (b ≡ 0)
zeros_other bytes rest k byte is less there other =
    let found = zeros_then bytes rest k is less in
    (slice_index bytes k, found.0, found.1, λ none. other (sym there ∙ none))

pub zeros_cut : (bytes rest : List ℕ) (k : ℕ) → bytes ≡ replicate k 0 ++ rest → length bytes ≤ k → bytes ≡ replicate (length bytes) 0
zeros_cut bytes rest k is short =
    let none : rest ≡ [] = none_is rest (let a = ap length is in let b = long_zeros k rest in omega arith) in
    let all : bytes ≡ replicate k 0 = is ∙ ap (λ (t : List ℕ). replicate k 0 ++ t) none ∙ append-nil (replicate k 0) in
    let same : k ≡ length bytes = (let a = ap length is in let b = long_zeros k rest in omega arith) in
    all ∙ ap (λ (n : ℕ). replicate n 0) same

pub zeros_all : (bytes rest behind : List ℕ) (k : ℕ) → bytes ≡ replicate k 0 ++ rest → behind ≡ drop k bytes → bytes ≡ replicate k 0 ++ behind
zeros_all bytes rest behind k is there = is ∙ ap (λ (t : List ℕ). replicate k 0 ++ t) (sym (there ∙ ap (drop k) is ∙ zeros_drop k rest))

pub zeros_long : (bytes rest : List ℕ) (k : ℕ) → bytes ≡ replicate k 0 ++ rest → k ≤ length bytes
zeros_long bytes rest k is = let a = ap length is in let b = long_zeros k rest in omega arith
