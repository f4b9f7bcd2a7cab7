-- Numbers of four bytes, of which some stand there.
use Rattle.std.proofs.Common.{◌≡◌, ℕ, zero, suc, ◌+◌, ◌-◌, ◌*◌, ◌/◌, ◌^◌, ◌≤◌, ◌<◌, Bool, true, false, List, [], ◌∷◌, ◌++◌, length, take, replicate, refl, sym, ap, subst, ◌∙◌, arith}
use Rattle.std.proofs.lemmas.List.{take_all}
use Rattle.std.specs.Int.{byte_at}
use Rattle.byteorder.specs.Endian.{big_bytes, big_from}
use Rattle.byteorder.specs.Numbers.{big_number-reads_back}
use Rattle.ckd_image.specs.declared.device.Device.{Device}
use Rattle.ckd_image.specs.declared.device.Device.TheVariants.{D3390, D3380, D3350}
use Rattle.ckd_image.specs.Bytes.{Begins}
use Rattle.ckd_image.specs.Head.{IsCylinders}
use Rattle.dump_fmt.specs.Head.{IsVtocTrack}
use Rattle.dump_read.specs.Fields.{IsFieldFront}
use Rattle.dump_read.specs.Header.{BeginsTracks, BeginsVtoc}
use Rattle.dump_read.proofs.Chains.{none_is}

-- a number by its four bytes
pub of_bytes : (v a b c d : ℕ) → v < 2 ^ 32 → big_bytes 4 v ≡ a ∷ b ∷ c ∷ d ∷ [] → v ≡ a * 16777216 + b * 65536 + c * 256 + d
of_bytes v a b c d small is =
    let back : big_from 0 4 (big_bytes 4 v ++ []) ≡ v = big_number-reads_back 4 v [] (omega (arith, small)) in
    let same : big_from 0 4 ((a ∷ b ∷ c ∷ d ∷ []) ++ []) ≡ v = subst (λ (t : List ℕ). big_from 0 4 (t ++ []) ≡ v) is back in
    omega (arith, same)

pub one_number : (v w : ℕ) → v < 2 ^ 32 → w < 2 ^ 32 → big_bytes 4 v ≡ big_bytes 4 w → v ≡ w
one_number v w small less e =
    let first : big_from 0 4 (big_bytes 4 v ++ []) ≡ v = big_number-reads_back 4 v [] (omega (arith, small)) in
    let second : big_from 0 4 (big_bytes 4 w ++ []) ≡ w = big_number-reads_back 4 w [] (omega (arith, less)) in
    sym first ∙ ap (λ (t : List ℕ). big_from 0 4 (t ++ [])) e ∙ second

-- Zeros behind the bytes make the least number that begins with them.
pub least : (bytes : List ℕ) (p v : ℕ) → p < 2 ^ 32 → v < 2 ^ 32 → length bytes < 4 → big_bytes 4 p ≡ bytes ++ replicate (4 - length bytes) 0 → Begins bytes (big_bytes 4 v) → p ≤ v
least [] p v small less short is front = let n = of_bytes p 0 0 0 0 small is in omega arith
least (x ∷ []) p v small less short is (more, e) =
    let n = of_bytes p x 0 0 0 small is in
    let m = of_bytes v (byte_at 3 v) (byte_at 2 v) (byte_at 1 v) (byte_at 0 v) less refl in
    let a : byte_at 3 v ≡ x = cc in
    omega arith
least (x ∷ y ∷ []) p v small less short is (more, e) =
    let n = of_bytes p x y 0 0 small is in
    let m = of_bytes v (byte_at 3 v) (byte_at 2 v) (byte_at 1 v) (byte_at 0 v) less refl in
    let a : byte_at 3 v ≡ x = cc in
    let b : byte_at 2 v ≡ y = cc in
    omega arith
least (x ∷ y ∷ z ∷ []) p v small less short is (more, e) =
    let n = of_bytes p x y z 0 small is in
    let m = of_bytes v (byte_at 3 v) (byte_at 2 v) (byte_at 1 v) (byte_at 0 v) less refl in
    let a : byte_at 3 v ≡ x = cc in
    let b : byte_at 2 v ≡ y = cc in
    let c : byte_at 1 v ≡ z = cc in
    omega arith
least (x ∷ y ∷ z ∷ w ∷ bytes) p v small less short is front = absurd (omega arith)

-- ---- where all four bytes are there

pub whole_wrong : (May : ℕ → Type 0) (bytes rest : List ℕ) (v : ℕ) → ((n : ℕ) → May n → n < 2 ^ 32) → v < 2 ^ 32 → bytes ≡ big_bytes 4 v ++ rest → ¬ May v
    → ¬ IsFieldFront May (big_bytes 4) (take 4 bytes)
whole_wrong May bytes rest v bound small is none = λ (n, may, front).
    let here : take 4 bytes ≡ big_bytes 4 v = ap (take 4) is in
    let begins : Begins (big_bytes 4 v) (big_bytes 4 n) = subst (λ (t : List ℕ). Begins t (big_bytes 4 n)) here front in
    let last : begins.0 ≡ [] = none_is begins.0 (let e = ap length begins.1 in omega arith) in
    let same : big_bytes 4 n ≡ big_bytes 4 v = begins.1 ∙ ap (λ (t : List ℕ). big_bytes 4 v ++ t) last in
    none (subst May (one_number n v (bound n may) small same) may)

-- ---- the number of tracks

cylinders : (device : Device) (k : ℕ) → 1 ≤ k → 30 * k ≤ 65535 → IsCylinders device (30 * k)
cylinders D3390 k some few = (omega arith, few, omega arith)
cylinders D3380 k some few = (omega arith, few, omega arith)
cylinders D3350 k some few = (omega arith, few, omega arith)

few_cylinders : (device : Device) (n : ℕ) → IsCylinders device n → n < 2 ^ 32
few_cylinders device n is = let h = is.1 in omega arith

-- Another last byte makes tracks of whole cylinders.
pub tracks_cut : (device : Device) (bytes : List ℕ) (p : ℕ) → p < 2 ^ 32 → length bytes < 4 → big_bytes 4 p ≡ bytes ++ replicate (4 - length bytes) 0 → p ≤ 65535 → BeginsTracks device bytes
tracks_cut device [] p small short is few = (30, cylinders device 1 (omega arith) (omega arith), (big_bytes 4 30, refl))
tracks_cut device (x ∷ []) p small short is few =
    let n = of_bytes p x 0 0 0 small is in
    let a : x ≡ 0 = omega arith in
    (30, cylinders device 1 (omega arith) (omega arith), (0 ∷ 0 ∷ 30 ∷ [], ap (λ (b : ℕ). b ∷ 0 ∷ 0 ∷ 30 ∷ []) (sym a)))
tracks_cut device (x ∷ y ∷ []) p small short is few =
    let n = of_bytes p x y 0 0 small is in
    let a : x ≡ 0 = omega arith in
    let b : y ≡ 0 = omega arith in
    (30, cylinders device 1 (omega arith) (omega arith), (0 ∷ 30 ∷ [], cc))
tracks_cut device (x ∷ y ∷ z ∷ []) p small short is few =
    let n = of_bytes p x y z 0 small is in
    let a : x ≡ 0 = omega arith in
    let b : y ≡ 0 = omega arith in
    let k : ℕ = (p + 255) / 30 in
    let t : ℕ = 30 * k in
    let low : p + 226 ≤ t = omega arith in
    let high : t ≤ p + 255 = omega arith in
    let c : byte_at 1 t ≡ z = omega arith in
    let d : byte_at 2 t ≡ 0 = omega arith in
    let e : byte_at 3 t ≡ 0 = omega arith in
    (t, cylinders device k (omega arith) (omega arith), (byte_at 0 t ∷ [], cc))
tracks_cut device (x ∷ y ∷ z ∷ w ∷ bytes) p small short is few = absurd (omega arith)

pub tracks_cut_wrong : (device : Device) (bytes : List ℕ) (p : ℕ) → p < 2 ^ 32 → length bytes < 4 → big_bytes 4 p ≡ bytes ++ replicate (4 - length bytes) 0 → 65535 < p
    → ¬ BeginsTracks device (take 4 bytes)
tracks_cut_wrong device bytes p small short is many = λ (n, may, front).
    let bound = few_cylinders device n may in
    let front : Begins bytes (big_bytes 4 n) = subst (λ (t : List ℕ). Begins t (big_bytes 4 n)) (take_all 4 bytes (omega arith)) front in
    let low = least bytes p n small bound short is front in
    let high = may.1 in
    omega arith

pub tracks_wrong : (device : Device) (bytes rest : List ℕ) (v : ℕ) → v < 2 ^ 32 → bytes ≡ big_bytes 4 v ++ rest → ¬ IsCylinders device v → ¬ BeginsTracks device (take 4 bytes)
tracks_wrong device bytes rest v small is none = whole_wrong (IsCylinders device) bytes rest v (few_cylinders device) small is none

-- ---- the track of the format 4

pub few_vtoc : (full : Bool) (tracks n : ℕ) → tracks ≤ 65535 → IsVtocTrack full tracks n → n < 2 ^ 32
few_vtoc true tracks n few is = let h = is.1 in omega arith
few_vtoc false tracks n few is = omega arith

one_behind : (bytes : List ℕ) → length bytes < 4 → big_bytes 4 0 ≡ bytes ++ replicate (4 - length bytes) 0 → Begins bytes (big_bytes 4 1)
one_behind [] short is = (0 ∷ 0 ∷ 0 ∷ 1 ∷ [], refl)
one_behind (x ∷ []) short is = let a : 0 ≡ x = cc in (0 ∷ 0 ∷ 1 ∷ [], cc)
one_behind (x ∷ y ∷ []) short is = let a : 0 ≡ x = cc in let b : 0 ≡ y = cc in (0 ∷ 1 ∷ [], cc)
one_behind (x ∷ y ∷ z ∷ []) short is = let a : 0 ≡ x = cc in let b : 0 ≡ y = cc in let c : 0 ≡ z = cc in (1 ∷ [], cc)
one_behind (x ∷ y ∷ z ∷ w ∷ bytes) short is = absurd (omega arith)

full_cut : (bytes : List ℕ) (p tracks : ℕ) → length bytes < 4 → big_bytes 4 p ≡ bytes ++ replicate (4 - length bytes) 0 → p < tracks → 2 ≤ tracks → BeginsVtoc true tracks bytes
full_cut bytes zero tracks short is less many = (1, (omega arith, omega arith), one_behind bytes short is)
full_cut bytes (suc p) tracks short is less many = (suc p, (omega arith, less), (replicate (4 - length bytes) 0, is))

pub vtoc_cut : (full : Bool) (bytes : List ℕ) (p tracks : ℕ) → length bytes < 4 → big_bytes 4 p ≡ bytes ++ replicate (4 - length bytes) 0
    → (full ≡ true → p < tracks) → (full ≡ false → p < 1) → 2 ≤ tracks → BeginsVtoc full tracks bytes
vtoc_cut true bytes p tracks short is less none many = full_cut bytes p tracks short is (less refl) many
vtoc_cut false bytes p tracks short is less none many =
    let h = none refl in
    let nothing : p ≡ 0 = omega arith in
    (0, refl, (replicate (4 - length bytes) 0, subst (λ (n : ℕ). big_bytes 4 n ≡ bytes ++ replicate (4 - length bytes) 0) nothing is))

high_vtoc : (full : Bool) (p tracks n : ℕ) → (full ≡ true → tracks ≤ p) → (full ≡ false → 1 ≤ p) → IsVtocTrack full tracks n → n < p
high_vtoc true p tracks n full logical is = let a = full refl in let b = is.1 in omega arith
high_vtoc false p tracks n full logical is = let a = logical refl in omega arith

pub vtoc_cut_wrong : (full : Bool) (bytes : List ℕ) (p tracks : ℕ) → p < 2 ^ 32 → tracks ≤ 65535 → length bytes < 4 → big_bytes 4 p ≡ bytes ++ replicate (4 - length bytes) 0
    → (full ≡ true → tracks ≤ p) → (full ≡ false → 1 ≤ p) → ¬ BeginsVtoc full tracks (take 4 bytes)
vtoc_cut_wrong full bytes p tracks small few short is high one = λ (n, may, front).
    let bound = few_vtoc full tracks n few may in
    let front : Begins bytes (big_bytes 4 n) = subst (λ (t : List ℕ). Begins t (big_bytes 4 n)) (take_all 4 bytes (omega arith)) front in
    let low = least bytes p n small bound short is front in
    let less = high_vtoc full p tracks n high one may in
    omega arith

pub vtoc_wrong : (full : Bool) (tracks : ℕ) (bytes rest : List ℕ) (v : ℕ) → tracks ≤ 65535 → v < 2 ^ 32 → bytes ≡ big_bytes 4 v ++ rest → ¬ IsVtocTrack full tracks v
    → ¬ BeginsVtoc full tracks (take 4 bytes)
vtoc_wrong full tracks bytes rest v few small is none = whole_wrong (IsVtocTrack full tracks) bytes rest v (λ n may. few_vtoc full tracks n few may) small is none
