-- Serials of which some bytes stand there.
use Rattle.std.proofs.Common.{◌≡◌, inl, inr, ℕ, zero, suc, ◌+◌, ◌-◌, ◌≤◌, ◌<◌, min, List, [], ◌∷◌, ◌++◌, length, take, replicate, refl, sym, ap, subst, ◌∙◌, arith, length-append}
use Rattle.std.proofs.lemmas.List.{take_all, append-nil, length-replicate}
use Rattle.std.proofs.lemmas.Bool.{cases_lt}
use Rattle.std.specs.Prelude.{slice_index}
use Rattle.ckd_image.specs.Bytes.{Begins}
use Rattle.vol_label.specs.Serial.{IsSerial, IsSerialByte, HasCharacters}
use Rattle.dump_read.specs.Header.{BeginsSerial}
use Rattle.dump_read.proofs.Chains.{none_is}
use Rattle.dump_read.proofs.PartChain.{take_length}
use Rattle.dump_read.proofs.Headers.{some_serial, is_some_serial}

at_front : (v w : List ℕ) (k : ℕ) → k < length v → slice_index (v ++ w) k ≡ slice_index v k
at_front [] w k less = absurd (omega arith)
at_front (x ∷ v) w zero less = refl
at_front (x ∷ v) w (suc k) less = at_front v w k (omega arith)

at_behind : (v : List ℕ) (n k b : ℕ) → length v ≤ k → k < length v + n → slice_index (v ++ replicate n b) k ≡ b
at_behind [] zero k b low less = absurd (omega arith)
at_behind [] (suc n) zero b low less = refl
at_behind [] (suc n) (suc k) b low less = at_behind [] n k b (omega arith) (omega arith)
at_behind (x ∷ v) n zero b low less = absurd (omega arith)
at_behind (x ∷ v) n (suc k) b low less = at_behind v n k b (omega arith) (omega arith)

long_filled : (bytes : List ℕ) → length bytes < 6 → length (bytes ++ replicate (6 - length bytes) 0x40) ≡ 6
long_filled bytes short =
    let fill : List ℕ = replicate (6 - length bytes) 0x40 in
    let a : length (bytes ++ fill) ≡ length bytes + length fill = length-append bytes fill in
    let b : length fill ≡ 6 - length bytes = length-replicate {A = ℕ} (6 - length bytes) 0x40 in
    a ∙ (let e : length bytes + length fill ≡ 6 = omega arith in e)

-- A serial that begins with some bytes is still one with blanks behind them.
filled : (bytes text : List ℕ) (count : ℕ) → 1 ≤ length bytes → length bytes < 6 → Begins bytes text → HasCharacters text count → HasCharacters (bytes ++ replicate (6 - length bytes) 0x40) (min count (length bytes))
filled bytes text count some short (more, e) is = record {
  six = long_filled bytes short;
  some = let h = is.some in omega arith;
  few = omega arith;
  characters = λ k less.
      let here : slice_index text k ≡ slice_index bytes k = ap (λ (t : List ℕ). slice_index t k) e ∙ at_front bytes more k (omega arith) in
      subst IsSerialByte (sym (at_front bytes (replicate (6 - length bytes) 0x40) k (omega arith))) (subst IsSerialByte here (is.characters k (omega arith)));
  blanks = λ k low less. elim (cases_lt k (length bytes)) [
    | inl front ↦ at_front bytes (replicate (6 - length bytes) 0x40) k front ∙ sym (ap (λ (t : List ℕ). slice_index t k) e ∙ at_front bytes more k front) ∙ is.blanks k (omega arith) less
    | inr behind ↦ at_behind bytes (6 - length bytes) k 0x40 behind (omega arith)
  ];
}

pub serial_cut_wrong : (bytes text : List ℕ) → 1 ≤ length bytes → length bytes < 6 → text ≡ bytes ++ replicate (6 - length bytes) 0x40 → ¬ IsSerial text → ¬ BeginsSerial (take 6 bytes)
serial_cut_wrong bytes text some short is none = λ (other, may, front).
    none (subst IsSerial (sym is) (min may.0 (length bytes), filled bytes other may.0 some short (subst (λ (t : List ℕ). Begins t other) (take_all 6 bytes (omega arith)) front) may.1))

pub serial_none : (bytes : List ℕ) → length bytes ≡ 0 → BeginsSerial bytes
serial_none [] none = (some_serial, is_some_serial, (some_serial, refl))
serial_none (x ∷ bytes) none = absurd (omega arith)

pub serial_wrong : (bytes front rest text : List ℕ) → bytes ≡ front ++ rest → length front ≡ 6 → text ≡ front → ¬ IsSerial text → ¬ BeginsSerial (take 6 bytes)
serial_wrong bytes front rest text found six there not_one =
    let none : ¬ IsSerial front = subst (λ (t : List ℕ). ¬ IsSerial t) there not_one in λ (other, may, (more, e)).
    let here : take 6 bytes ≡ front = ap (take 6) found ∙ take_length front rest 6 six in
    let same : other ≡ front ++ more = e ∙ ap (λ (t : List ℕ). t ++ more) here in
    let last : more ≡ [] = none_is more (let a = ap length same in let b = length-append front more in let c = may.1.six in omega arith) in
    none (subst IsSerial (same ∙ ap (λ (t : List ℕ). front ++ t) last ∙ append-nil front) may)
