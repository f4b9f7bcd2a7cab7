-- Fields of which some bytes stand there, or other ones.
use Rattle.std.proofs.Common.{◌≡◌, inl, inr, ℕ, ◌+◌, ◌*◌, ◌≤◌, ◌<◌, true, List, [], ◌∷◌, ◌++◌, length, take, drop, refl, sym, ap, ◌∙◌, arith, length-append}
use Rattle.std.specs.Prelude.{slice_index}
use Rattle.std.specs.Int.{byte_at}
use Rattle.std.proofs.lemmas.List.{take-append-drop, take_all, length-take, append-nil}
use Rattle.std.proofs.lemmas.Bool.{cases_lt}
use Rattle.ckd_image.specs.declared.device.Device.TheVariants.{D3390}
use Rattle.ckd_image.specs.Bytes.{Begins}
use Rattle.dump_read.specs.Header.{BeginsFixed, BeginsKind, BeginsDevice, BeginsDay, kind_text, device_text, pair_text}
use Rattle.dump_read.proofs.Chains.{none_is}

-- where the front of a text is as long as the text, it is the text
pub whole_front : (front right more : List ℕ) → right ≡ front ++ more → length right ≤ length front → right ≡ front
whole_front front right more is long =
    let empty : more ≡ [] = none_is more (let a = ap length is in let b = length-append front more in omega arith) in
    is ∙ ap (λ (l : List ℕ). front ++ l) empty ∙ append-nil front

pub fixed_cut : (right bytes : List ℕ) → ¬ Begins right bytes → Begins bytes right → length bytes < length right
fixed_cut right bytes none front = elim (cases_lt (length bytes) (length right)) [
  | inl short ↦ short
  | inr long ↦ absurd (none ([], sym (whole_front bytes right front.0 front.1 long) ∙ sym (append-nil right)))
]

pub fixed_wrong : (right bytes : List ℕ) (n : ℕ) → length right ≡ n → ¬ Begins right bytes → ¬ Begins bytes right → ¬ BeginsFixed right (take n bytes)
fixed_wrong right bytes n is none not_front = λ (value, may, front). elim (cases_lt (length bytes) n) [
  | inl short ↦ not_front (front.0, front.1 ∙ ap (λ (l : List ℕ). l ++ front.0) (take_all n bytes (omega (arith, short))))
  | inr long ↦
      let whole : right ≡ take n bytes = whole_front (take n bytes) right front.0 front.1 (omega (arith, is, long, length-take n bytes)) in
      none (drop n bytes, sym (take-append-drop n bytes) ∙ ap (λ (l : List ℕ). l ++ drop n bytes) (sym whole))
]

pub kind_cut : (bytes : List ℕ) → length bytes < 1 → BeginsKind bytes
kind_cut [] none = (true, tt, (kind_text true, refl))
kind_cut (x ∷ bytes) none = absurd (omega arith)

pub device_cut : (bytes : List ℕ) → length bytes < 1 → BeginsDevice bytes
device_cut [] none = (D3390, tt, (device_text D3390, refl))
device_cut (x ∷ bytes) none = absurd (omega arith)

high : (x y : ℕ) → x < 256 → y < 256 → byte_at 1 (x * 256 + y) ≡ x
high x y less small = omega arith

low : (x y : ℕ) → x < 256 → y < 256 → byte_at 0 (x * 256 + y) ≡ y
low x y less small = omega arith

pub day_cut : (bytes : List ℕ) → length bytes < 4 → ((k : ℕ) → slice_index bytes k < 256) → BeginsDay bytes
day_cut [] short small = ((0, 0), (omega arith, omega arith), (pair_text (0, 0), refl))
day_cut (x ∷ []) short small =
    let a = high x 0 (small 0) (omega arith) in
    ((x * 256 + 0, 0), (omega (arith, small 0), omega arith), (byte_at 0 (x * 256 + 0) ∷ 0 ∷ 0 ∷ [], cc))
day_cut (x ∷ y ∷ []) short small =
    let a = high x y (small 0) (small 1) in
    let b = low x y (small 0) (small 1) in
    ((x * 256 + y, 0), (omega (arith, small 0, small 1), omega arith), (0 ∷ 0 ∷ [], cc))
day_cut (x ∷ y ∷ z ∷ []) short small =
    let a = high x y (small 0) (small 1) in
    let b = low x y (small 0) (small 1) in
    let c = high z 0 (small 2) (omega arith) in
    ((x * 256 + y, z * 256 + 0), (omega (arith, small 0, small 1), omega (arith, small 2)), (byte_at 0 (z * 256 + 0) ∷ [], cc))
day_cut (x ∷ y ∷ z ∷ w ∷ bytes) short small = absurd (omega arith)
