-- A DSCB that reads has its format.
use Rattle.std.proofs.Common.{◌≡◌, ◌≢◌, ℕ, zero, suc, ◌<◌, ◌≤◌, List, [], ◌∷◌, length, get_or, Bool, true, false, ◌&&◌, ◌==◌, refl, ap, ◌∙◌, arith, eq-eqb, inl, inr}
use Rattle.std.specs.Prelude.{if◌then◌else◌}
use Rattle.std.proofs.lemmas.Bool.Decides.{nat_tests}
use Rattle.dscb_rec.specs.declared.dscb.DscbRule.TheVariants as rules
use Rattle.dscb_rec.specs.declared.dscb.DscbFault.{DscbFault}
use Rattle.dscb_rec.specs.declared.dscb.DscbFault.TheVariants.{BadDscb}
use Rattle.dscb_rec.specs.Dscb.{IsFilled, NamesNoFormat, IsWrong, IsDscbFault}
use Rattle.volume_model.specs.declared.format.Format.TheVariants.{Broken, Free, F1, F3, F4, F5}
use Rattle.volume_model.specs.Dscbs.{is_filled, format_by, format_of}

pub fills_true : (count value : ℕ) (bytes : List ℕ) → IsFilled count value bytes → count ≤ length bytes → is_filled count value bytes ≡ true
fills_true zero value bytes h long = refl
fills_true (suc n) value [] h long = absurd (omega arith)
fills_true (suc n) value (byte ∷ bytes) h long =
    let first : (byte == value) ≡ true = eq-eqb byte value (h 0 (omega arith)) in
    let rest : is_filled n value bytes ≡ true = fills_true n value bytes (λ k lt. h (suc k) (omega arith)) (omega arith) in
    (λ i. first i && rest i)

pub format_is_1 : (bytes : List ℕ) → get_or bytes 44 0 ≡ 0xF1 → format_of bytes ≡ F1
format_is_1 bytes code = λ i. format_by (code i) (is_filled 4 0x03 bytes) (is_filled 44 0x04 bytes) (is_filled 4 0x05 bytes) (is_filled 140 0 bytes)

pub format_is_4 : (bytes : List ℕ) → length bytes ≡ 140 → get_or bytes 44 0 ≡ 0xF4 → IsFilled 44 0x04 bytes → format_of bytes ≡ F4
format_is_4 bytes long code h =
    let four = fills_true 44 0x04 bytes h (omega arith) in
    (λ i. format_by (code i) (is_filled 4 0x03 bytes) (four i) (is_filled 4 0x05 bytes) (is_filled 140 0 bytes))

pub format_is_5 : (bytes : List ℕ) → length bytes ≡ 140 → get_or bytes 44 0 ≡ 0xF5 → IsFilled 4 0x05 bytes → format_of bytes ≡ F5
format_is_5 bytes long code h =
    let five = fills_true 4 0x05 bytes h (omega arith) in
    (λ i. format_by (code i) (is_filled 4 0x03 bytes) (is_filled 44 0x04 bytes) (five i) (is_filled 140 0 bytes))

pub format_is_free : (bytes : List ℕ) → length bytes ≡ 140 → IsFilled 140 0 bytes → format_of bytes ≡ Free
format_is_free bytes long h =
    let code : get_or bytes 44 0 ≡ 0 = h 44 (omega arith) in
    let zeros = fills_true 140 0 bytes h (omega arith) in
    (λ i. format_by (code i) (is_filled 4 0x03 bytes) (is_filled 44 0x04 bytes) (is_filled 4 0x05 bytes) (zeros i))

pub format_is_3 : (bytes : List ℕ) → length bytes ≡ 140 → get_or bytes 44 0 ≡ 0xF3 → IsFilled 4 0x03 bytes → format_of bytes ≡ F3
format_is_3 bytes long code h =
    let three = fills_true 4 0x03 bytes h (omega arith) in
    (λ i. format_by (code i) (three i) (is_filled 44 0x04 bytes) (is_filled 4 0x05 bytes) (is_filled 140 0 bytes))

-- ---- a record that is none

fills_false : (count value : ℕ) (bytes : List ℕ) (place : ℕ) → place < count → place < length bytes → get_or bytes place 0 ≢ value → is_filled count value bytes ≡ false
fills_false zero value bytes place lt within other = absurd (omega arith)
fills_false (suc n) value [] place lt within other = absurd (omega arith)
fills_false (suc n) value (byte ∷ bytes) zero lt within other = ap (λ (b : Bool). b && is_filled n value bytes) (not_same byte value other)
  where
    not_same : (a b : ℕ) → a ≢ b → (a == b) ≡ false
    not_same a b apart = grind (arith, nat_tests)
fills_false (suc n) value (byte ∷ bytes) (suc place) lt within other =
    ap (λ (b : Bool). (byte == value) && b) (fills_false n value bytes place (omega arith) (omega arith) other) ∙ and_false (byte == value)
  where
    and_false : (b : Bool) → (b && false) ≡ false
    and_false true = refl
    and_false false = refl

other_code : (code n : ℕ) → code ≡ n → 0 < n → code ≢ 0
other_code code n is some none = omega (arith, is, some, none)

no_zeros : (bytes : List ℕ) → length bytes ≡ 140 → get_or bytes 44 0 ≢ 0 → is_filled 140 0 bytes ≡ false
no_zeros bytes long other = fills_false 140 0 bytes 44 (omega arith) (omega arith) other

no_format : (code : ℕ) (three four five zeros : Bool) → NamesNoFormat code → zeros ≡ false → format_by code three four five zeros ≡ Broken
no_format code three four five zeros h none =
    (λ i. format_by code three four five (none i))
    ∙ (λ i.
    if one i then F1
    else if (three_is i) && three then F3
    else if (four_is i) && four then F4
    else if (five_is i) && five then F5
    else Broken)
  where
    not_same : (a b : ℕ) → a ≢ b → (a == b) ≡ false
    not_same a b apart = grind (arith, nat_tests)

    one : (code == 0xF1) ≡ false
    one = not_same code 0xF1 h.not_1

    three_is : (code == 0xF3) ≡ false
    three_is = not_same code 0xF3 h.not_3

    four_is : (code == 0xF4) ≡ false
    four_is = not_same code 0xF4 h.not_4

    five_is : (code == 0xF5) ≡ false
    five_is = not_same code 0xF5 h.not_5

pub format_is_broken : (bytes : List ℕ) (fault : DscbFault) → length bytes ≡ 140 → IsDscbFault bytes fault → format_of bytes ≡ Broken
format_is_broken bytes (BadDscb byte why) long (rules.Format, named, h) =
    no_format (get_or bytes 44 0) (is_filled 4 0x03 bytes) (is_filled 44 0x04 bytes) (is_filled 4 0x05 bytes) (is_filled 140 0 bytes) h.1 (no_zeros bytes long h.1.not_free)
format_is_broken bytes (BadDscb byte why) long (rules.NotZero, named, h) =
    let zeros = fills_false 140 0 bytes byte h.1.within (omega (arith, long, h.1.within)) h.1.other in
    (λ i. format_by (h.0 i) (is_filled 4 0x03 bytes) (is_filled 44 0x04 bytes) (is_filled 4 0x05 bytes) (zeros i))
format_is_broken bytes (BadDscb byte why) long (rules.KeyId, named, h) = by_id h
  where
    by_id : IsWrong bytes rules.KeyId byte → format_of bytes ≡ Broken
    by_id (inl w) =
        let three = fills_false 4 0x03 bytes byte w.1.within (omega (arith, long, w.1.within)) w.1.other in
        (λ i. format_by (w.0 i) (three i) (is_filled 44 0x04 bytes) (is_filled 4 0x05 bytes) (no_zeros bytes long (other_code (get_or bytes 44 0) _ w.0 (omega arith)) i))
    by_id (inr (inl w)) =
        let four = fills_false 44 0x04 bytes byte w.1.within (omega (arith, long, w.1.within)) w.1.other in
        (λ i. format_by (w.0 i) (is_filled 4 0x03 bytes) (four i) (is_filled 4 0x05 bytes) (no_zeros bytes long (other_code (get_or bytes 44 0) _ w.0 (omega arith)) i))
    by_id (inr (inr w)) =
        let five = fills_false 4 0x05 bytes byte w.1.within (omega (arith, long, w.1.within)) w.1.other in
        (λ i. format_by (w.0 i) (is_filled 4 0x03 bytes) (is_filled 44 0x04 bytes) (five i) (no_zeros bytes long (other_code (get_or bytes 44 0) _ w.0 (omega arith)) i))
