-- What a format 4 says of its volume after a change, and once it is marked.
use Rattle.std.proofs.Common.{◌≡◌, ℕ, ◌==◌, ◌&&◌, ◌||◌, not, List, ◌∷◌, ◌++◌, length, take, drop, get_or, Bool, true, false, Option, refl, sym, ap, ◌∙◌, arith, length-append, length-drop, append_assoc}
use Rattle.std.specs.Prelude.{bit_and, bit_or, min, replicate}
use Rattle.std.specs.Int.Bits.{and_zero_r}
use Rattle.std.proofs.lemmas.Bool.{and_parts}
use Rattle.std.proofs.lemmas.List.{length-take-le, take_at, drop_at, drop-drop, take-take, get_or-drop, drop-append-le, drop-take}
use Rattle.std.proofs.lemmas.Nat.{and_assoc, and_or_apart}
use Rattle.byteorder.specs.Endian.{big_bytes}
use Rattle.ckd_image.specs.declared.track.Cchhr.{Cchhr}
use Rattle.volume_model.specs.Reads.{fields_of_4, has_index}
use Rattle.volume_model.specs.Sound.{is_valid}
use Rattle.dscb_made.specs.Made.{IsStatedFormat4, IsMarkedFormat4}
use Rattle.dscb_made.specs.Pointers.{pointer_text}
use Rattle.dscb_made.proofs.Makes.{long_pointer}

-- ---- one byte between others

at_58 : (front rest : List ℕ) (byte : ℕ) → length front ≡ 58 → get_or (front ++ (byte ∷ rest)) 58 0 ≡ byte
at_58 front rest byte long = sym (get_or-drop 58 (front ++ (byte ∷ rest)) 0 0) ∙ ap (λ (bytes : List ℕ). get_or bytes 0 0) (drop_at front (byte ∷ rest) 58 long)

from_59 : (front rest : List ℕ) (byte : ℕ) → length front ≡ 58 → drop 59 (front ++ (byte ∷ rest)) ≡ rest
from_59 front rest byte long = sym (drop-drop 1 58 (front ++ (byte ∷ rest))) ∙ ap (drop 1) (drop_at front (byte ∷ rest) 58 long)

whole : (front d : List ℕ) (byte : ℕ) → length front ≡ 58 → length d ≡ 140 → length (front ++ (byte ∷ drop 59 d)) ≡ 140
whole front d byte long all = omega (arith, length-append front (byte ∷ drop 59 d), long, all, length-drop 59 d)

-- ---- a format 4 that states a change

module _ (d bytes : List ℕ) (highest : Option Cchhr) (free : ℕ) (long : length d ≡ 140) (is : IsStatedFormat4 d highest free bytes) where
  abbrev stated : ℕ
  stated = bit_and (get_or d 58 0) 0x7B

  abbrev front : List ℕ
  front = take 45 d ++ (pointer_text highest ++ (big_bytes 2 (min free 65535) ++ take 6 (drop 52 d)))

  two : length (big_bytes 2 (min free 65535)) ≡ 2
  two = refl

  long_front : length front ≡ 58
  long_front =
      omega (
        arith,
        length-append (take 45 d) (pointer_text highest ++ (big_bytes 2 (min free 65535) ++ take 6 (drop 52 d))),
        length-append (pointer_text highest) (big_bytes 2 (min free 65535) ++ take 6 (drop 52 d)),
        length-append (big_bytes 2 (min free 65535)) (take 6 (drop 52 d)),
        length-take-le 45 d (omega (arith, long)),
        length-take-le 6 (drop 52 d) (omega (arith, long, length-drop 52 d)),
        long_pointer highest,
        two,
      )

  parts_are : bytes ≡ front ++ (stated ∷ drop 59 d)
  parts_are = is.bytes_are ∙ four (take 45 d) (pointer_text highest) (big_bytes 2 (min free 65535)) (take 6 (drop 52 d)) (stated ∷ drop 59 d)
    where
      four : (a b c e rest : List ℕ) → a ++ (b ++ (c ++ (e ++ rest))) ≡ (a ++ (b ++ (c ++ e))) ++ rest
      four a b c e rest = simp (append_assoc)

  pub stated_long : length bytes ≡ 140
  stated_long = ap length parts_are ∙ whole front d stated long_front long

  at : get_or bytes 58 0 ≡ stated
  at = ap (λ (b : List ℕ). get_or b 58 0) parts_are ∙ at_58 front (drop 59 d) stated long_front

  -- bits that a change clears are off, and others stay
  off : (bit : ℕ) → bit_and 0x7B bit ≡ 0 → bit_and (get_or bytes 58 0) bit ≡ 0
  off bit none = ap (λ (b : ℕ). bit_and b bit) at ∙ and_assoc bit (get_or d 58 0) 0x7B ∙ ap (bit_and (get_or d 58 0)) none ∙ and_zero_r (get_or d 58 0)

  pub stated_valid : (sliding : Bool) → is_valid sliding bytes ≡ true
  stated_valid sliding = (λ i. (off 0x80 refl i == 0) && (sliding || (off 0x04 refl i == 0))) ∙ by sliding
    where
      by : (t : Bool) → ((0 == 0) && (t || (0 == 0))) ≡ true
      by true = refl
      by false = refl

  pub stated_index : has_index bytes ≡ has_index d
  stated_index = ap (λ (n : ℕ). not (n == 0)) (ap (λ (b : ℕ). bit_and b 0x01) at ∙ and_assoc 0x01 (get_or d 58 0) 0x7B)

-- ---- a format 4 that is marked

module _ (d bytes : List ℕ) (long : length d ≡ 140) (is : IsMarkedFormat4 d bytes) where
  abbrev marked : ℕ
  marked = bit_or (get_or d 58 0) 0x04

  long_58 : length (take 58 d) ≡ 58
  long_58 = length-take-le 58 d (omega (arith, long))

  pub marked_long : length bytes ≡ 140
  marked_long = ap length is.bytes_are ∙ whole (take 58 d) d marked long_58 long

  at_mark : get_or bytes 58 0 ≡ marked
  at_mark = ap (λ (b : List ℕ). get_or b 58 0) is.bytes_are ∙ at_58 (take 58 d) (drop 59 d) marked long_58

  -- other bits stay
  stays : (bit : ℕ) → bit_and 0x04 bit ≡ 0 → bit_and (get_or bytes 58 0) bit ≡ bit_and (get_or d 58 0) bit
  stays bit none = ap (λ (b : ℕ). bit_and b bit) at_mark ∙ and_or_apart bit (get_or d 58 0) 0x04 none

  -- while a slide is open the mark counts as off
  pub marked_valid : (sliding : Bool) → is_valid sliding d ≡ true → is_valid true bytes ≡ true
  marked_valid sliding e =
      (λ i. (stays 0x80 refl i == 0) && true)
      ∙ by (bit_and (get_or d 58 0) 0x80 == 0) (and_parts (bit_and (get_or d 58 0) 0x80 == 0) (sliding || (bit_and (get_or d 58 0) 0x04 == 0)) e).0
    where
      by : (t : Bool) → t ≡ true → (t && true) ≡ true
      by true e = refl
      by false e = e

  pub marked_index : has_index bytes ≡ has_index d
  marked_index = ap (λ (n : ℕ). not (n == 0)) (stays 0x01 refl)

  pub marked_fields : fields_of_4 bytes ≡ fields_of_4 d
  marked_fields = (λ i. take_45 i ++ (replicate 7 0 ++ (take 6 (from_52 i) ++ (stays 0x7B refl i ∷ behind i)))) ∙ ap (λ (xs : List ℕ). take 45 d ++ (replicate 7 0 ++ (xs ++ (bit_and (get_or d 58 0) 0x7B ∷ drop 59 d)))) six
    where
      front_58 : take 58 bytes ≡ take 58 d
      front_58 = ap (take 58) is.bytes_are ∙ take_at (take 58 d) (marked ∷ drop 59 d) 58 long_58

      take_45 : take 45 bytes ≡ take 45 d
      take_45 = sym (take-take 45 58 bytes (omega arith)) ∙ ap (take 45) front_58 ∙ take-take 45 58 d (omega arith)

      behind : drop 59 bytes ≡ drop 59 d
      behind = ap (drop 59) is.bytes_are ∙ from_59 (take 58 d) (drop 59 d) marked long_58

      from_52 : drop 52 bytes ≡ drop 52 (take 58 d ++ (marked ∷ drop 59 d))
      from_52 = ap (drop 52) is.bytes_are

      six : take 6 (drop 52 (take 58 d ++ (marked ∷ drop 59 d))) ≡ take 6 (drop 52 d)
      six =
          ap (take 6) (drop-append-le 52 (take 58 d) (marked ∷ drop 59 d) (omega (arith, long_58))) ∙ ap (λ (xs : List ℕ). take 6 (xs ++ (marked ∷ drop 59 d))) (drop-take 52 6 d)
          ∙ take_at (take 6 (drop 52 d)) (marked ∷ drop 59 d) 6 (length-take-le 6 (drop 52 d) (omega (arith, long, length-drop 52 d)))
