-- A format 4 that is written.
use Rattle.std.proofs.Common.{◌≡◌, ℕ, ◌+◌, List, [], ◌∷◌, ◌++◌, length, take, drop, replicate, get_or, bit_and, sym, ap, ◌∙◌, arith, length-append, length-drop, append_assoc}
use Rattle.std.proofs.lemmas.List.{length-take-le, take_at, drop_at, drop-drop, take-take, get_or-drop, get_or-take}
use Rattle.std.proofs.lemmas.Nat.{and_assoc}
use Rattle.std.proofs.Math.Seq.{take-append-add, drop-append-add}
use Rattle.ckd_image.specs.Body.{over}
use Rattle.volume_model.specs.declared.format.Format.TheVariants.{F4}
use Rattle.volume_model.specs.Dscbs.{format_of}
use Rattle.volume_model.specs.Reads.{fields_of_4}
use Rattle.vtoc_core.proofs.Written.{same_format}
use Rattle.vtoc_core.proofs.Overs.{get_before}

-- counts, indicators, and what stands between and behind them
module _ (d p q : List ℕ) (long : length d ≡ 140) (five : length p ≡ 5) (two : length q ≡ 2) where
  abbrev pub counted : List ℕ
  counted = take 45 d ++ (p ++ (q ++ drop 52 d))

  abbrev pub front : List ℕ
  front = take 45 d ++ (p ++ q)

  abbrev pub between : List ℕ
  between = take 6 (drop 52 d)

  abbrev pub stated : ℕ → List ℕ
  stated byte = take 45 d ++ (p ++ (q ++ (between ++ (byte ∷ drop 59 d))))

  long_front : length front ≡ 52
  long_front = omega (arith, length-append (take 45 d) (p ++ q), length-append p q, length-take-le 45 d (omega (arith, long)), five, two)

  long_between : length between ≡ 6
  long_between = length-take-le 6 (drop 52 d) (omega (arith, long, length-drop 52 d))

  regroup : (rest : List ℕ) → take 45 d ++ (p ++ (q ++ rest)) ≡ front ++ rest
  regroup rest = simp (append_assoc)

  to_58 : 58 ≡ length front + 6
  to_58 = omega (arith, long_front)

  to_59 : 59 ≡ length front + 7
  to_59 = omega (arith, long_front)

  take_58 : take 58 counted ≡ front ++ between
  take_58 =
      ap (take 58) (regroup (drop 52 d)) ∙ ap (λ (n : ℕ). take n (front ++ drop 52 d)) to_58 ∙ take-append-add front (drop 52 d) 6

  drop_59 : drop 59 counted ≡ drop 59 d
  drop_59 =
      ap (drop 59) (regroup (drop 52 d)) ∙ ap (λ (n : ℕ). drop n (front ++ drop 52 d)) to_59 ∙ drop-append-add front (drop 52 d) 7 ∙ drop-drop 7 52 d

  pub made_is : (byte : ℕ) → over 58 (byte ∷ []) counted ≡ stated byte
  made_is byte = (λ i. take_58 i ++ (byte ∷ drop_59 i)) ∙ grouped
    where
      grouped : (front ++ between) ++ (byte ∷ drop 59 d) ≡ stated byte
      grouped = append_assoc front between (byte ∷ drop 59 d) ∙ sym (regroup (between ++ (byte ∷ drop 59 d)))

  -- ---- what it says

  module _ (byte : ℕ) where
    take_45 : take 45 (stated byte) ≡ take 45 d
    take_45 = take_at (take 45 d) (p ++ (q ++ (between ++ (byte ∷ drop 59 d)))) 45 (length-take-le 45 d (omega (arith, long)))

    drop_52 : drop 52 (stated byte) ≡ between ++ (byte ∷ drop 59 d)
    drop_52 = ap (drop 52) (regroup (between ++ (byte ∷ drop 59 d))) ∙ drop_at front (between ++ (byte ∷ drop 59 d)) 52 long_front

    take_6 : take 6 (drop 52 (stated byte)) ≡ between
    take_6 = ap (take 6) drop_52 ∙ take_at between (byte ∷ drop 59 d) 6 long_between

    drop_58 : drop 58 (stated byte) ≡ byte ∷ drop 59 d
    drop_58 = sym (drop-drop 6 52 (stated byte)) ∙ ap (drop 6) drop_52 ∙ drop_at between (byte ∷ drop 59 d) 6 long_between

    at_58 : get_or (stated byte) 58 0 ≡ byte
    at_58 = sym (get_or-drop 58 (stated byte) 0 0) ∙ ap (λ (bytes : List ℕ). get_or bytes 0 0) drop_58

    behind : drop 59 (stated byte) ≡ drop 59 d
    behind = sym (drop-drop 1 58 (stated byte)) ∙ ap (drop 1) drop_58

    same_44 : take 44 (stated byte) ≡ take 44 d
    same_44 = sym (take-take 44 45 (stated byte) (omega arith)) ∙ ap (take 44) take_45 ∙ take-take 44 45 d (omega arith)

    same_code : get_or (stated byte) 44 0 ≡ get_or d 44 0
    same_code =
        sym (get_or-take 45 (stated byte) 44 0 (omega arith)) ∙ ap (λ (bytes : List ℕ). get_or bytes 44 0) take_45 ∙ get_or-take 45 d 44 0 (omega arith)

    pub still_4 : format_of d ≡ F4 → format_of (stated byte) ≡ F4
    still_4 is = same_format d (stated byte) F4 same_44 same_code tt is

    pub same_fields : byte ≡ bit_and (get_or d 58 0) 0x7B → fields_of_4 (stated byte) ≡ fields_of_4 d
    same_fields is = (λ i. take_45 i ++ (replicate 7 0 ++ (take_6 i ++ (indicators i ∷ behind i))))
      where
        indicators : bit_and (get_or (stated byte) 58 0) 0x7B ≡ bit_and (get_or d 58 0) 0x7B
        indicators = ap (λ (b : ℕ). bit_and b 0x7B) (at_58 ∙ is) ∙ and_assoc 0x7B (get_or d 58 0) 0x7B

-- the indicators alone
pub marked_4 : (d : List ℕ) (byte : ℕ) → length d ≡ 140 → format_of d ≡ F4 → format_of (over 58 (byte ∷ []) d) ≡ F4
marked_4 d byte long is =
    same_format d (over 58 (byte ∷ []) d) F4
    take_part
    (get_before 58 (byte ∷ []) d 44 (omega (arith, long)) (omega arith)) tt is
  where
    take_part : take 44 (over 58 (byte ∷ []) d) ≡ take 44 d
    take_part =
        sym (take-take 44 58 (over 58 (byte ∷ []) d) (omega arith))
        ∙ ap (take 44) (take_at (take 58 d) (byte ∷ drop 59 d) 58 (length-take-le 58 d (omega (arith, long))))
        ∙ take-take 44 58 d (omega arith)
