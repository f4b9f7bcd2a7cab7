-- Numbers in three digits, and bytes in hexadecimal.
use Rattle.std.proofs.Common.{◌≡◌, ℕ, ◌+◌, ◌-◌, ◌^◌, ◌<◌, ◌≤◌, List, [], ◌∷◌, ◌++◌, map, get_or, ◌/◌, ◌%◌, true, false, Option, Some, inl, inr, refl, sym, ap, ◌∙◌, arith}
use Rattle.std.specs.Prelude.{codes, option_map}
use Rattle.std.specs.List.{range_with_len}
use Rattle.std.specs.Fmt.{decimal, digits, digit_glyph, char_count, padded_integral, format_spec}
use Rattle.std.proofs.lemmas.Bool.{cases_lt}
use Rattle.std.proofs.lemmas.Fmt.{decimal_digit, decimal_step, hex_byte}
use Rattle.std.proofs.lemmas.List.FromFn.{get_or-map-range_with_len}
use Rattle.job_lines.specs.Lines.{hex_digit, hex, three}

digit : (d : ℕ) → d < 16 → digit_glyph true d ≡ hex_digit d
digit d lt =
    let here : 0 + d ≡ d = omega arith in
    let table : map (digit_glyph true) (range_with_len 0 16) ≡ codes "0123456789ABCDEF" = refl in
    sym (get_or-map-range_with_len (digit_glyph true) 0 16 d d 0 lt here) ∙ ap (λ (t : List ℕ). get_or t d 0) table

-- what a hole for two capital digits writes
pub hex_hole : (written : Option (List ℕ)) (n : ℕ) → n < 256 → written ≡ Some (digits 16 true n)
    → option_map (padded_integral (format_spec 32 0 4 2 18446744073709551615) false []) written ≡ Some (hex n)
hex_hole written n small is =
    (λ i. option_map (padded_integral (format_spec 32 0 4 2 18446744073709551615) false []) (is i))
    ∙ ap Some (hex_byte true n small ∙ (λ i. digit (n / 16) (omega arith) i ∷ digit (n % 16) (omega arith) i ∷ []))

-- ---- numbers in three digits

decimal_two : (n : ℕ) → 10 ≤ n → n < 100 → decimal n ≡ (48 + n / 10) ∷ (48 + n % 10) ∷ []
decimal_two n large small = decimal_step n large (omega arith) ∙ ap (λ (t : List ℕ). t ++ ((48 + n % 10) ∷ [])) (decimal_digit (n / 10) (omega arith))

decimal_three : (n : ℕ) → 100 ≤ n → n < 1000 → decimal n ≡ (48 + n / 100) ∷ (48 + n / 10 % 10) ∷ (48 + n % 10) ∷ []
decimal_three n large small =
    let front : n / 10 / 10 ≡ n / 100 = omega arith in
    decimal_step n (omega arith) (omega arith)
    ∙ ap (λ (t : List ℕ). t ++ ((48 + n % 10) ∷ [])) (decimal_two (n / 10) (omega arith) (omega arith))
    ∙ ap (λ (d : ℕ). (48 + d) ∷ (48 + n / 10 % 10) ∷ (48 + n % 10) ∷ []) front

-- what a hole for three digits writes
three_hole : (n : ℕ) → n < 1000 → padded_integral (format_spec 32 0 4 3 (2 ^ 64 - 1)) false [] (decimal n) ≡ three n
unfolding padded_integral char_count
three_hole n small =
    elim (cases_lt n 10) [
      | inl one ↦
          let first : n / 100 % 10 ≡ 0 = omega arith in
          let second : n / 10 % 10 ≡ 0 = omega arith in
          let last : n % 10 ≡ n = omega arith in
          rw (decimal_digit n one, first, second, last)
      | inr more ↦
          elim (cases_lt n 100) [
            | inl two ↦
                let first : n / 100 % 10 ≡ 0 = omega arith in
                let second : n / 10 % 10 ≡ n / 10 = omega arith in
                rw (decimal_two n more two, first, second)
            | inr long ↦ let first : n / 100 % 10 ≡ n / 100 = omega arith in rw (decimal_three n long small, first)
          ]
    ]

last_three : (n : ℕ) → three (n % 1000) ≡ three n
last_three n =
    let first : n % 1000 / 100 % 10 ≡ n / 100 % 10 = omega arith in
    let second : n % 1000 / 10 % 10 ≡ n / 10 % 10 = omega arith in
    let third : n % 1000 % 10 ≡ n % 10 = omega arith in
    (λ i. (48 + first i) ∷ (48 + second i) ∷ (48 + third i) ∷ [])

-- what a hole for three digits writes of a number's last three
pub last_hole : (n : ℕ) → padded_integral (format_spec 32 0 4 3 18446744073709551615) false [] (decimal (n % 1000)) ≡ three n
last_hole n = three_hole (n % 1000) (omega arith) ∙ last_three n
