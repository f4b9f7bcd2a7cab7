-- What stands in a string for a byte.
use Rattle.std.proofs.Common.{◌≡◌, ℕ, ◌<◌, ◌≤◌, ◌/◌, ◌%◌, List, [], ◌∷◌, Bool, true, false, cond, ltb, ap, sym, ◌∙◌, arith}
use Rattle.std.proofs.lemmas.Bool.Decides.{nat_tests}
use Rattle.std.specs.Char.{digit_char}
use Rattle.json.specs.Print.{escape_byte, escape_letter}

pub escape_short : (byte short : ℕ) → short ≡ escape_letter byte → 0 < short → 92 ∷ short ∷ [] ≡ escape_byte byte
unfolding escape_byte
escape_short byte short is some =
    let long : List ℕ = cond (ltb byte 32) (92 ∷ 117 ∷ 48 ∷ 48 ∷ digit_char (byte / 16) ∷ digit_char (byte % 16) ∷ []) (byte ∷ []) in
    let letter : List ℕ = 92 ∷ escape_letter byte ∷ [] in
    let some_is : ltb 0 (escape_letter byte) ≡ true = grind (arith, nat_tests) in
    ap (λ (n : ℕ). 92 ∷ n ∷ []) is ∙ sym (ap (λ (b : Bool). cond b letter long) some_is)

pub escape_long : (byte short : ℕ) → short ≡ escape_letter byte → short ≤ 0 → byte < 32 → 92 ∷ 117 ∷ 48 ∷ 48 ∷ digit_char (byte / 16) ∷ digit_char (byte % 16) ∷ [] ≡ escape_byte byte
unfolding escape_byte
escape_long byte short is none low =
    let long : List ℕ = 92 ∷ 117 ∷ 48 ∷ 48 ∷ digit_char (byte / 16) ∷ digit_char (byte % 16) ∷ [] in
    let letter : List ℕ = 92 ∷ escape_letter byte ∷ [] in
    sym (ap (λ (b : Bool). cond b letter (cond (ltb byte 32) long (byte ∷ []))) (let zero_is : ltb 0 (escape_letter byte) ≡ false = grind (arith, nat_tests) in zero_is)
    ∙ ap (λ (b : Bool). cond b long (byte ∷ [])) (let low_is : ltb byte 32 ≡ true = grind (arith, nat_tests) in low_is))

pub escape_plain : (byte short : ℕ) → short ≡ escape_letter byte → short ≤ 0 → 32 ≤ byte → byte ∷ [] ≡ escape_byte byte
unfolding escape_byte
escape_plain byte short is none high =
    let long : List ℕ = 92 ∷ 117 ∷ 48 ∷ 48 ∷ digit_char (byte / 16) ∷ digit_char (byte % 16) ∷ [] in
    let letter : List ℕ = 92 ∷ escape_letter byte ∷ [] in
    sym (ap (λ (b : Bool). cond b letter (cond (ltb byte 32) long (byte ∷ []))) (let zero_is : ltb 0 (escape_letter byte) ≡ false = grind (arith, nat_tests) in zero_is)
    ∙ ap (λ (b : Bool). cond b long (byte ∷ [])) (let high_is : ltb byte 32 ≡ false = grind (arith, nat_tests) in high_is))
