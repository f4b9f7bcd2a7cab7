-- Tokens are taken one by one.
use Rattle.std.proofs.Common.{◌≡◌, ◌≢◌, ℕ, zero, suc, ◌+◌, ◌-◌, ◌<◌, ◌≤◌, List, [], ◌∷◌, ◌++◌, length, drop, get_or, refl, sym, ap, ◌∙◌, arith, Bool, true, false, Some}
use Rattle.std.proofs.lemmas.List.{drop_all, drop_more, drop-drop}
use Rattle.std.proofs.lemmas.Bool.Decides.{Decides-eqb, nat_tests}
use Rattle.std.specs.Prelude.{if◌then◌else◌, ◌==◌, ◌&&◌, ◌||◌, not}
use Rattle.std.specs.List.{flat_map}
use Rattle.sysin_text.specs.declared.token.Token.{Token}
use Rattle.sysin_text.specs.declared.token.Placed.{Placed}
use Rattle.sysin_text.specs.Lines.{lines_of}
use Rattle.sysin_text.specs.Cleaning.{goes_on, read_of}
use Rattle.sysin_text.specs.Signs.{token_of, width_of, front_of}
use Rattle.sysin_text.specs.Tokens.{tokens_in, before_lines, joined, started}
use Rattle.sysin_text.specs.Left.{tokens_behind, tokens_from, tokens_left}
use Rattle.ckd_image.proofs.Bools.{if_true, if_false}
use Rattle.std.proofs.Math.Bool.{or-false, or-true}

-- a blank is passed
pub blank_passed : (number place : ℕ) (bytes : List ℕ) → place < length bytes → get_or bytes place 0 ≡ 32 → tokens_behind number (place + 1) bytes ≡ tokens_behind number place bytes
blank_passed number place bytes lt blank =
    sym (ap (tokens_in number (place + 1) 0) (drop_more bytes place 0 lt) ∙ ap (λ (b : ℕ). tokens_in number (place + 1) 0 (b ∷ drop (place + 1) bytes)) blank)

not_zero : (n : ℕ) → (suc n == 0) ≡ false
not_zero n = grind (arith, nat_tests)

-- bytes of a token that began before them are passed
passed : (number column left : ℕ) (bytes : List ℕ) → tokens_in number column left bytes ≡ tokens_in number (column + left) 0 (drop left bytes)
passed number column zero bytes = ap (λ (c : ℕ). tokens_in number c 0 bytes) (omega arith)
passed number column (suc left) [] = refl
passed number column (suc left) (byte ∷ rest) =
    if_false ((suc left == 0) && not (byte == 32)) (record { token = token_of byte rest; line = number; column = column; starts = false } ∷ tokens_in number (column + 1) (width_of (token_of byte rest) - 1) rest)
    (tokens_in number (column + 1) (suc left - 1) rest) (ap (λ (b : Bool). b && not (byte == 32)) (not_zero left))
    ∙ ap (λ (l : ℕ). tokens_in number (column + 1) l rest) (omega arith) ∙ passed number (column + 1) left rest ∙ ap (λ (c : ℕ). tokens_in number c 0 (drop left rest)) (omega arith)

no_blank : (byte : ℕ) → byte ≢ 32 → (blank : Bool) → (byte == 32) ≡ blank → not blank ≡ true
no_blank byte n true e = absurd (n ((Decides-eqb byte 32).0 e))
no_blank byte n false e = refl

abbrev pub placed : Token → ℕ → ℕ → Bool → Placed
placed token number place starts = record { token = token; line = number; column = place + 1; starts = starts }

-- a token is taken
pub token_taken : (number place : ℕ) (bytes : List ℕ) (token : Token) → place < length bytes → get_or bytes place 0 ≢ 32 → front_of (drop place bytes) ≡ Some token → 1 ≤ width_of token
    → tokens_behind number place bytes ≡ placed token number place false ∷ tokens_behind number (place + width_of token) bytes
token_taken number place bytes token lt n front wide =
    let byte : ℕ = get_or bytes place 0 in
    let rest : List ℕ = drop (place + 1) bytes in
    let here : drop place bytes ≡ byte ∷ rest = drop_more bytes place 0 lt in
    let is : token_of byte rest ≡ token = (let s : Some (token_of byte rest) ≡ Some token = ap front_of (sym here) ∙ front in cc) in
    ap (tokens_in number (place + 1) 0) here
    ∙ if_true (not (byte == 32)) (placed (token_of byte rest) number place false ∷ tokens_in number (place + 1 + 1) (width_of (token_of byte rest) - 1) rest) (tokens_in number (place + 1 + 1) 0 rest) (no_blank byte n (byte == 32) refl)
    ∙ ap (λ (t : Token). placed t number place false ∷ tokens_in number (place + 1 + 1) (width_of t - 1) rest) is
    ∙ ap (λ (t : List Placed). placed token number place false ∷ t)
    (passed number (place + 1 + 1) (width_of token - 1) rest
    ∙ ap (λ (b : List ℕ). tokens_in number (place + 1 + 1 + (width_of token - 1)) 0 b) (drop-drop (width_of token - 1) (place + 1) bytes ∙ ap (λ (k : ℕ). drop k bytes) (omega arith))
    ∙ ap (λ (c : ℕ). tokens_in number c 0 (drop (place + width_of token) bytes)) (omega arith))

-- the first of what is left
marked : (starts : Bool) (first : Placed) (more : List Placed) → (if starts then started (first ∷ more) else first ∷ more) ≡ (if starts then record first { starts = true } else first) ∷ more
marked true first more = refl
marked false first more = refl

abbrev marked_as : Bool → Token → ℕ → ℕ → Placed
marked_as starts token number place = if starts then record (placed token number place false) { starts = true } else placed token number place false

starts_is : (starts : Bool) (token : Token) (number place : ℕ) → marked_as starts token number place ≡ placed token number place starts
starts_is true token number place = refl
starts_is false token number place = refl

from_first : (starts on : Bool) (first : Placed) (more : List Placed) (lines : List (List Placed))
    → tokens_from starts (before_lines on (first ∷ more) lines) ≡ (if starts then record first { starts = true } else first) ∷ tokens_from false (before_lines on more lines)
from_first starts true first more [] = ap (λ (t : List Placed). t ++ []) (marked starts first more)
from_first starts true first more (line ∷ lines) = ap (λ (t : List Placed). t ++ flat_map started lines) (marked starts first (more ++ line))
from_first starts false first more lines = ap (λ (t : List Placed). t ++ flat_map started lines) (marked starts first more)

pub left_taken : (starts on : Bool) (number place : ℕ) (bytes rest : List ℕ) (token : Token) → place < length bytes → get_or bytes place 0 ≢ 32 → front_of (drop place bytes) ≡ Some token → 1 ≤ width_of token
    → tokens_left starts number place bytes on rest ≡ placed token number place starts ∷ tokens_left false number (place + width_of token) bytes on rest
left_taken starts on number place bytes rest token lt n front wide =
    let lines = joined (number + 1) (lines_of rest) in
    ap (λ (t : List Placed). tokens_from starts (before_lines on t lines)) (token_taken number place bytes token lt n front wide)
    ∙ from_first starts on (placed token number place false) (tokens_behind number (place + width_of token) bytes) lines
    ∙ ap (λ (t : Placed). t ∷ tokens_left false number (place + width_of token) bytes on rest) (starts_is starts token number place)

-- ---- a line is done

pub line_done : (number : ℕ) (bytes : List ℕ) (place : ℕ) → length bytes ≤ place → tokens_behind number place bytes ≡ []
line_done number bytes place le = ap (tokens_in number (place + 1) 0) (drop_all place bytes le)

empty_front : (starts : Bool) → (if starts then started [] else []) ≡ []
empty_front true = refl
empty_front false = refl

goes_to : (starts on next : Bool) (tokens : List Placed) (lines : List (List Placed))
    → tokens_from (starts || not on) (before_lines next tokens lines) ≡ tokens_from starts (before_lines on [] (before_lines next tokens lines))
goes_to starts true true tokens [] = ap (λ (b : Bool). tokens_from b (tokens ∷ [])) (or-false starts)
goes_to starts true true tokens (line ∷ lines) = ap (λ (b : Bool). tokens_from b ((tokens ++ line) ∷ lines)) (or-false starts)
goes_to starts true false tokens lines = ap (λ (b : Bool). tokens_from b (tokens ∷ lines)) (or-false starts)
goes_to starts false true tokens [] =
    ap (λ (b : Bool). tokens_from b (tokens ∷ [])) (or-true starts) ∙ sym (ap (λ (t : List Placed). t ++ flat_map started (tokens ∷ [])) (empty_front starts))
goes_to starts false true tokens (line ∷ lines) =
    ap (λ (b : Bool). tokens_from b ((tokens ++ line) ∷ lines)) (or-true starts) ∙ sym (ap (λ (t : List Placed). t ++ flat_map started ((tokens ++ line) ∷ lines)) (empty_front starts))
goes_to starts false false tokens lines =
    ap (λ (b : Bool). tokens_from b (tokens ∷ lines)) (or-true starts) ∙ sym (ap (λ (t : List Placed). t ++ flat_map started (tokens ∷ lines)) (empty_front starts))

pub next_line : (starts on : Bool) (number place : ℕ) (bytes rest line behind : List ℕ) → tokens_behind number place bytes ≡ [] → lines_of rest ≡ line ∷ lines_of behind
    → tokens_left (starts || not on) (number + 1) 0 (read_of line) (goes_on line) behind ≡ tokens_left starts number place bytes on rest
next_line starts on number place bytes rest line behind done split =
    goes_to starts on (goes_on line) (tokens_in (number + 1) 1 0 (read_of line)) (joined (number + 1 + 1) (lines_of behind))
    ∙ sym (ap (λ (t : List Placed). tokens_from starts (before_lines on t (joined (number + 1) (lines_of rest)))) done ∙ ap (λ (l : List (List ℕ)). tokens_from starts (before_lines on [] (joined (number + 1) l))) split)

nothing : (starts on : Bool) → tokens_from starts (before_lines on [] []) ≡ []
nothing true true = refl
nothing true false = refl
nothing false true = refl
nothing false false = refl

pub no_line : (starts on : Bool) (number place : ℕ) (bytes rest : List ℕ) → tokens_behind number place bytes ≡ [] → rest ≡ [] → tokens_left starts number place bytes on rest ≡ []
no_line starts on number place bytes rest done ended =
    ap (λ (t : List Placed). tokens_from starts (before_lines on t (joined (number + 1) (lines_of rest)))) done ∙ ap (λ (r : List ℕ). tokens_from starts (before_lines on [] (joined (number + 1) (lines_of r)))) ended
    ∙ nothing starts on
