-- No token stands behind the columns that are read.
use Rattle.std.proofs.Common.{◌≡◌, ℕ, suc, ◌+◌, ◌-◌, ◌≤◌, List, [], ◌∷◌, ◌++◌, length, refl, ap, Bool, true, false, All, take, arith, length-take}
use Rattle.std.specs.Prelude.{if◌then◌else◌}
use Rattle.std.specs.List.{flat_map}
use Rattle.std.proofs.lemmas.List.Elements.{All-nil, All-cons, All-append, All-head, All-tail}
use Rattle.sysin_text.specs.declared.token.Placed.{Placed}
use Rattle.sysin_text.specs.Lines.{lines_of}
use Rattle.sysin_text.specs.Cleaning.{columns, inside, bytes_read, cleaned, is_mark, before_mark, read_of, goes_on}
use Rattle.sysin_text.specs.Signs.{token_of, width_of}
use Rattle.sysin_text.specs.Tokens.{tokens_in, before_lines, joined, started, tokens_of}

abbrev pub IsRead : Placed → Type 0
IsRead placed = placed.column ≤ 72

if_read : (b : Bool) (x : Placed) (a c : List Placed) → IsRead x → All IsRead a → All IsRead c → All IsRead (if b then x ∷ a else c)
if_read true x a c r s t = All-cons IsRead x a r s
if_read false x a c r s t = t

in_columns : (line column left : ℕ) (bytes : List ℕ) → column + length bytes ≤ 73 → All IsRead (tokens_in line column left bytes)
in_columns line column left [] few = All-nil IsRead
in_columns line column left (byte ∷ rest) few =
    let here : column ≤ 72 = omega (arith, few) in
    let behind : (column + 1) + length rest ≤ 73 = omega (arith, few) in
    if_read _ (record { token = token_of byte rest; line = line; column = column; starts = false }) (tokens_in line (column + 1) (width_of (token_of byte rest) - 1) rest) (tokens_in line (column + 1) (left - 1) rest)
    here (in_columns line (column + 1) (width_of (token_of byte rest) - 1) rest behind) (in_columns line (column + 1) (left - 1) rest behind)

if_short : (b : Bool) (byte : ℕ) (text rest : List ℕ) → length text ≤ length rest → length (if b then [] else byte ∷ text) ≤ suc (length rest)
if_short true byte text rest few = omega arith
if_short false byte text rest few = let goal : suc (length text) ≤ suc (length rest) = omega (arith, few) in goal

before_short : (bytes : List ℕ) → length (before_mark bytes) ≤ length bytes
before_short [] = omega arith
before_short (byte ∷ rest) = if_short (is_mark (byte ∷ rest)) byte (before_mark rest) rest (before_short rest)

as_long : (left : ℕ) (bytes : List ℕ) → length (bytes_read left bytes) ≡ length bytes
as_long left [] = refl
as_long left (byte ∷ rest) = ap suc (as_long (inside left (byte ∷ rest) - 1) rest)

read_short : (line : List ℕ) → length (read_of line) ≤ 72
read_short line =
    let before : length (before_mark (cleaned line)) ≤ length (cleaned line) = before_short (cleaned line) in
    let long : length (cleaned line) ≡ length (take columns line) = as_long 0 (take columns line) in
    omega (arith, before, long, length-take 72 line)

-- the same of each of several lines
abbrev Each : List (List Placed) → Type 0
Each [] = Unit {0}
Each (line ∷ lines) = All IsRead line × Each lines

before_each : (on : Bool) (line : List Placed) (lines : List (List Placed)) → All IsRead line → Each lines → Each (before_lines on line lines)
before_each false line lines a e = (a, e)
before_each true line [] a e = (a, tt)
before_each true line (first ∷ lines) a e = (All-append IsRead line first a e.0, e.1)

each_joined : (number : ℕ) (lines : List (List ℕ)) → Each (joined number lines)
each_joined number [] = tt
each_joined number (line ∷ lines) =
    let short : length (read_of line) ≤ 72 = read_short line in
    before_each (goes_on line) (tokens_in number 1 0 (read_of line)) (joined (number + 1) lines) (in_columns number 1 0 (read_of line) (omega (arith, short))) (each_joined (number + 1) lines)

started_read : (line : List Placed) → All IsRead line → All IsRead (started line)
started_read [] a = a
started_read (first ∷ rest) a = All-cons IsRead (record first { starts = true }) rest (All-head IsRead first rest a) (All-tail IsRead first rest a)

all_read : (lines : List (List Placed)) → Each lines → All IsRead (flat_map started lines)
all_read [] e = All-nil IsRead
all_read (line ∷ lines) e = All-append IsRead (started line) (flat_map started lines) (started_read line e.0) (all_read lines e.1)

text_read : (text : List ℕ) → All IsRead (tokens_of text)
text_read text = all_read (joined 1 (lines_of text)) (each_joined 1 (lines_of text))

behind_front : (front : List Placed) (placed : Placed) (rest : List Placed) → All IsRead (front ++ placed ∷ rest) → IsRead placed
behind_front [] placed rest a = All-head IsRead placed rest a
behind_front (x ∷ front) placed rest a = behind_front front placed rest (All-tail IsRead x (front ++ placed ∷ rest) a)

-- a token of a text stands in the columns that are read
pub stands_in : (text : List ℕ) (front : List Placed) (placed : Placed) (rest : List Placed) → tokens_of text ≡ front ++ placed ∷ rest → placed.column ≤ 72
stands_in text front placed rest e = behind_front front placed rest (Rattle.std.proofs.Common.subst (λ (l : List Placed). All IsRead l) e (text_read text))
