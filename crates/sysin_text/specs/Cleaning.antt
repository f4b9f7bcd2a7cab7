-- A line as it is read: its columns, comments, blanks and capitals, and whether it goes on in the next.
use Rattle.std.specs.Prelude.{ℕ, ◌+◌, ◌-◌, Bool, false, ◌&&◌, ◌||◌, ◌==◌, if◌then◌else◌, List, [], ◌∷◌, take, Option, Some, None}
use Rattle.std.specs.List.{list_all}
use Rattle.std.specs.Option.{option_map, option_map_or}
use Rattle.std.specs.Char.{to_ascii_uppercase}

-- whether these two bytes stand in front
abbrev pub begins_with : ℕ → ℕ → List ℕ → Bool
begins_with a b [] = false
begins_with a b (first ∷ []) = false
begins_with a b (first ∷ second ∷ rest) = (first == a) && (second == b)

-- how many bytes there are up to the first `*/` and with it
abbrev pub close_of : List ℕ → Option ℕ
close_of [] = None
close_of (byte ∷ rest) = if begins_with 42 47 (byte ∷ rest) then Some 2 else option_map (λ n. n + 1) (close_of rest)

-- how many bytes the comment has that stands in front, from `/*` to the first `*/` behind these two; 0 where none does
abbrev pub comment_of : List ℕ → ℕ
comment_of [] = 0
comment_of (first ∷ []) = 0
comment_of (first ∷ second ∷ rest) = if (first == 47) && (second == 42) then option_map_or (λ n. n + 2) (close_of rest) 0 else 0

-- how many bytes in front are of a comment, where so many are of one that began before them
abbrev pub inside : ℕ → List ℕ → ℕ
inside left bytes = if left == 0 then comment_of bytes else left

-- a byte that is of no comment: a tab counts as a blank, a small letter as its capital
abbrev pub byte_read : ℕ → ℕ
byte_read byte = if byte == 9 then 32 else to_ascii_uppercase byte

-- bytes as they are read, of which so many in front are of a comment that began before them; a comment is blank
abbrev pub bytes_read : ℕ → List ℕ → List ℕ
bytes_read left [] = []
bytes_read left (byte ∷ rest) =
    (if inside left (byte ∷ rest) == 0 then byte_read byte else 32) ∷ bytes_read (inside left (byte ∷ rest) - 1) rest

-- the columns of a line that are read
abbrev pub columns : ℕ
columns = 72

abbrev pub cleaned : List ℕ → List ℕ
cleaned line = bytes_read 0 (take columns line)

-- a blank and a `-` with nothing but blanks behind them: the line goes on in the next
abbrev pub is_mark : List ℕ → Bool
is_mark [] = false
is_mark (first ∷ []) = false
is_mark (first ∷ second ∷ rest) = (first == 32) && (second == 45) && list_all (λ byte. byte == 32) rest

-- whether a cleaned line ends with the mark
abbrev pub has_mark : List ℕ → Bool
has_mark [] = false
has_mark (byte ∷ rest) = is_mark (byte ∷ rest) || has_mark rest

-- a cleaned line up to its mark
abbrev pub before_mark : List ℕ → List ℕ
before_mark [] = []
before_mark (byte ∷ rest) = if is_mark (byte ∷ rest) then [] else byte ∷ before_mark rest

-- what is read of a line
abbrev pub read_of : List ℕ → List ℕ
read_of line = before_mark (cleaned line)

abbrev pub goes_on : List ℕ → Bool
goes_on line = has_mark (cleaned line)
