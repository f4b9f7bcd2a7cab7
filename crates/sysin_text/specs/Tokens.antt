-- The tokens of a text with their places.
use Rattle.std.specs.Prelude.{ℕ, ◌+◌, ◌-◌, Bool, true, false, not, ◌&&◌, ◌==◌, if◌then◌else◌, List, [], ◌∷◌, ◌++◌}
use Rattle.std.specs.List.{flat_map}
use Rattle.sysin_text.specs.declared.token.Placed.{Placed}
use Rattle.sysin_text.specs.Lines.{lines_of}
use Rattle.sysin_text.specs.Cleaning.{read_of, goes_on}
use Rattle.sysin_text.specs.Signs.{token_of, width_of}

-- the tokens of bytes that stand in a line from a column on, of which so many in front are of a token that began before them
abbrev pub tokens_in : ℕ → ℕ → ℕ → List ℕ → List Placed
tokens_in line column left [] = []
tokens_in line column left (byte ∷ rest) =
    if (left == 0) && not (byte == 32)
    then record { token = token_of byte rest; line = line; column = column; starts = false } ∷ tokens_in line (column + 1) (width_of (token_of byte rest) - 1) rest
    else tokens_in line (column + 1) (left - 1) rest

-- tokens in front of the first of several lines
abbrev pub onto_line : List Placed → List (List Placed) → List (List Placed)
onto_line tokens [] = tokens ∷ []
onto_line tokens (first ∷ lines) = (tokens ++ first) ∷ lines

-- a line in front of others, with which it is one where it goes on
abbrev pub before_lines : Bool → List Placed → List (List Placed) → List (List Placed)
before_lines on tokens lines = if on then onto_line tokens lines else tokens ∷ lines

-- the tokens of lines, the first of which has this number: a line that goes on in the next is one with it
abbrev pub joined : ℕ → List (List ℕ) → List (List Placed)
joined number [] = []
joined number (line ∷ lines) = before_lines (goes_on line) (tokens_in number 1 0 (read_of line)) (joined (number + 1) lines)

-- the first token of a line starts it
abbrev pub started : List Placed → List Placed
started [] = []
started (first ∷ rest) = record first { starts = true } ∷ rest

-- the tokens of a text
abbrev pub tokens_of : List ℕ → List Placed
tokens_of text = flat_map started (joined 1 (lines_of text))
