-- What is left of the tokens of a text: words of the reader.
use Rattle.std.specs.Prelude.{ℕ, ◌+◌, Bool, List, [], ◌∷◌, ◌++◌, drop, if◌then◌else◌}
use Rattle.std.specs.List.{flat_map}
use Rattle.sysin_text.specs.declared.token.Placed.{Placed}
use Rattle.sysin_text.specs.Lines.{lines_of}
use Rattle.sysin_text.specs.Tokens.{tokens_in, before_lines, joined, started}

-- the tokens of a line from a place on
abbrev pub tokens_behind : ℕ → ℕ → List ℕ → List Placed
tokens_behind number place bytes = tokens_in number (place + 1) 0 (drop place bytes)

-- the tokens of lines, where the first one is read from its start on or from further behind
abbrev pub tokens_from : Bool → List (List Placed) → List Placed
tokens_from starts [] = []
tokens_from starts (first ∷ lines) = (if starts then started first else first) ++ flat_map started lines

-- the tokens of a line from a place on, and of the text behind it
abbrev pub tokens_left : Bool → ℕ → ℕ → List ℕ → Bool → List ℕ → List Placed
tokens_left starts number place bytes on rest = tokens_from starts (before_lines on (tokens_behind number place bytes) (joined (number + 1) (lines_of rest)))
