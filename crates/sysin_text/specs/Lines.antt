-- The lines of a text.
use Rattle.std.specs.Prelude.{◌≡◌, ℕ, Bool, true, false, not, ◌&&◌, ◌==◌, if◌then◌else◌, List, [], ◌∷◌}
use Rattle.std.specs.List.{list_all}

-- one more byte in front of the first line
abbrev pub onto_first : ℕ → List (List ℕ) → List (List ℕ)
onto_first byte [] = (byte ∷ []) ∷ []
onto_first byte (line ∷ lines) = (byte ∷ line) ∷ lines

-- whether a line feed stands in front
abbrev pub begins_feed : List ℕ → Bool
begins_feed [] = false
begins_feed (byte ∷ text) = byte == 10

-- what stands before each line feed, and behind the last one where anything does; a CR right before a line feed is left out
abbrev pub lines_of : List ℕ → List (List ℕ)
lines_of [] = []
lines_of (byte ∷ text) =
    if byte == 10 then [] ∷ lines_of text
    else (if (byte == 13) && begins_feed text then lines_of text else onto_first byte (lines_of text))

-- a line without a CR at its end
abbrev pub without_cr : List ℕ → List ℕ
without_cr [] = []
without_cr (byte ∷ []) = if byte == 13 then [] else byte ∷ []
without_cr (byte ∷ next ∷ rest) = byte ∷ without_cr (next ∷ rest)

-- no line feed stands in these bytes
abbrev pub HasNoFeed : List ℕ → Type 0
HasNoFeed bytes = list_all (λ byte. not (byte == 10)) bytes ≡ true
