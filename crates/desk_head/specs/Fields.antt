-- What the fields of a head say. A field is seen as its name and its value.
use Rattle.std.specs.Prelude.{◌≡◌, ℕ, ◌<◌, List, [], ◌∷◌, length, map, filter, Bool, IsTrue, All}
use Rattle.std.specs.Char.{to_ascii_lowercase, is_ascii_digit}
use Rattle.std.specs.Str.{bytes_eq}
use Rattle.std.specs.Str.Parse.{digits_value}
use Rattle.httparse.specs.Spans.{IsWithin, span_bytes}
use Rattle.desk_head.specs.declared.field.Found.{Found}
use Rattle.desk_head.specs.declared.field.Found.TheVariants as founds

-- a name, whose capitals are as small letters
abbrev pub is_named : List ℕ → List ℕ → Bool
is_named name other = bytes_eq (map to_ascii_lowercase other) (map to_ascii_lowercase name)

-- the values of the fields of a name, in order
abbrev pub values_of : List ℕ → List (List ℕ × List ℕ) → List (List ℕ)
values_of name fields = map (λ (f : List ℕ × List ℕ). f.1) (filter (λ (f : List ℕ × List ℕ). is_named name f.0) fields)

-- none, one, or more of them
abbrev pub IsFound : List ℕ → List (List ℕ) → Found → Type 0
IsFound input values founds.None = values ≡ []
IsFound input values (founds.One span) = IsWithin (length input) span × (values ≡ span_bytes input span ∷ [])
IsFound input values founds.Several = 1 < length values

-- a number is one digit or more
abbrev pub IsNumber : List ℕ → Type 0
IsNumber text = (0 < length text) × All (λ b. IsTrue (is_ascii_digit b)) text

abbrev pub number : List ℕ → ℕ
number text = digits_value 10 text
