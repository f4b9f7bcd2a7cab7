-- Texts that are spelled as qualifiers with dots between them.
use Rattle.std.specs.Prelude.{◌≡◌, ℕ, ◌+◌, ◌<◌, ◌≤◌, ◌==◌, if◌then◌else◌, List, [], ◌∷◌, ◌++◌, length, take, map, All}
use Rattle.std.specs.List.{join_with_byte}
use Rattle.std.specs.Char.{to_ascii_uppercase}

-- small letters read as capitals
abbrev pub capitals : List ℕ → List ℕ
capitals text = map to_ascii_uppercase text

-- qualifiers, with a dot between each two
abbrev pub dotted : List (List ℕ) → List ℕ
dotted qualifiers = join_with_byte 46 qualifiers

-- one more byte in front of the first
abbrev pub onto_first : ℕ → List (List ℕ) → List (List ℕ)
onto_first byte [] = (byte ∷ []) ∷ []
onto_first byte (first ∷ rest) = (byte ∷ first) ∷ rest

-- what stands between the dots of a text
abbrev pub qualifiers : List ℕ → List (List ℕ)
qualifiers [] = [] ∷ []
qualifiers (byte ∷ rest) = if byte == 46 then [] ∷ qualifiers rest else onto_first byte (qualifiers rest)

-- a text of at most 44 characters spells qualifiers of one form, at least one of them
pub record IsSpelled (Form : List ℕ → Type 0) (spelled : List (List ℕ)) (text : List ℕ) : Type 0 where
  pub each : All Form spelled
  pub some : 0 < length spelled
  pub short : length text ≤ 44
  pub joins : capitals text ≡ dotted spelled

-- a text spells qualifiers of this form
abbrev pub IsText : (List ℕ → Type 0) → List ℕ → Type 0
IsText Form text = (spelled : List (List ℕ)) × IsSpelled Form spelled text

-- some continuation of these bytes is right
abbrev pub IsBegun : (List ℕ → Type 0) → List ℕ → Type 0
IsBegun IsRight bytes = (more : List ℕ) × IsRight (bytes ++ more)

-- bytes aren't right, and they begin something right up to this place and no further
pub record IsFirstWrong (IsRight : List ℕ → Type 0) (bytes : List ℕ) (place : ℕ) : Type 0 where
  pub wrong : ¬ IsRight bytes
  pub within : place ≤ length bytes
  pub begun : IsBegun IsRight (take place bytes)
  pub ends : place < length bytes → ¬ IsBegun IsRight (take (place + 1) bytes)
