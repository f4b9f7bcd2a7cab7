-- The form of a name's qualifier, and of a pattern's.
use Rattle.std.specs.Prelude.{◌≡◌, ◌≢◌, ℕ, ◌≤◌, ◌⊎◌, List, [], ◌∷◌, length, All}
use Rattle.std.specs.List.{AllAdjacentBelow}

-- a letter, or `$`, `#` or `@`
abbrev pub IsLetter : ℕ → Type 0
IsLetter byte = ((65 ≤ byte) × (byte ≤ 90)) ⊎ (byte ≡ 36) ⊎ (byte ≡ 35) ⊎ (byte ≡ 64)

-- that, a digit or `-`
abbrev pub IsInner : ℕ → Type 0
IsInner byte = IsLetter byte ⊎ ((48 ≤ byte) × (byte ≤ 57)) ⊎ (byte ≡ 45)

-- a name's qualifier: one to eight characters, the first of them a letter
abbrev pub IsQualifier : List ℕ → Type 0
IsQualifier [] = ⊥
IsQualifier (first ∷ rest) = IsLetter first × All IsInner rest × (length rest ≤ 7)

-- `*` or `%`
abbrev pub IsWild : ℕ → Type 0
IsWild byte = (byte ≡ 42) ⊎ (byte ≡ 37)

-- no two stars stand together
abbrev pub HasStarsApart : List ℕ → Type 0
HasStarsApart bytes = AllAdjacentBelow (λ left right. left ≡ 42 → right ≢ 42) bytes (length bytes)

-- what stands for one qualifier: as a qualifier, where each character may also be wild
abbrev pub IsMask : List ℕ → Type 0
IsMask [] = ⊥
IsMask (first ∷ rest) = (IsLetter first ⊎ IsWild first) × All (λ byte. IsInner byte ⊎ IsWild byte) rest × (length rest ≤ 7) × HasStarsApart (first ∷ rest)

-- `**`, which stands for any number of qualifiers
abbrev pub any : List ℕ
any = 42 ∷ 42 ∷ []

-- a pattern's qualifier
abbrev pub IsPatternPart : List ℕ → Type 0
IsPatternPart part = (part ≡ any) ⊎ IsMask part
