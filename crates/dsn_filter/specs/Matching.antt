-- Which names a pattern stands for.
use Rattle.std.specs.Prelude.{◌≡◌, ◌≢◌, ℕ, ◌⊎◌, List, [], ◌∷◌}
use Rattle.dsn_filter.specs.Qualifier.{any}

-- character by character: `*` any number of them, `%` one, another one itself
abbrev pub MatchesQualifier : List ℕ → List ℕ → Type 0
MatchesQualifier [] [] = Unit {0}
MatchesQualifier [] (c ∷ cs) = ⊥
MatchesQualifier (p ∷ ps) [] = (p ≡ 42) × MatchesQualifier ps []
MatchesQualifier (p ∷ ps) (c ∷ cs) =
    ((p ≡ 42) × (MatchesQualifier ps (c ∷ cs) ⊎ MatchesQualifier (p ∷ ps) cs))
    ⊎ ((p ≢ 42) × ((p ≡ 37) ⊎ (p ≡ c)) × MatchesQualifier ps cs)

-- qualifier by qualifier: `**` any number of them, another one of its form
abbrev pub Matches : List (List ℕ) → List (List ℕ) → Type 0
Matches [] [] = Unit {0}
Matches [] (name ∷ names) = ⊥
Matches (part ∷ parts) [] = (part ≡ any) × Matches parts []
Matches (part ∷ parts) (name ∷ names) =
    ((part ≡ any) × (Matches parts (name ∷ names) ⊎ Matches (part ∷ parts) names))
    ⊎ ((part ≢ any) × MatchesQualifier part name × Matches parts names)
