-- Lists of which no element is related to an earlier one.
use Rattle.std.proofs.Common.{◌≡◌, ◌⊎◌, List, [], ◌∷◌, ◌++◌, filter, Bool, true, false, cond, Contains, refl, sym, ap, ◌∙◌, inl, inr}
use Rattle.std.specs.Prelude.{◌||◌}
use Rattle.std.specs.List.{list_any}
use Rattle.std.proofs.lemmas.Bool.{or_parts}
use Rattle.std.proofs.lemmas.List.Folds.{list_any-append}
use Rattle.volume_model.specs.Check.{with_earlier, later_ones}
use Rattle.vtoc_layout.proofs.Distinct.{first_or_later, in_none}
use Rattle.ckd_image.proofs.Lists.{map_nil}

-- no element of these is related to this one
abbrev IsUnrelated : {X : Type 0} → (X → X → Bool) → X → List X → Type 0
IsUnrelated {X} related x xs = (y : X) → Contains xs y → related y x ≡ false

abbrev pub AreUnrelated : {X : Type 0} → (X → X → Bool) → List X → Type 0
AreUnrelated related [] = Unit {0}
AreUnrelated related (x ∷ xs) = IsUnrelated related x xs × AreUnrelated related xs

-- whether an element is related to an earlier one
abbrev is_later : {X : Type 0} → (X → X → Bool) → (List X × X) → Bool
is_later related pair = list_any (related pair.1) pair.0

record Pairs {X : Type 0} (related : X → X → Bool) (earlier xs : List X) : Type 0 where
  before : (y : X) → Contains xs y → list_any (related y) earlier ≡ false
  among : AreUnrelated related xs

pairs : {X : Type 0} (related : X → X → Bool) (earlier xs : List X) → filter (is_later related) (with_earlier earlier xs) ≡ [] → Pairs related earlier xs
pairs related earlier [] e = record { before = λ y c. absurd (in_none y c); among = tt }
pairs {X} related earlier (x ∷ xs) e = by (λ q. pairs related (earlier ++ x ∷ []) xs q) (list_any (related x) earlier) refl e
  where
    rest : List (List X × X)
    rest = filter (is_later related) (with_earlier (earlier ++ x ∷ []) xs)

    here : List X × X
    here = (earlier, x)

    by : (rest ≡ [] → Pairs related (earlier ++ x ∷ []) xs) → (t : Bool) → list_any (related x) earlier ≡ t → cond t (here ∷ rest) rest ≡ [] → Pairs related earlier (x ∷ xs)
    by later true q n = absurd (let p : here ∷ rest ≡ [] = n in let r : ⊥ = cc in r)
    by later false q n =
        let r = later n in
        let parts : (y : X) → Contains xs y → (list_any (related y) earlier ≡ false) × (related y x ≡ false) =
        λ y c.
        let both = or_parts (list_any (related y) earlier) (related y x || false) (sym (list_any-append (related y) earlier (x ∷ [])) ∙ r.before y c) in
        (both.0, (or_parts (related y x) false both.1).0) in
        record { before = λ y c. first y parts (first_or_later x y xs c); among = (λ y c. (parts y c).1, r.among) }
      where
        first : (y : X) → ((z : X) → Contains xs z → (list_any (related z) earlier ≡ false) × (related z x ≡ false)) → ((x ≡ y) ⊎ Contains xs y) → list_any (related y) earlier ≡ false
        first y parts (inl same) = ap (λ (z : X). list_any (related z) earlier) (sym same) ∙ q
        first y parts (inr there) = (parts y there).0

pub unrelated : {X : Type 0} (related : X → X → Bool) (xs : List X) → later_ones related xs ≡ [] → AreUnrelated related xs
unrelated {X} related xs none = (pairs related [] xs (map_nil (λ (pair : List X × X). pair.1) (filter (is_later related) (with_earlier [] xs)) none)).among

-- of two elements one is later, and is not related to the other
pub unrelated_two : {X : Type 0} (related : X → X → Bool) (xs : List X) → AreUnrelated related xs → (a b : X) → Contains xs a → Contains xs b → ¬ (a ≡ b) → (related a b ≡ false) ⊎ (related b a ≡ false)
unrelated_two related [] h a b p q other = absurd (in_none a p)
unrelated_two {X} related (x ∷ xs) h a b p q other = by (λ c d. unrelated_two related xs h.1 a b c d other) (first_or_later x a xs p) (first_or_later x b xs q)
  where
    by : (Contains xs a → Contains xs b → (related a b ≡ false) ⊎ (related b a ≡ false)) → ((x ≡ a) ⊎ Contains xs a) → ((x ≡ b) ⊎ Contains xs b) → (related a b ≡ false) ⊎ (related b a ≡ false)
    by later (inl c) (inl d) = absurd (other (sym c ∙ d))
    by later (inl c) (inr d) = inr (ap (related b) (sym c) ∙ h.0 b d)
    by later (inr c) (inl d) = inl (ap (related a) (sym d) ∙ h.0 a c)
    by later (inr c) (inr d) = later c d
