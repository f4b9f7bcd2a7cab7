-- Lists that a test leaves nothing of.
use Rattle.std.proofs.Common.{◌≡◌, ℕ, zero, suc, ◌<◌, List, [], ◌∷◌, ◌++◌, map, filter, Bool, true, false, cond, ◌&&◌, ◌||◌, refl, ap, ◌∙◌, arith}
use Rattle.std.specs.List.{AllByRecursion, flat_map, list_all, list_any}
use Rattle.std.proofs.lemmas.List.Folds.{list_all-append}
use Rattle.volume_model.specs.Dscbs.{numbers_below}
use Rattle.volume_model.specs.Check.{with_earlier, later_ones}

-- the first is left out
pub filter_skip : {X : Type 0} (test : X → Bool) (x : X) (xs : List X) → test x ≡ false → filter test (x ∷ xs) ≡ filter test xs
filter_skip test x xs e = ap (λ (b : Bool). cond b (x ∷ filter test xs) (filter test xs)) e

-- the first is kept
pub filter_keep : {X : Type 0} (test : X → Bool) (x : X) (xs : List X) → test x ≡ true → filter test (x ∷ xs) ≡ x ∷ filter test xs
filter_keep test x xs e = ap (λ (b : Bool). cond b (x ∷ filter test xs) (filter test xs)) e

pub filter_none : {X : Type 0} (Q : X → Type 0) (test : X → Bool) → ((x : X) → Q x → test x ≡ false) → (xs : List X) → AllByRecursion Q xs → filter test xs ≡ []
filter_none Q test h [] q = refl
filter_none Q test h (x ∷ xs) q = filter_skip test x xs (h x q.0) ∙ filter_none Q test h xs q.1

pub flat_map_none : {X Y : Type 0} (Q : X → Type 0) (f : X → List Y) → ((x : X) → Q x → f x ≡ []) → (xs : List X) → AllByRecursion Q xs → flat_map f xs ≡ []
flat_map_none Q f h [] q = refl
flat_map_none {Y} Q f h (x ∷ xs) q = ap (λ (ys : List Y). ys ++ flat_map f xs) (h x q.0) ∙ flat_map_none Q f h xs q.1

pub list_any_none : {X : Type 0} (test : X → Bool) → ((x : X) → test x ≡ false) → (xs : List X) → list_any test xs ≡ false
list_any_none test h [] = refl
list_any_none test h (x ∷ xs) = ap (λ (b : Bool). b || list_any test xs) (h x) ∙ list_any_none test h xs

-- none is related to an earlier one
pub later_none : {X : Type 0} (Q : X → Type 0) (related : X → X → Bool) → ((x y : X) → Q x → related x y ≡ false) → (earlier xs : List X) → AllByRecursion Q xs
    → filter (λ (pair : List X × X). list_any (related pair.1) pair.0) (with_earlier earlier xs) ≡ []
later_none Q related h earlier [] q = refl
later_none {X} Q related h earlier (x ∷ xs) q =
    filter_skip (λ (pair : List X × X). list_any (related pair.1) pair.0) (earlier, x) (with_earlier (earlier ++ x ∷ []) xs) (list_any_none (related x) (λ y. h x y q.0) earlier)
    ∙ later_none Q related h (earlier ++ x ∷ []) xs q.1

pub later_ones_none : {X : Type 0} (Q : X → Type 0) (related : X → X → Bool) → ((x y : X) → Q x → related x y ≡ false) → (xs : List X) → AllByRecursion Q xs → later_ones related xs ≡ []
later_ones_none {X} Q related h xs q = ap (λ (pairs : List (List X × X)). map (λ (pair : List X × X). pair.1) pairs) (later_none Q related h [] xs q)

list_all_more : (test : ℕ → Bool) (xs : List ℕ) (x : ℕ) → list_all test xs ≡ true → test x ≡ true → list_all test (xs ++ x ∷ []) ≡ true
list_all_more test xs x all here = list_all-append test xs (x ∷ []) ∙ (λ i. all i && (here i && true))

-- a test that holds of each number below one
pub all_below : (test : ℕ → Bool) (n : ℕ) → ((k : ℕ) → k < n → test k ≡ true) → list_all test (numbers_below n) ≡ true
all_below test zero h = refl
all_below test (suc n) h = list_all_more test (numbers_below n) n (all_below test n (λ k lt. h k (omega arith))) (h n (omega arith))
