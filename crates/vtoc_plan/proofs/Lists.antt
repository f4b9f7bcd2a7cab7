-- Lists of distinct elements in other orders.
use Rattle.std.proofs.Common.{◌≡◌, ◌⊎◌, List, [], ◌∷◌, ◌++◌, map, Contains, subst, inl, inr}
use Rattle.std.proofs.lemmas.List.Elements.{Contains-append_cases}
use Rattle.vtoc_layout.specs.Layout.{AreDistinct}
use Rattle.vtoc_layout.proofs.Distinct.{at_first, in_later, in_front, in_back, distinct_front, distinct_back, not_both, distinct_append, from_map, one_of_map}

-- elements of a list whose images are distinct have distinct images
pub distinct_images : {X Y : Type 0} (f : X → Y) (all xs : List X) → AreDistinct (map f all) → ((x : X) → Contains xs x → Contains all x) → AreDistinct xs → AreDistinct (map f xs)
distinct_images f all [] apart there d = tt
distinct_images {X} {Y} f all (x ∷ xs) apart there d = (
  (λ c. let from = from_map f xs (f x) c in
      let same : from.0 ≡ x = one_of_map f all from.0 x apart (there from.0 (in_later x from.0 xs from.1)) (there x (at_first x xs)) from.2 in
      d.0 (subst (Contains xs) same from.1)),
  distinct_images f all xs apart (λ y c. there y (in_later x y xs c)) d.1,
)

-- other distinct elements of the second list
pub with_back : {X : Type 0} (xs ys zs : List X) → AreDistinct (xs ++ ys) → AreDistinct zs → ((z : X) → Contains zs z → Contains ys z) → AreDistinct (xs ++ zs)
with_back xs ys zs d e there = distinct_append xs zs (distinct_front xs ys d) e (λ z p q. not_both xs ys z d p (there z q))

pub swapped : {X : Type 0} (xs ys : List X) → AreDistinct (xs ++ ys) → AreDistinct (ys ++ xs)
swapped xs ys d = distinct_append ys xs (distinct_back xs ys d) (distinct_front xs ys d) (λ z p q. not_both xs ys z d q p)

-- an element of four lists
from_four : {X : Type 0} (a b c d : List X) (z : X) → Contains ((a ++ b) ++ (c ++ d)) z → (Contains a z ⊎ Contains b z) ⊎ (Contains c z ⊎ Contains d z)
from_four {X} a b c d z h = by (Contains-append_cases (a ++ b) (c ++ d) z h)
  where
    by : (Contains (a ++ b) z ⊎ Contains (c ++ d) z) → (Contains a z ⊎ Contains b z) ⊎ (Contains c z ⊎ Contains d z)
    by (inl p) = inl (Contains-append_cases a b z p)
    by (inr q) = inr (Contains-append_cases c d z q)

-- the two lists in the middle change places
pub middle_there : {X : Type 0} (a b c d : List X) (z : X) → Contains ((a ++ b) ++ (c ++ d)) z → Contains ((a ++ c) ++ (b ++ d)) z
middle_there {X} a b c d z h = by (from_four a b c d z h)
  where
    by : ((Contains a z ⊎ Contains b z) ⊎ (Contains c z ⊎ Contains d z)) → Contains ((a ++ c) ++ (b ++ d)) z
    by (inl (inl p)) = in_front (a ++ c) (b ++ d) z (in_front a c z p)
    by (inl (inr p)) = in_back (a ++ c) (b ++ d) z (in_front b d z p)
    by (inr (inl p)) = in_front (a ++ c) (b ++ d) z (in_back a c z p)
    by (inr (inr p)) = in_back (a ++ c) (b ++ d) z (in_back b d z p)

pub middle_turned : {X : Type 0} (a b c d : List X) → AreDistinct ((a ++ b) ++ (c ++ d)) → AreDistinct ((a ++ c) ++ (b ++ d))
middle_turned {X} a b c d h =
    distinct_append (a ++ c) (b ++ d)
    (distinct_append a c (distinct_front a b left) (distinct_front c d right) (λ z p q. apart z (in_front a b z p) (in_front c d z q)))
    (distinct_append b d (distinct_back a b left) (distinct_back c d right) (λ z p q. apart z (in_back a b z p) (in_back c d z q)))
    (λ z p q. by z (Contains-append_cases a c z p) (Contains-append_cases b d z q))
  where
    left : AreDistinct (a ++ b)
    left = distinct_front (a ++ b) (c ++ d) h

    right : AreDistinct (c ++ d)
    right = distinct_back (a ++ b) (c ++ d) h

    apart : (z : X) → Contains (a ++ b) z → Contains (c ++ d) z → ⊥
    apart z p q = not_both (a ++ b) (c ++ d) z h p q

    by : (z : X) → (Contains a z ⊎ Contains c z) → (Contains b z ⊎ Contains d z) → ⊥
    by z (inl p) (inl q) = not_both a b z left p q
    by z (inl p) (inr q) = apart z (in_front a b z p) (in_back c d z q)
    by z (inr p) (inl q) = apart z (in_back a b z q) (in_front c d z p)
    by z (inr p) (inr q) = not_both c d z right p q

-- three lists, each in two parts: the first parts, and then the second ones
pub six_there : {X : Type 0} (a a' b b' c c' : List X) (z : X) → Contains ((a ++ a') ++ ((b ++ b') ++ (c ++ c'))) z → Contains ((a ++ (b ++ c)) ++ (a' ++ (b' ++ c'))) z
six_there {X} a a' b b' c c' z h =
    middle_there a a' (b ++ c) (b' ++ c') z (by (Contains-append_cases (a ++ a') ((b ++ b') ++ (c ++ c')) z h))
  where
    by : (Contains (a ++ a') z ⊎ Contains ((b ++ b') ++ (c ++ c')) z) → Contains ((a ++ a') ++ ((b ++ c) ++ (b' ++ c'))) z
    by (inl p) = in_front (a ++ a') ((b ++ c) ++ (b' ++ c')) z p
    by (inr q) = in_back (a ++ a') ((b ++ c) ++ (b' ++ c')) z (middle_there b b' c c' z q)

pub six_turned : {X : Type 0} (a a' b b' c c' : List X) → AreDistinct ((a ++ a') ++ ((b ++ b') ++ (c ++ c'))) → AreDistinct ((a ++ (b ++ c)) ++ (a' ++ (b' ++ c')))
six_turned a a' b b' c c' h =
    middle_turned a a' (b ++ c) (b' ++ c')
    (with_back (a ++ a') ((b ++ b') ++ (c ++ c')) ((b ++ c) ++ (b' ++ c')) h (middle_turned b b' c c' (distinct_back (a ++ a') ((b ++ b') ++ (c ++ c')) h)) (λ z p. middle_there b c b' c' z p))

pub six_back : {X : Type 0} (a a' b b' c c' : List X) (z : X) → Contains ((a ++ (b ++ c)) ++ (a' ++ (b' ++ c'))) z → Contains ((a ++ a') ++ ((b ++ b') ++ (c ++ c'))) z
six_back {X} a a' b b' c c' z h = by (Contains-append_cases (a ++ a') ((b ++ c) ++ (b' ++ c')) z (middle_there a (b ++ c) a' (b' ++ c') z h))
  where
    by : (Contains (a ++ a') z ⊎ Contains ((b ++ c) ++ (b' ++ c')) z) → Contains ((a ++ a') ++ ((b ++ b') ++ (c ++ c'))) z
    by (inl p) = in_front (a ++ a') ((b ++ b') ++ (c ++ c')) z p
    by (inr q) = in_back (a ++ a') ((b ++ b') ++ (c ++ c')) z (middle_there b c b' c' z q)
