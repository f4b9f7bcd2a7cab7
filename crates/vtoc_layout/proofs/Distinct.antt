-- Lists of which no element stands twice.
use Rattle.std.proofs.Common.{◌≡◌, ◌⊎◌, ℕ, zero, suc, ◌+◌, ◌<◌, ◌≤◌, List, [], ◌∷◌, ◌++◌, ◌||◌, length, map, filter, get_or, Bool, true, false, Contains, refl, sym, ap, subst, ◌∙◌, arith, inl, inr, append_assoc}
use Rattle.std.specs.List.{flat_map, list_any}
use Rattle.std.specs.List.Sorted.{IsPermutation}
use Rattle.std.proofs.lemmas.List.Elements.{Contains-append_cases}
use Rattle.std.proofs.lemmas.List.Sorted.{IsPermutation-refl, IsPermutation-trans, IsPermutation-append_left, IsPermutation-append_right, IsPermutation-append_comm}
use Rattle.std.proofs.lemmas.Grind.{flat_map-append}
use Rattle.std.proofs.lemmas.List.Concat.{flat_map_single}
use Rattle.volume_model.specs.Check.{with_earlier, later_ones}
use Rattle.volume_model.proofs.Filters.{filter_skip, filter_keep}
use Rattle.vtoc_layout.specs.Layout.{AreDistinct}
use Rattle.ckd_image.proofs.Lists.{contains_map}
use Rattle.volume_model.specs.Dscbs.{numbers_below}

-- ---- elements

pub first_or_later : {X : Type 0} (x z : X) (ys : List X) → Contains (x ∷ ys) z → (x ≡ z) ⊎ Contains ys z
first_or_later {X} x z ys h = by h.0 h.1 h.2
  where
    by : (k : ℕ) → k < length (x ∷ ys) → get_or (x ∷ ys) k z ≡ z → (x ≡ z) ⊎ Contains ys z
    by zero lt e = inl e
    by (suc k) lt e = inr (k, omega (arith, lt), e)

pub at_first : {X : Type 0} (x : X) (ys : List X) → Contains (x ∷ ys) x
at_first x ys = (0, omega arith, refl)

pub in_later : {X : Type 0} (x z : X) (ys : List X) → Contains ys z → Contains (x ∷ ys) z
in_later x z ys h = (suc h.0, omega (arith, h.1), h.2)

pub in_none : {X : Type 0} (z : X) → Contains [] z → ⊥
in_none z h = omega (arith, h.1)

pub in_front : {X : Type 0} (xs ys : List X) (z : X) → Contains xs z → Contains (xs ++ ys) z
in_front [] ys z h = absurd (in_none z h)
in_front {X} (x ∷ xs) ys z h = by (in_front xs ys z) (first_or_later x z xs h)
  where
    by : (Contains xs z → Contains (xs ++ ys) z) → ((x ≡ z) ⊎ Contains xs z) → Contains (x ∷ (xs ++ ys)) z
    by later (inl here) = (0, omega arith, here)
    by later (inr there) = in_later x z (xs ++ ys) (later there)

pub in_back : {X : Type 0} (xs ys : List X) (z : X) → Contains ys z → Contains (xs ++ ys) z
in_back [] ys z h = h
in_back (x ∷ xs) ys z h = in_later x z (xs ++ ys) (in_back xs ys z h)

-- an element stands between those before and those behind it
pub record Parted {X : Type 0} (xs : List X) (x : X) : Type 0 where
  pub front : List X
  pub back : List X
  pub is : xs ≡ front ++ x ∷ back

pub parted : {X : Type 0} (xs : List X) (x : X) → Contains xs x → Parted xs x
parted [] x h = absurd (in_none x h)
parted {X} (y ∷ xs) x h = by (parted xs x) (first_or_later y x xs h)
  where
    by : (Contains xs x → Parted xs x) → ((y ≡ x) ⊎ Contains xs x) → Parted (y ∷ xs) x
    by later (inl here) = record { front = []; back = xs; is = ap (λ (z : X). z ∷ xs) here }
    by later (inr there) = let p = later there in record { front = y ∷ p.front; back = p.back; is = ap (λ (zs : List X). y ∷ zs) p.is }

-- the others
pub or_other : {X : Type 0} (front : List X) (x : X) (back : List X) (z : X) → Contains (front ++ x ∷ back) z → (x ≡ z) ⊎ Contains (front ++ back) z
or_other [] x back z h = first_or_later x z back h
or_other {X} (y ∷ front) x back z h = by (or_other front x back z) (first_or_later y z (front ++ x ∷ back) h)
  where
    on : ((x ≡ z) ⊎ Contains (front ++ back) z) → (x ≡ z) ⊎ Contains (y ∷ (front ++ back)) z
    on (inl here) = inl here
    on (inr there) = inr (in_later y z (front ++ back) there)

    by : (Contains (front ++ x ∷ back) z → (x ≡ z) ⊎ Contains (front ++ back) z) → ((y ≡ z) ⊎ Contains (front ++ x ∷ back) z) → (x ≡ z) ⊎ Contains (y ∷ (front ++ back)) z
    by later (inl here) = inr (0, omega arith, here)
    by later (inr there) = on (later there)

pub among_others : {X : Type 0} (front : List X) (x : X) (back : List X) (z : X) → Contains (front ++ back) z → Contains (front ++ x ∷ back) z
among_others {X} front x back z h = by (Contains-append_cases front back z h)
  where
    by : (Contains front z ⊎ Contains back z) → Contains (front ++ x ∷ back) z
    by (inl a) = in_front front (x ∷ back) z a
    by (inr b) = in_back front (x ∷ back) z (in_later x z back b)

pub in_middle : {X : Type 0} (front : List X) (x : X) (back : List X) → Contains (front ++ x ∷ back) x
in_middle front x back = in_back front (x ∷ back) x (at_first x back)

-- ---- distinct elements

pub distinct_others : {X : Type 0} (front : List X) (x : X) (back : List X) → AreDistinct (front ++ x ∷ back) → AreDistinct (x ∷ (front ++ back))
distinct_others [] x back d = d
distinct_others {X} (y ∷ front) x back d = by (distinct_others front x back d.1)
  where
    by : AreDistinct (x ∷ (front ++ back)) → AreDistinct (x ∷ y ∷ (front ++ back))
    by later = (λ c. first (first_or_later y x (front ++ back) c), (λ c. d.0 (among_others front x back y c), later.1))
      where
        first : ((y ≡ x) ⊎ Contains (front ++ back) x) → ⊥
        first (inl same) = let P : X → Type 0 = λ z. Contains (front ++ x ∷ back) z in d.0 (subst P (sym same) (in_middle front x back))
        first (inr there) = later.0 there

pub distinct_front : {X : Type 0} (xs ys : List X) → AreDistinct (xs ++ ys) → AreDistinct xs
distinct_front [] ys d = tt
distinct_front (x ∷ xs) ys d = (λ c. d.0 (in_front xs ys x c), distinct_front xs ys d.1)

pub distinct_back : {X : Type 0} (xs ys : List X) → AreDistinct (xs ++ ys) → AreDistinct ys
distinct_back [] ys d = d
distinct_back (x ∷ xs) ys d = distinct_back xs ys d.1

pub not_both : {X : Type 0} (xs ys : List X) (z : X) → AreDistinct (xs ++ ys) → Contains xs z → Contains ys z → ⊥
not_both [] ys z d p q = in_none z p
not_both {X} (x ∷ xs) ys z d p q = by (λ there. not_both xs ys z d.1 there q) (first_or_later x z xs p)
  where
    by : (Contains xs z → ⊥) → ((x ≡ z) ⊎ Contains xs z) → ⊥
    by later (inl here) = let P : X → Type 0 = λ y. Contains (xs ++ ys) y in d.0 (subst P (sym here) (in_back xs ys z q))
    by later (inr there) = later there

pub distinct_append : {X : Type 0} (xs ys : List X) → AreDistinct xs → AreDistinct ys → ((z : X) → Contains xs z → Contains ys z → ⊥) → AreDistinct (xs ++ ys)
distinct_append [] ys p q h = q
distinct_append {X} (x ∷ xs) ys p q h = (λ c. by (Contains-append_cases xs ys x c), distinct_append xs ys p.1 q (λ z a b. h z (in_later x z xs a) b))
  where
    by : (Contains xs x ⊎ Contains ys x) → ⊥
    by (inl a) = p.0 a
    by (inr b) = h x (at_first x xs) b

-- distinct elements of a list are no more than it has
pub no_more : {X : Type 0} (xs ys : List X) → AreDistinct xs → ((z : X) → Contains xs z → Contains ys z) → length xs ≤ length ys
no_more [] ys d h = omega arith
no_more {X} (x ∷ xs) ys d h =
    let p = parted ys x (h x (at_first x xs)) in
    omega (arith, no_more xs (p.front ++ p.back) d.1 (λ z c. rest p z c (or_other p.front x p.back z (in_it p z c))), ap length p.is, longer p.front p.back)
  where
    in_it : (p : Parted ys x) (z : X) → Contains xs z → Contains (p.front ++ x ∷ p.back) z
    in_it p z c = let P : List X → Type 0 = λ zs. Contains zs z in subst P p.is (h z (in_later x z xs c))

    rest : (p : Parted ys x) (z : X) → Contains xs z → ((x ≡ z) ⊎ Contains (p.front ++ p.back) z) → Contains (p.front ++ p.back) z
    rest p z c (inl same) = let P : X → Type 0 = λ y. Contains xs y in absurd (d.0 (subst P (sym same) c))
    rest p z c (inr there) = there

    longer : (front back : List X) → length (front ++ x ∷ back) ≡ suc (length (front ++ back))
    longer [] back = refl
    longer (y ∷ front) back = ap suc (longer front back)

-- ---- the same elements in another order

-- two lists have the same elements
pub record HaveSame {X : Type 0} (xs ys : List X) : Type 0 where
  pub there : (z : X) → Contains xs z → Contains ys z
  pub back : (z : X) → Contains ys z → Contains xs z

flat_moved : {X Y : Type 0} (f : X → List Y) (front : List X) (x : X) (back : List X) → IsPermutation (f x ++ flat_map f (front ++ back)) (flat_map f (front ++ x ∷ back))
flat_moved {X} {Y} f front x back =
    let a : List Y = flat_map f front in
    let b : List Y = flat_map f back in
    let P : List Y → Type 0 = λ zs. IsPermutation (f x ++ zs) (flat_map f (front ++ x ∷ back)) in
    let Q : List Y → Type 0 = λ zs. IsPermutation (f x ++ (a ++ b)) zs in
    let R : List Y → Type 0 = λ zs. IsPermutation zs ((a ++ f x) ++ b) in
    let moved : IsPermutation ((f x ++ a) ++ b) ((a ++ f x) ++ b) = IsPermutation-append_left b (f x ++ a) (a ++ f x) (IsPermutation-append_comm (f x) a) in
    let same : (a ++ f x) ++ b ≡ flat_map f (front ++ x ∷ back) = append_assoc a (f x) b ∙ sym (flat_map-append f front (x ∷ back)) in
    subst P (sym (flat_map-append f front back)) (subst Q same (subst R (append_assoc (f x) a b) moved))

-- lists of distinct elements that have the same ones give the same, in another order
pub flat_permuted : {X Y : Type 0} (f : X → List Y) (xs ys : List X) → AreDistinct xs → AreDistinct ys → HaveSame xs ys → IsPermutation (flat_map f xs) (flat_map f ys)
flat_permuted f [] [] d e s = IsPermutation-refl []
flat_permuted f [] (y ∷ ys) d e s = absurd (in_none y (s.back y (at_first y ys)))
flat_permuted {X} {Y} f (x ∷ xs) ys d e s = by (parted ys x (s.there x (at_first x xs))) (λ rest d' s'. flat_permuted f xs rest d.1 d' s')
  where
    by : Parted ys x → ((rest : List X) → AreDistinct rest → HaveSame xs rest → IsPermutation (flat_map f xs) (flat_map f rest)) → IsPermutation (f x ++ flat_map f xs) (flat_map f ys)
    by p later =
        let rest : List X = p.front ++ p.back in
        let D : List X → Type 0 = λ zs. AreDistinct zs in
        let P : List X → Type 0 = λ zs. IsPermutation (f x ++ flat_map f xs) (flat_map f zs) in
        let apart : AreDistinct (x ∷ rest) = distinct_others p.front x p.back (subst D p.is e) in
        let one : IsPermutation (f x ++ flat_map f xs) (f x ++ flat_map f rest) =
        IsPermutation-append_right (f x) (flat_map f xs) (flat_map f rest) (later rest apart.1 (record { there = into; back = out apart.0 })) in
        subst P (sym p.is) (IsPermutation-trans (f x ++ flat_map f xs) (f x ++ flat_map f rest) (flat_map f (p.front ++ x ∷ p.back)) one (flat_moved f p.front x p.back))
      where
        into : (z : X) → Contains xs z → Contains (p.front ++ p.back) z
        into z c = let P : List X → Type 0 = λ zs. Contains zs z in left (or_other p.front x p.back z (subst P p.is (s.there z (in_later x z xs c))))
          where
            left : ((x ≡ z) ⊎ Contains (p.front ++ p.back) z) → Contains (p.front ++ p.back) z
            left (inl same) = let P : X → Type 0 = λ y. Contains xs y in absurd (d.0 (subst P (sym same) c))
            left (inr there) = there

        out : ¬ Contains (p.front ++ p.back) x → (z : X) → Contains (p.front ++ p.back) z → Contains xs z
        out fresh z c =
            let P : List X → Type 0 = λ zs. Contains zs z in
            left (first_or_later x z xs (s.back z (subst P (sym p.is) (among_others p.front x p.back z c))))
          where
            left : ((x ≡ z) ⊎ Contains xs z) → Contains xs z
            left (inl same) = let P : X → Type 0 = λ y. Contains (p.front ++ p.back) y in absurd (fresh (subst P (sym same) c))
            left (inr there) = there

pub map_permuted : {X Y : Type 0} (f : X → Y) (xs ys : List X) → AreDistinct xs → AreDistinct ys → HaveSame xs ys → IsPermutation (map f xs) (map f ys)
map_permuted {X} {Y} f xs ys d e s =
    let P : List Y → Type 0 = λ zs. IsPermutation zs (map f ys) in
    let Q : List Y → Type 0 = λ zs. IsPermutation (flat_map (λ x. f x ∷ []) xs) zs in
    subst P (flat_map_single f xs) (subst Q (flat_map_single f ys) (flat_permuted (λ x. f x ∷ []) xs ys d e s))

-- ---- filters and joined lists

pub in_filter : {X : Type 0} (test : X → Bool) (xs : List X) (x : X) → Contains xs x → test x ≡ true → Contains (filter test xs) x
in_filter test [] x h e = absurd (in_none x h)
in_filter {X} test (y ∷ xs) x h e = by (λ c. in_filter test xs x c e) (first_or_later y x xs h) (test y) refl
  where
    by : (Contains xs x → Contains (filter test xs) x) → ((y ≡ x) ⊎ Contains xs x) → (t : Bool) → test y ≡ t → Contains (filter test (y ∷ xs)) x
    by later (inl same) t q =
        let P : List X → Type 0 = λ ys. Contains ys x in
        subst P (sym (filter_keep test y xs (ap test same ∙ e))) (0, omega arith, same)
    by later (inr there) true q = let P : List X → Type 0 = λ ys. Contains ys x in subst P (sym (filter_keep test y xs q)) (in_later y x (filter test xs) (later there))
    by later (inr there) false q = let P : List X → Type 0 = λ ys. Contains ys x in subst P (sym (filter_skip test y xs q)) (later there)

pub from_filter : {X : Type 0} (test : X → Bool) (xs : List X) (x : X) → Contains (filter test xs) x → Contains xs x × (test x ≡ true)
from_filter test [] x h = absurd (in_none x h)
from_filter {X} test (y ∷ xs) x h = by (λ c. from_filter test xs x c) (test y) refl
  where
    by : (Contains (filter test xs) x → Contains xs x × (test x ≡ true)) → (t : Bool) → test y ≡ t → Contains (y ∷ xs) x × (test x ≡ true)
    by later true q =
        let P : List X → Type 0 = λ ys. Contains ys x in
        two later q (first_or_later y x (filter test xs) (subst P (filter_keep test y xs q) h))
      where
        two : (Contains (filter test xs) x → Contains xs x × (test x ≡ true)) → test y ≡ true → ((y ≡ x) ⊎ Contains (filter test xs) x) → Contains (y ∷ xs) x × (test x ≡ true)
        two next here (inl same) = ((0, omega arith, same), sym (ap test same) ∙ here)
        two next here (inr there) = let r = next there in (in_later y x xs r.0, r.1)
    by later false q =
        let P : List X → Type 0 = λ ys. Contains ys x in
        let r = later (subst P (filter_skip test y xs q) h) in
        (in_later y x xs r.0, r.1)

pub distinct_filter : {X : Type 0} (test : X → Bool) (xs : List X) → AreDistinct xs → AreDistinct (filter test xs)
distinct_filter test [] d = tt
distinct_filter {X} test (x ∷ xs) d = by (distinct_filter test xs d.1) (test x) refl
  where
    by : AreDistinct (filter test xs) → (t : Bool) → test x ≡ t → AreDistinct (filter test (x ∷ xs))
    by later true q = let P : List X → Type 0 = λ ys. AreDistinct ys in subst P (sym (filter_keep test x xs q)) (λ c. d.0 (from_filter test xs x c).0, later)
    by later false q = let P : List X → Type 0 = λ ys. AreDistinct ys in subst P (sym (filter_skip test x xs q)) later

-- a filter keeps nothing where no element passes
pub filter_nothing : {X : Type 0} (test : X → Bool) (xs : List X) → ((x : X) → Contains xs x → test x ≡ false) → filter test xs ≡ []
filter_nothing test [] h = refl
filter_nothing test (x ∷ xs) h = filter_skip test x xs (h x (at_first x xs)) ∙ filter_nothing test xs (λ y c. h y (in_later x y xs c))

-- and all where each does
pub filter_all : {X : Type 0} (test : X → Bool) (xs : List X) → ((x : X) → Contains xs x → test x ≡ true) → filter test xs ≡ xs
filter_all test [] h = refl
filter_all {X} test (x ∷ xs) h = filter_keep test x xs (h x (at_first x xs)) ∙ ap (λ (ys : List X). x ∷ ys) (filter_all test xs (λ y c. h y (in_later x y xs c)))

pub any_nothing : {X : Type 0} (test : X → Bool) (xs : List X) → ((x : X) → Contains xs x → test x ≡ false) → list_any test xs ≡ false
any_nothing test [] h = refl
any_nothing test (x ∷ xs) h = ap (λ (b : Bool). b || list_any test xs) (h x (at_first x xs)) ∙ any_nothing test xs (λ y c. h y (in_later x y xs c))

pub from_flat : {X Y : Type 0} (f : X → List Y) (xs : List X) (y : Y) → Contains (flat_map f xs) y → (x : X) × Contains xs x × Contains (f x) y
from_flat f [] y h = absurd (in_none y h)
from_flat {X} {Y} f (x ∷ xs) y h = by (λ c. from_flat f xs y c) (Contains-append_cases (f x) (flat_map f xs) y h)
  where
    by : (Contains (flat_map f xs) y → (z : X) × Contains xs z × Contains (f z) y) → (Contains (f x) y ⊎ Contains (flat_map f xs) y) → (z : X) × Contains (x ∷ xs) z × Contains (f z) y
    by later (inl here) = (x, at_first x xs, here)
    by later (inr there) = let r = later there in (r.0, in_later x r.0 xs r.1, r.2)

pub in_flat : {X Y : Type 0} (f : X → List Y) (xs : List X) (x : X) (y : Y) → Contains xs x → Contains (f x) y → Contains (flat_map f xs) y
in_flat f [] x y h c = absurd (in_none x h)
in_flat {X} {Y} f (z ∷ xs) x y h c = by (λ there. in_flat f xs x y there c) (first_or_later z x xs h)
  where
    by : (Contains xs x → Contains (flat_map f xs) y) → ((z ≡ x) ⊎ Contains xs x) → Contains (f z ++ flat_map f xs) y
    by later (inl same) = let P : X → Type 0 = λ w. Contains (f w) y in in_front (f z) (flat_map f xs) y (subst P (sym same) c)
    by later (inr there) = in_back (f z) (flat_map f xs) y (later there)

pub from_map : {X Y : Type 0} (f : X → Y) (xs : List X) (y : Y) → Contains (map f xs) y → (x : X) × Contains xs x × (f x ≡ y)
from_map f [] y h = absurd (in_none y h)
from_map {X} {Y} f (x ∷ xs) y h = by (from_map f xs y) (first_or_later (f x) y (map f xs) h)
  where
    by : (Contains (map f xs) y → (z : X) × Contains xs z × (f z ≡ y)) → ((f x ≡ y) ⊎ Contains (map f xs) y) → (z : X) × Contains (x ∷ xs) z × (f z ≡ y)
    by later (inl here) = (x, at_first x xs, here)
    by later (inr there) = let r = later there in (r.0, in_later x r.0 xs r.1, r.2)

-- elements that a function keeps apart are one where it gives the same
pub one_of_map : {X Y : Type 0} (f : X → Y) (xs : List X) (a b : X) → AreDistinct (map f xs) → Contains xs a → Contains xs b → f a ≡ f b → a ≡ b
one_of_map f [] a b d p q e = absurd (in_none a p)
one_of_map {X} {Y} f (x ∷ xs) a b d p q e = by (λ p' q'. one_of_map f xs a b d.1 p' q' e) (first_or_later x a xs p) (first_or_later x b xs q)
  where
    P : Y → Type 0
    P = λ y. Contains (map f xs) y

    by : (Contains xs a → Contains xs b → a ≡ b) → ((x ≡ a) ⊎ Contains xs a) → ((x ≡ b) ⊎ Contains xs b) → a ≡ b
    by later (inl s) (inl t) = sym s ∙ t
    by later (inl s) (inr there) = absurd (d.0 (subst P (sym e ∙ sym (ap f s)) (contains_map f xs b there)))
    by later (inr there) (inl t) = absurd (d.0 (subst P (e ∙ sym (ap f t)) (contains_map f xs a there)))
    by later (inr there) (inr then_too) = later there then_too

-- no element is in the lists of two
pub one_of_flat : {X Y : Type 0} (f : X → List Y) (xs : List X) (a b : X) (y : Y) → AreDistinct (flat_map f xs) → Contains xs a → Contains xs b → Contains (f a) y → Contains (f b) y → a ≡ b
one_of_flat f [] a b y d p q u v = absurd (in_none a p)
one_of_flat {X} {Y} f (x ∷ xs) a b y d p q u v =
    by (λ p' q'. one_of_flat f xs a b y (distinct_back (f x) (flat_map f xs) d) p' q' u v) (first_or_later x a xs p) (first_or_later x b xs q)
  where
    P : X → Type 0
    P = λ z. Contains (f z) y

    by : (Contains xs a → Contains xs b → a ≡ b) → ((x ≡ a) ⊎ Contains xs a) → ((x ≡ b) ⊎ Contains xs b) → a ≡ b
    by later (inl s) (inl t) = sym s ∙ t
    by later (inl s) (inr there) = absurd (not_both (f x) (flat_map f xs) y d (subst P (sym s) u) (in_flat f xs b y there v))
    by later (inr there) (inl t) = absurd (not_both (f x) (flat_map f xs) y d (subst P (sym t) v) (in_flat f xs a y there u))
    by later (inr there) (inr too) = later there too

pub distinct_each : {X Y : Type 0} (f : X → List Y) (xs : List X) (x : X) → AreDistinct (flat_map f xs) → Contains xs x → AreDistinct (f x)
distinct_each f [] x d c = absurd (in_none x c)
distinct_each {X} {Y} f (z ∷ xs) x d c = by (distinct_each f xs x (distinct_back (f z) (flat_map f xs) d)) (first_or_later z x xs c)
  where
    by : (Contains xs x → AreDistinct (f x)) → ((z ≡ x) ⊎ Contains xs x) → AreDistinct (f x)
    by later (inl same) = let P : X → Type 0 = λ w. AreDistinct (f w) in subst P same (distinct_front (f z) (flat_map f xs) d)
    by later (inr there) = later there

-- ---- later ones that are related to an earlier one

later_nothing : {X : Type 0} (related : X → X → Bool) (earlier xs : List X) → AreDistinct (earlier ++ xs) → ((x y : X) → Contains (earlier ++ xs) x → Contains (earlier ++ xs) y → ¬ (x ≡ y) → related x y ≡ false)
    → filter (λ (pair : List X × X). list_any (related pair.1) pair.0) (with_earlier earlier xs) ≡ []
later_nothing related earlier [] d h = refl
later_nothing {X} related earlier (x ∷ xs) d h =
    let whole : (earlier ++ x ∷ []) ++ xs ≡ earlier ++ (x ∷ xs) = append_assoc earlier (x ∷ []) xs in
    let D : List X → Type 0 = λ zs. AreDistinct zs in
    let H : List X → Type 0 = λ zs. (a b : X) → Contains zs a → Contains zs b → ¬ (a ≡ b) → related a b ≡ false in
    filter_skip (λ (pair : List X × X). list_any (related pair.1) pair.0) (earlier, x) (with_earlier (earlier ++ x ∷ []) xs) (any_nothing (related x) earlier none)
    ∙ later_nothing related (earlier ++ x ∷ []) xs (subst D (sym whole) d) (subst H (sym whole) h)
  where
    none : (y : X) → Contains earlier y → related x y ≡ false
    none y c = h x y (in_middle earlier x xs) (in_front earlier (x ∷ xs) y c)
        (λ same. let P : X → Type 0 = λ z. Contains (x ∷ xs) z in not_both earlier (x ∷ xs) y d c (subst P same (at_first x xs)))

-- where only equal elements may be related, and none stands twice, none is related to an earlier one
pub no_later_ones : {X : Type 0} (related : X → X → Bool) (xs : List X) → AreDistinct xs → ((x y : X) → Contains xs x → Contains xs y → ¬ (x ≡ y) → related x y ≡ false) → later_ones related xs ≡ []
no_later_ones {X} related xs d h = ap (λ (pairs : List (List X × X)). map (λ (pair : List X × X). pair.1) pairs) (later_nothing related [] xs d h)

-- ---- the numbers below a number

pub in_below : (n k : ℕ) → Contains (numbers_below n) k → k < n
in_below zero k there = absurd (in_none k there)
in_below (suc n) k there = elim (Contains-append_cases (numbers_below n) (n ∷ []) k there) [
  | inl front ↦ omega (arith, in_below n k front)
  | inr back ↦ omega (arith, only_one n k back)
]
  where
    only_one : (n k : ℕ) → Contains (n ∷ []) k → n ≡ k
    only_one n k there = elim (first_or_later n k [] there) [ inl same ↦ same | inr none ↦ absurd (in_none k none) ]

pub below_distinct : (n : ℕ) → AreDistinct (numbers_below n)
below_distinct zero = tt
below_distinct (suc n) =
    distinct_append (numbers_below n) (n ∷ []) (below_distinct n) (λ there. in_none n there, tt)
    (λ k front back. absurd (omega (arith, in_below n k front, by k (first_or_later n k [] back))))
  where
    by : (k : ℕ) → ((n ≡ k) ⊎ Contains [] k) → n ≡ k
    by k (inl same) = same
    by k (inr none) = absurd (in_none k none)

pub shifted_distinct : (first : ℕ) (places : List ℕ) → AreDistinct places → AreDistinct (map (λ place. first + place) places)
shifted_distinct first [] distinct = tt
shifted_distinct first (place ∷ places) distinct = (
  λ there. let found = from_map (λ (n : ℕ). first + n) places (first + place) there in
      distinct.0 (subst (Contains places) (let same : found.0 ≡ place = omega (arith, found.2) in same) found.1),
  shifted_distinct first places distinct.1,
)
