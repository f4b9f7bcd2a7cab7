-- Runs of which no two have a track.
use Rattle.std.proofs.Common.{◌≡◌, ◌⊎◌, ◌&&◌, List, [], ◌∷◌, ◌++◌, length, get_or, map, filter, not, Bool, true, false, All, Contains, refl, sym, ap, subst, ◌∙◌, inl, inr, append_assoc}
use Rattle.std.specs.Prelude.{nat_lt, nat_le}
use Rattle.std.specs.List.{flat_map, list_any}
use Rattle.std.proofs.lemmas.List.{map-append}
use Rattle.std.proofs.lemmas.List.Elements.{All-contains, Contains-get_or, Contains-append_cases}
use Rattle.std.proofs.lemmas.Grind.{flat_map-append}
use Rattle.free_map.specs.declared.run.Run.{Run}
use Rattle.volume_model.specs.Space.{end_of, overlap}
use Rattle.volume_model.specs.Check.{with_earlier, later_ones, any_overlap, overlap_within}
use Rattle.volume_model.proofs.Filters.{filter_skip, filter_keep}
use Rattle.vtoc_layout.specs.Layout.{AreDistinct, AreApart}
use Rattle.vtoc_layout.proofs.Distinct.{first_or_later, at_first, in_later, in_none, in_front, in_back, in_flat, from_flat, any_nothing}

and_turned : (a b : Bool) → (a && b) ≡ (b && a)
and_turned true true = refl
and_turned true false = refl
and_turned false true = refl
and_turned false false = refl

pub overlap_turned : (a b : Run) → overlap a b ≡ false → overlap b a ≡ false
overlap_turned a b e = and_turned (nat_lt b.first (end_of a)) (nat_lt a.first (end_of b)) ∙ e

-- no run of these has a track with one of those
abbrev pub NoneShared : List Run → List Run → Type 0
NoneShared runs others = (a b : Run) → Contains runs a → Contains others b → overlap a b ≡ false

pub none_overlap : (runs others : List Run) → NoneShared runs others → any_overlap runs others ≡ false
none_overlap runs others h = any_nothing (λ run. list_any (overlap run) others) runs (λ a p. any_nothing (overlap a) others (λ b q. h a b p q))

pub all_from : {X : Type 0} (P : X → Type 0) (xs : List X) → ((x : X) → Contains xs x → P x) → All P xs
all_from P xs h k d lt = h (get_or xs k d) (Contains-get_or xs k d lt)

-- ---- joined lists

pub apart_front : (xs ys : List Run) → AreApart (xs ++ ys) → AreApart xs
apart_front [] ys h = tt
apart_front (x ∷ xs) ys h =
    (all_from (λ other. overlap x other ≡ false) xs (λ y c. All-contains (λ (other : Run). overlap x other ≡ false) (xs ++ ys) y h.0 (in_front xs ys y c)), apart_front xs ys h.1)

pub apart_back : (xs ys : List Run) → AreApart (xs ++ ys) → AreApart ys
apart_back [] ys h = h
apart_back (x ∷ xs) ys h = apart_back xs ys h.1

pub apart_between : (xs ys : List Run) → AreApart (xs ++ ys) → NoneShared xs ys
apart_between [] ys h a b p q = absurd (in_none a p)
apart_between (x ∷ xs) ys h a b p q = by (λ c. apart_between xs ys h.1 a b c q) (first_or_later x a xs p)
  where
    by : (Contains xs a → overlap a b ≡ false) → ((x ≡ a) ⊎ Contains xs a) → overlap a b ≡ false
    by later (inl same) = ap (λ (run : Run). overlap run b) (sym same) ∙ All-contains (λ (other : Run). overlap x other ≡ false) (xs ++ ys) b h.0 (in_back xs ys b q)
    by later (inr there) = later there

pub apart_joined : (xs ys : List Run) → AreApart xs → AreApart ys → NoneShared xs ys → AreApart (xs ++ ys)
apart_joined [] ys p q h = q
apart_joined (x ∷ xs) ys p q h = (all_from (λ other. overlap x other ≡ false) (xs ++ ys) (λ y c. by y (Contains-append_cases xs ys y c)), apart_joined xs ys p.1 q (λ a b s t. h a b (in_later x a xs s) t))
  where
    by : (y : Run) → (Contains xs y ⊎ Contains ys y) → overlap x y ≡ false
    by y (inl here) = All-contains (λ (other : Run). overlap x other ≡ false) xs y p.0 here
    by y (inr there) = h x y (at_first x xs) there

module _ {X : Type 0} (f : X → List Run) where
  pub apart_each : (xs : List X) (x : X) → AreApart (flat_map f xs) → Contains xs x → AreApart (f x)
  apart_each [] x h c = absurd (in_none x c)
  apart_each (y ∷ xs) x h c = by (apart_each xs x (apart_back (f y) (flat_map f xs) h)) (first_or_later y x xs c)
    where
      by : (Contains xs x → AreApart (f x)) → ((y ≡ x) ⊎ Contains xs x) → AreApart (f x)
      by later (inl same) = let P : X → Type 0 = λ z. AreApart (f z) in subst P same (apart_front (f y) (flat_map f xs) h)
      by later (inr there) = later there

  pub apart_two : (xs : List X) (x y : X) → AreApart (flat_map f xs) → Contains xs x → Contains xs y → ¬ (x ≡ y) → NoneShared (f x) (f y)
  apart_two [] x y h p q differ a b s t = absurd (in_none x p)
  apart_two (z ∷ xs) x y h p q differ a b s t =
      by (λ p' q'. apart_two xs x y (apart_back (f z) (flat_map f xs) h) p' q' differ a b s t) (first_or_later z x xs p) (first_or_later z y xs q)
    where
      between : NoneShared (f z) (flat_map f xs)
      between = apart_between (f z) (flat_map f xs) h

      by : (Contains xs x → Contains xs y → overlap a b ≡ false) → ((z ≡ x) ⊎ Contains xs x) → ((z ≡ y) ⊎ Contains xs y) → overlap a b ≡ false
      by later (inl e) (inl g) = absurd (differ (sym e ∙ g))
      by later (inl e) (inr there) = let P : X → Type 0 = λ w. Contains (f w) a in between a b (subst P (sym e) s) (in_flat f xs y b there t)
      by later (inr there) (inl g) = let P : X → Type 0 = λ w. Contains (f w) b in overlap_turned b a (between b a (subst P (sym g) t) (in_flat f xs x a there s))
      by later (inr there) (inr too) = later there too

  pub apart_flat : (xs : List X) → AreDistinct xs → ((x : X) → Contains xs x → AreApart (f x)) → ((x y : X) → Contains xs x → Contains xs y → ¬ (x ≡ y) → NoneShared (f x) (f y)) → AreApart (flat_map f xs)
  apart_flat [] d each two = tt
  apart_flat (x ∷ xs) d each two =
      apart_joined (f x) (flat_map f xs) (each x (at_first x xs))
      (apart_flat xs d.1 (λ y c. each y (in_later x y xs c)) (λ y z p q. two y z (in_later x y xs p) (in_later x z xs q))) between
    where
      between : NoneShared (f x) (flat_map f xs)
      between a b p q =
          let at = from_flat f xs b q in
          let P : X → Type 0 = λ y. Contains xs y in
          two x at.0 (at_first x xs) (in_later x at.0 xs at.1) (λ same. d.0 (subst P (sym same) at.1)) a b p at.2

-- ---- none of them has a track with an earlier one

later_apart : (earlier xs : List Run) → AreApart (earlier ++ xs) → filter (λ (pair : List Run × Run). list_any (overlap pair.1) pair.0) (with_earlier earlier xs) ≡ []
later_apart earlier [] h = refl
later_apart earlier (x ∷ xs) h =
    let P : List Run → Type 0 = λ runs. AreApart runs in
    filter_skip (λ (pair : List Run × Run). list_any (overlap pair.1) pair.0) (earlier, x) (with_earlier (earlier ++ x ∷ []) xs) (any_nothing (overlap x) earlier none)
    ∙ later_apart (earlier ++ x ∷ []) xs (subst P (sym (append_assoc earlier (x ∷ []) xs)) h)
  where
    none : (y : Run) → Contains earlier y → overlap x y ≡ false
    none y c = overlap_turned y x (apart_between earlier (x ∷ xs) h y x c (at_first x xs))

pub none_within : (runs : List Run) → AreApart runs → overlap_within runs ≡ false
none_within runs h =
    let none : later_ones overlap runs ≡ [] = ap (λ (pairs : List (List Run × Run)). map (λ (pair : List Run × Run). pair.1) pairs) (later_apart [] runs h) in
    ap (λ (found : List Run). not (nat_le (length found) 0)) none

-- ---- lists of lists

pub map_flat : {X Y Z : Type 0} (g : Y → Z) (f : X → List Y) (xs : List X) → map g (flat_map f xs) ≡ flat_map (λ x. map g (f x)) xs
map_flat g f [] = refl
map_flat {Z} g f (x ∷ xs) = map-append g (f x) (flat_map f xs) ∙ ap (λ (zs : List Z). map g (f x) ++ zs) (map_flat g f xs)

pub flat_flat : {X Y Z : Type 0} (g : Y → List Z) (f : X → List Y) (xs : List X) → flat_map (λ x. flat_map g (f x)) xs ≡ flat_map g (flat_map f xs)
flat_flat g f [] = refl
flat_flat {Z} g f (x ∷ xs) = ap (λ (zs : List Z). flat_map g (f x) ++ zs) (flat_flat g f xs) ∙ sym (flat_map-append g (f x) (flat_map f xs))

pub flat_same : {X Y : Type 0} (f g : X → List Y) (xs : List X) → ((x : X) → Contains xs x → f x ≡ g x) → flat_map f xs ≡ flat_map g xs
flat_same f g [] h = refl
flat_same f g (x ∷ xs) h = (λ i. h x (at_first x xs) i ++ flat_same f g xs (λ y c. h y (in_later x y xs c)) i)

-- those that give nothing may be left out
pub flat_kept : {X Y : Type 0} (f : X → List Y) (test : X → Bool) (xs : List X) → ((x : X) → Contains xs x → test x ≡ false → f x ≡ []) → flat_map f xs ≡ flat_map f (filter test xs)
flat_kept f test [] h = refl
flat_kept {X} {Y} f test (x ∷ xs) h = by (flat_kept f test xs (λ y c. h y (in_later x y xs c))) (test x) refl
  where
    by : flat_map f xs ≡ flat_map f (filter test xs) → (t : Bool) → test x ≡ t → flat_map f (x ∷ xs) ≡ flat_map f (filter test (x ∷ xs))
    by later true e = ap (λ (ys : List Y). f x ++ ys) later ∙ sym (ap (flat_map f) (filter_keep test x xs e))
    by later false e = (λ i. h x (at_first x xs) e i ++ later i) ∙ sym (ap (flat_map f) (filter_skip test x xs e))
