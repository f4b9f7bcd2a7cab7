-- Lists of distinct elements, once one is taken out of both or put into both.
use Rattle.std.proofs.Common.{◌≡◌, ◌⊎◌, inl, inr, ◌≤◌, List, [], ◌∷◌, ◌++◌, length, map, Contains, refl, sym, ap, subst, arith, length-append}
use Rattle.std.specs.List.Sorted.{IsPermutation}
use Rattle.std.proofs.lemmas.List.Sorted.{IsPermutation-sym, IsPermutation-trans, IsPermutation-cons, IsPermutation-middle, Contains-permutation, length_permutation}
use Rattle.vtoc_layout.specs.Layout.{AreDistinct}
use Rattle.vtoc_layout.proofs.Distinct.{Parted, parted, HaveSame, first_or_later, at_first, in_later, among_others, or_other, distinct_others, no_more, map_permuted}

module _ {X : Type 0} where
  -- one that stands later stands there without the first
  is_later : (y z : X) (ys : List X) → Contains ys y → Contains (y ∷ ys) z → Contains ys z
  is_later y z ys there c = by (first_or_later y z ys c)
    where
      by : ((y ≡ z) ⊎ Contains ys z) → Contains ys z
      by (inl same) = subst (λ (x : X). Contains ys x) same there
      by (inr later) = later

  -- elements in another order are as distinct
  distinct_moved : (ys xs : List X) → AreDistinct xs → HaveSame xs ys → length ys ≤ length xs → AreDistinct ys
  distinct_moved [] xs d same long = tt
  distinct_moved (y ∷ ys) xs d same long =
      let fresh : ¬ Contains ys y = λ c. omega (arith, long, no_more xs ys d (λ z h. is_later y z ys c (same.there z h))) in
      (fresh, by fresh (parted xs y (same.back y (at_first y ys))) (λ rest d' s' l'. distinct_moved ys rest d' s' l'))
    where
      by : ¬ Contains ys y → Parted xs y → ((rest : List X) → AreDistinct rest → HaveSame rest ys → length ys ≤ length rest → AreDistinct ys) → AreDistinct ys
      by fresh p later =
          let apart : AreDistinct (y ∷ (p.front ++ p.back)) = distinct_others p.front y p.back (subst (λ (zs : List X). AreDistinct zs) p.is d) in
          later (p.front ++ p.back) apart.1 (record { there = into apart.0; back = out fresh })
          (omega (arith, long, ap length p.is, length-append p.front (y ∷ p.back), length-append p.front p.back))
        where
          into : ¬ Contains (p.front ++ p.back) y → (z : X) → Contains (p.front ++ p.back) z → Contains ys z
          into fresh z c = left (first_or_later y z ys (same.there z (subst (λ (zs : List X). Contains zs z) (sym p.is) (among_others p.front y p.back z c))))
            where
              left : ((y ≡ z) ⊎ Contains ys z) → Contains ys z
              left (inl one) = absurd (fresh (subst (λ (x : X). Contains (p.front ++ p.back) x) (sym one) c))
              left (inr there) = there

          out : ¬ Contains ys y → (z : X) → Contains ys z → Contains (p.front ++ p.back) z
          out fresh z c = left (or_other p.front y p.back z (subst (λ (zs : List X). Contains zs z) p.is (same.back z (in_later y z ys c))))
            where
              left : ((y ≡ z) ⊎ Contains (p.front ++ p.back) z) → Contains (p.front ++ p.back) z
              left (inl one) = absurd (fresh (subst (λ (x : X). Contains ys x) (sym one) c))
              left (inr there) = there

  have_same : (xs ys : List X) → IsPermutation xs ys → HaveSame xs ys
  have_same xs ys moved = record {
    there = λ z c. Contains-permutation xs ys z moved c;
    back = λ z c. Contains-permutation ys xs z (IsPermutation-sym xs ys moved) c;
  }

  itself : (xs : List X) → map (λ (x : X). x) xs ≡ xs
  itself [] = refl
  itself (x ∷ xs) = ap (λ (more : List X). x ∷ more) (itself xs)

  -- one that stands in both is taken out of both
  pub taken_out : (xs ys us vs : List X) (x : X) → AreDistinct (xs ++ x ∷ ys) → IsPermutation (xs ++ x ∷ ys) (us ++ x ∷ vs) → IsPermutation (xs ++ ys) (us ++ vs)
  taken_out xs ys us vs x d moved =
      let same = have_same (xs ++ x ∷ ys) (us ++ x ∷ vs) moved in
      let one = distinct_others xs x ys d in
      let long = length_permutation (xs ++ x ∷ ys) (us ++ x ∷ vs) moved in
      let two = distinct_others us x vs (distinct_moved (us ++ x ∷ vs) (xs ++ x ∷ ys) d same (omega (arith, long))) in
      let left = map_permuted (λ (y : X). y) (xs ++ ys) (us ++ vs) one.1 two.1
      (record {
        there = λ z c. rest z (us ++ vs) (xs ++ ys) one.0 c (or_other us x vs z (same.there z (among_others xs x ys z c)));
        back = λ z c. rest z (xs ++ ys) (us ++ vs) two.0 c (or_other xs x ys z (same.back z (among_others us x vs z c)));
      }) in
      subst (λ (zs : List X). IsPermutation zs (us ++ vs)) (itself (xs ++ ys)) (subst (λ (zs : List X). IsPermutation (map (λ (y : X). y) (xs ++ ys)) zs) (itself (us ++ vs)) left)
    where
      rest : (z : X) (here there : List X) → ¬ Contains there x → Contains there z → ((x ≡ z) ⊎ Contains here z) → Contains here z
      rest z here there fresh c (inl one) = absurd (fresh (subst (λ (y : X). Contains there y) (sym one) c))
      rest z here there fresh c (inr other) = other

  pub put_into : (xs ys us vs : List X) (x : X) → IsPermutation (xs ++ ys) (us ++ vs) → IsPermutation (xs ++ x ∷ ys) (us ++ x ∷ vs)
  put_into xs ys us vs x moved =
      IsPermutation-trans (xs ++ x ∷ ys) (x ∷ (xs ++ ys)) (us ++ x ∷ vs) (IsPermutation-middle xs x ys)
      (IsPermutation-trans (x ∷ (xs ++ ys)) (x ∷ (us ++ vs)) (us ++ x ∷ vs) (IsPermutation-cons x (xs ++ ys) (us ++ vs) moved)
      (IsPermutation-sym (us ++ x ∷ vs) (x ∷ (us ++ vs)) (IsPermutation-middle us x vs)))
