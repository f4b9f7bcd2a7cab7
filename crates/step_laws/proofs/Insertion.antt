-- A data set stands in one place among others that are ordered by their names, where none of them has its name.
use Rattle.std.proofs.Common.{◌≡◌, ◌≢◌, ℕ, suc, ◌+◌, List, [], ◌∷◌, ◌++◌, length, get_or, All, Bool, false, refl, sym, ap, subst, ◌∙◌, arith, length-append}
use Rattle.std.specs.Cmp.{IsStrictWeakOrder}
use Rattle.std.specs.Cmp.Lexicographic.{slice_cmp}
use Rattle.std.specs.FinMap.{nat_cmp-IsAntisymmetric, slice_cmp-IsAntisymmetric}
use Rattle.std.specs.Ordering.{is_lt, nat_cmp, ordering_reverse}
use Rattle.std.specs.declared.cmp.Ordering.{Ordering}
use Rattle.std.specs.declared.cmp.Ordering.TheVariants.{Less, Equal, Greater}
use Rattle.std.proofs.lemmas.Bool.{both_ways}
use Rattle.std.proofs.lemmas.Cmp.{nat_list_cmp_total}
use Rattle.std.proofs.lemmas.List.{get_or_at}
use Rattle.std.proofs.lemmas.List.Elements.{All-head, All-tail}
use Rattle.std.proofs.lemmas.List.MinMax.{ranks_by}
use Rattle.std.proofs.lemmas.List.Sorted.{sorted_far}
use Rattle.volume_model.specs.Unit.{DataSet, AreByName}

abbrev before_it : DataSet → DataSet → Bool
before_it a b = is_lt (slice_cmp nat_cmp a.name b.name)

by_names : IsStrictWeakOrder before_it
by_names = ranks_by nat_list_cmp_total (λ (set : DataSet). set.name)

same_name : (a b : DataSet) → before_it a b ≡ false → before_it b a ≡ false → a.name ≡ b.name
same_name a b one other = by (slice_cmp nat_cmp a.name b.name) refl
  where
    by : (r : Ordering) → slice_cmp nat_cmp a.name b.name ≡ r → a.name ≡ b.name
    by Less e = absurd (both_ways (before_it a b) one (ap is_lt e))
    by Equal e = slice_cmp-IsAntisymmetric nat_cmp-IsAntisymmetric a.name b.name e
    by Greater e = absurd (both_ways (before_it b a) other (ap is_lt (nat_list_cmp_total.antisymm b.name a.name ∙ ap ordering_reverse e)))

rest_by_name : (first : DataSet) (sets : List DataSet) → AreByName (first ∷ sets) → AreByName sets
rest_by_name first sets order k d low within =
    let e : suc k + 1 ≡ suc (k + 1) = omega arith in
    subst (λ (n : ℕ). before_it (get_or (first ∷ sets) n d) (get_or sets k d) ≡ false) e (order (suc k) d (omega arith) (omega (arith, within)))

module _ (copy : DataSet) where
  abbrev HasOther : DataSet → Type 0
  HasOther other = other.name ≢ copy.name

  -- it isn't both before another one and behind it
  not_both : (ahead behind rest : List DataSet) (first : DataSet) → HasOther first → AreByName (copy ∷ first ∷ rest) → AreByName (first ∷ (ahead ++ (copy ∷ behind))) → ⊥
  not_both ahead behind rest first other one two =
      let low : before_it first copy ≡ false = one 0 copy (omega arith) (omega arith) in
      let far = sorted_far before_it by_names (first ∷ (ahead ++ (copy ∷ behind))) two 0 (suc (length ahead)) copy (omega arith) (omega (arith, length-append ahead (copy ∷ behind))) in
      let high : before_it copy first ≡ false =
      subst (λ (set : DataSet). before_it set first ≡ false) (get_or_at ahead copy behind copy (length ahead) refl) far in
      other (same_name first copy low high)

  pub one_place : (front back ahead behind : List DataSet) → front ++ back ≡ ahead ++ behind → All HasOther (front ++ back) → AreByName (front ++ (copy ∷ back))
      → AreByName (ahead ++ (copy ∷ behind)) → front ++ (copy ∷ back) ≡ ahead ++ (copy ∷ behind)
  one_place [] back [] behind same all one two = ap (λ (sets : List DataSet). copy ∷ sets) same
  one_place [] back (w ∷ ahead) behind same all one two =
      absurd (not_both ahead behind (ahead ++ behind) w (All-head HasOther w (ahead ++ behind) (subst (λ (sets : List DataSet). All HasOther sets) same all))
      (subst (λ (sets : List DataSet). AreByName (copy ∷ sets)) same one) two)
  one_place (z ∷ front) back [] behind same all one two =
      absurd (not_both front back (front ++ back) z (All-head HasOther z (front ++ back) all) (subst (λ (sets : List DataSet). AreByName (copy ∷ sets)) (sym same) two) one)
  one_place (z ∷ front) back (w ∷ ahead) behind same all one two =
      let first : z ≡ w = cc in
      let others : front ++ back ≡ ahead ++ behind = cc in
      let rest =
      one_place front back ahead behind others (All-tail HasOther z (front ++ back) all) (rest_by_name z (front ++ (copy ∷ back)) one) (rest_by_name w (ahead ++ (copy ∷ behind)) two) in
      (λ i. first i ∷ rest i)
