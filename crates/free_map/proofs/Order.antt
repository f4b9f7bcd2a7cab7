-- Parts in the order in which they are taken.
use Rattle.std.proofs.Common.{◌≡◌, ℕ, ◌<◌, ◌≤◌, Bool, false, List, [], ◌∷◌, get_or, Ordering, sym, ap, ◌∙◌, inl, inr, arith}
use Rattle.std.specs.declared.cmp.Ordering.TheVariants.{Less, Equal}
use Rattle.std.specs.Ordering.{nat_cmp, ordering_then, is_lt}
use Rattle.std.specs.Cmp.{IsTotalOrder, IsStrictWeakOrder, nat_cmp_total, on_total, back_total, then_total}
use Rattle.std.specs.Fn.{Called, ComparesAs}
use Rattle.std.specs.List.{AllByRecursion, AllPairs}
use Rattle.std.specs.List.Sorted.{IsSortedBy, IsPermutation}
use Rattle.std.proofs.lemmas.Bool.{cases_order, false≢true}
use Rattle.std.proofs.lemmas.Bool.Decides.{nat_tests}
use Rattle.std.proofs.lemmas.Fn.{always_returns_same}
use Rattle.std.proofs.lemmas.List.Elements.{recursion_from_All, All-from_recursion}
use Rattle.std.proofs.lemmas.List.Sorted.{ranks_by, sorted_far, All-permutation, IsPermutation-sym}
use denote.Param.Members.{Mut}
use denote.Ref.{Bor}
use Rattle.free_map.specs.declared.run.Run.{Run}
use Rattle.free_map.specs.Free.{longest_of}
use Rattle.free_map.specs.Several.{Precedes}

-- how two runs compare: by length from the longest down, then by first track
abbrev pub by_length : Run → Run → Ordering
by_length a b = ordering_then (nat_cmp b.len a.len) (nat_cmp a.first b.first)

by_length_total : IsTotalOrder by_length
by_length_total =
    then_total (back_total (on_total (λ (r : Run). r.len) nat_cmp_total)) (on_total (λ (r : Run). r.first) nat_cmp_total)

cmp_less : (a b : ℕ) → a < b → nat_cmp a b ≡ Less
cmp_less a b lt = grind (arith, nat_tests)

cmp_equal : (a b : ℕ) → a ≡ b → nat_cmp a b ≡ Equal
cmp_equal a b e = grind (arith, nat_tests)

-- a run that isn't before another one stands behind it
pub precedes_from_lt : (a b : Run) → is_lt (by_length b a) ≡ false → Precedes a b
precedes_from_lt a b h = elim (cases_order a.len b.len) [
  | inl e ↦ (elim (cases_order a.first b.first) [
    | inl same ↦ inr (e, omega arith)
    | inr q ↦ (elim q [
      | inl lt ↦ inr (e, omega arith)
      | inr gt ↦ (let first = cmp_less b.first a.first gt in let len = cmp_equal a.len b.len e in
          absurd (false≢true (sym h ∙ ap is_lt (ap (λ o. ordering_then o (nat_cmp b.first a.first)) len ∙ first))))
    ])
  ])
  | inr q ↦ (elim q [
    | inl lt ↦ (let len = cmp_less a.len b.len lt in
        absurd (false≢true (sym h ∙ ap (λ o. is_lt (ordering_then o (nat_cmp b.first a.first))) len)))
    | inr gt ↦ inl gt
  ])
]

-- what a sort by such a closure leaves
pub ordered_from_sort : {F : Type 0} {g : Mut F (Bor Run × (Bor Run × Unit {0})) Ordering} {f : F} (xs : List Run)
    → ((lt : Run → Run → Bool) → IsStrictWeakOrder lt → ComparesAs g lt f → IsSortedBy lt xs)
    → ((a : Bor Run × (Bor Run × Unit {0})) (r : Ordering) (f' : F) → Called g f a r f' → (r ≡ by_length a.0.now a.1.0.now) × (f' ≡ f)) → AllPairs Precedes xs
ordered_from_sort {g = g} {f = f} xs up h =
    let lt : Run → Run → Bool = λ a b. is_lt (by_length a b) in
    let order : IsStrictWeakOrder lt = ranks_by by_length_total (λ (r : Run). r) in
    let compares = always_returns_same g (λ a r. is_lt r ≡ lt a.0.now a.1.0.now) f (λ a r f' k. (ap is_lt (h a r f' k).0, (h a r f' k).1)) in
    λ i j d less below. precedes_from_lt (get_or xs i d) (get_or xs j d) (sorted_far lt order xs (up lt order compares) i j d (omega arith) below)

-- the longest of runs is not changed by their order
longest_bound : (top : ℕ) (runs : List Run) → AllByRecursion (λ run. run.len ≤ top) runs → longest_of runs ≤ top
longest_bound top [] h = omega arith
longest_bound top (run ∷ runs) h = let le = longest_bound top runs h.1 in omega (arith, h.0, le)

all_bound : (top : ℕ) (runs : List Run) → longest_of runs ≤ top → AllByRecursion (λ run. run.len ≤ top) runs
all_bound top [] le = tt
all_bound top (run ∷ runs) le = (omega arith, all_bound top runs (omega arith))

longest_le_permutation : (xs ys : List Run) → IsPermutation xs ys → longest_of ys ≤ longest_of xs
longest_le_permutation xs ys p =
    let Below : Run → Type 0 = λ run. run.len ≤ longest_of xs in
    longest_bound (longest_of xs) ys (recursion_from_All Below ys
    (All-permutation Below xs ys p (All-from_recursion Below xs (all_bound (longest_of xs) xs (omega arith)))))

pub longest_permutation : (xs ys : List Run) → IsPermutation xs ys → longest_of ys ≡ longest_of xs
longest_permutation xs ys p =
    let down = longest_le_permutation xs ys p in
    let up = longest_le_permutation ys xs (IsPermutation-sym xs ys p) in
    omega arith
