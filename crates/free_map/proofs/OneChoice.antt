-- What is chosen for a need is one list.
use Rattle.std.proofs.Common.{◌≡◌, ℕ, suc, ◌+◌, ◌%◌, ◌≤◌, ◌==◌, if◌then◌else◌, List, [], ◌∷◌, ◌++◌, take, refl, sym, ap, ◌∙◌, subst, inl, inr, arith}
use Rattle.std.specs.List.{AllByRecursion, AllPairs, sum_by}
use Rattle.std.proofs.lemmas.Bool.{cases_lt, cases_eq}
use Rattle.std.proofs.lemmas.Bool.Decides.{nat_tests}
use Rattle.std.proofs.lemmas.List.Elements.{recursion_from_All, All-from_recursion}
use Rattle.std.proofs.lemmas.List.Sorted.{All-permutation, IsPermutation-sym, sum_by-IsPermutation}
use Rattle.std.proofs.lemmas.List.Sums.{sum_by-cons, sum_by-append}
use Rattle.free_map.specs.declared.run.Run.{Run}
use Rattle.free_map.specs.Runs.{AreApart}
use Rattle.free_map.specs.Free.{count_of}
use Rattle.free_map.specs.Place.{rounded, aligned_part}
use Rattle.free_map.specs.Several.{parts_of, Precedes, AreLongestFirst, IsCutFront, IsInOneRun, IsInLongest, AreChosen, AreTooShort}
use Rattle.free_map.proofs.Apart.{same_run, OneCovers}
use Rattle.free_map.proofs.Fit.{le_rounded, rounded_le, rounded_multiple, covers_part, place_covers}
use Rattle.free_map.proofs.Chosen.{parts_some, parts_none}

-- 1 where a run is another one, else 0
abbrev alike : Run → Run → ℕ
alike a b = if b.first == a.first then (if b.len == a.len then 1 else 0) else 0

alike_itself : (run : Run) → alike run run ≡ 1
alike_itself run = grind (arith, nat_tests)

other_first : (a b : Run) → ¬ (b.first ≡ a.first) → ¬ (1 ≤ alike a b)
other_first a b other h = grind (arith, nat_tests)

other_len : (a b : Run) → ¬ (b.len ≡ a.len) → ¬ (1 ≤ alike a b)
other_len a b other h = grind (arith, nat_tests)

alike_one : (a b : Run) → 1 ≤ alike a b → b ≡ a
alike_one a b h =
    elim (cases_eq b.first a.first) [
      | inl p ↦ (elim (cases_eq b.len a.len) [ inl q ↦ same_run b a p q | inr q ↦ absurd (other_len a b q h) ])
      | inr p ↦ absurd (other_first a b p h)
    ]

-- a run that occurs among others is as they are
occurs : (P : Run → Type 0) (run : Run) (runs : List Run) → AllByRecursion P runs → 1 ≤ sum_by (alike run) runs → P run
occurs P run [] h some = absurd (omega arith)
occurs P run (x ∷ runs) h some = elim (cases_lt 0 (alike run x)) [
  | inl one ↦ subst P (alike_one run x one) h.0
  | inr none ↦ (let e = sum_by-cons (alike run) x runs in occurs P run runs h.1 (omega arith))
]

-- the order by recursion on the list
abbrev Ordered : List Run → Type 0
Ordered [] = Unit {0}
Ordered (run ∷ runs) = AllByRecursion (Precedes run) runs × Ordered runs

ordered_from_pairs : (runs : List Run) → AllPairs Precedes runs → Ordered runs
ordered_from_pairs [] h = tt
ordered_from_pairs (run ∷ runs) h = (
  recursion_from_All (Precedes run) runs (λ k d lt. h 0 (suc k) d (omega arith) (omega arith)),
  ordered_from_pairs runs (λ i j d less lt. h (suc i) (suc j) d (omega arith) (omega arith)),
)

precedes_itself : (run : Run) → Precedes run run
precedes_itself run = inr (refl, omega arith)

same_from_both : (a b : Run) → Precedes a b → Precedes b a → a ≡ b
same_from_both a b (inl p) (inl q) = absurd (omega arith)
same_from_both a b (inl p) (inr q) = absurd (omega (arith, p, q.0))
same_from_both a b (inr p) (inl q) = absurd (omega (arith, q, p.0))
same_from_both a b (inr p) (inr q) = same_run a b (omega (arith, p.1, q.1)) p.0

abbrev SameCounts : List Run → List Run → Type 0
SameCounts xs ys = (run : Run) → sum_by (alike run) xs ≡ sum_by (alike run) ys

first_precedes : (x y : Run) (xs ys : List Run) → Ordered (x ∷ xs) → SameCounts (x ∷ xs) (y ∷ ys) → Precedes x y
first_precedes x y xs ys o same =
    let e = sum_by-cons (alike y) y ys in
    let one = alike_itself y in
    let equal = same y in
    occurs (Precedes x) y (x ∷ xs) (precedes_itself x, o.0) (omega arith)

-- two lists of the same runs in this order are one
ordered_same : (xs ys : List Run) → Ordered xs → Ordered ys → SameCounts xs ys → xs ≡ ys
ordered_same [] [] p q same = refl
ordered_same [] (y ∷ ys) p q same = let e = sum_by-cons (alike y) y ys in let one = alike_itself y in let equal : 0 ≡ sum_by (alike y) (y ∷ ys) = same y in absurd (omega arith)
ordered_same (x ∷ xs) [] p q same = let e = sum_by-cons (alike x) x xs in let one = alike_itself x in let equal : sum_by (alike x) (x ∷ xs) ≡ 0 = same x in absurd (omega arith)
ordered_same (x ∷ xs) (y ∷ ys) p q same =
    let head : x ≡ y = same_from_both x y (first_precedes x y xs ys p same) (first_precedes y x ys xs q (λ run. sym (same run))) in
    let tail : xs ≡ ys = ordered_same xs ys p.1 q.1 (λ run.
    let e = sum_by-cons (alike run) x xs in
    let f = sum_by-cons (alike run) y ys in
    let equal = same run in
    let one : alike run x ≡ alike run y = ap (alike run) head in
    omega arith) in
    cc

longest_first_same : (parts xs ys : List Run) → AreLongestFirst parts xs → AreLongestFirst parts ys → xs ≡ ys
longest_first_same parts xs ys p q =
    ordered_same xs ys (ordered_from_pairs xs p.order) (ordered_from_pairs ys q.order)
    (λ run. sum_by-IsPermutation (alike run) parts xs p.same ∙ sym (sum_by-IsPermutation (alike run) parts ys q.same))

-- two cuts of one list
cut_same : (count : ℕ) (xs ys : List Run) (x y : Run) (as' bs : List Run) (k l : ℕ) → xs ++ (x ∷ as') ≡ ys ++ (y ∷ bs)
    → count_of xs + k ≡ count → count_of ys + l ≡ count → 1 ≤ k → k ≤ x.len → 1 ≤ l → l ≤ y.len
    → xs ++ (record { first = x.first; len = k } ∷ []) ≡ ys ++ (record { first = y.first; len = l } ∷ [])
cut_same count [] [] x y as' bs k l e p q some within some' within' =
    let head : x ≡ y = cc in
    let first = ap (λ (r : Run). r.first) head in
    let made : ℕ → ℕ → List Run = λ f n. record { first = f; len = n } ∷ [] in
    let len : k ≡ l = omega (arith, p, q) in
    ap (λ (f : ℕ). made f k) first ∙ ap (λ (n : ℕ). made y.first n) len
cut_same count [] (z ∷ ys) x y as' bs k l e p q some within some' within' =
    let head : x ≡ z = cc in
    let same = ap (λ (r : Run). r.len) head in
    let sum = sum_by-cons (λ (r : Run). r.len) z ys in
    absurd (omega (arith, p, q, sum, same))
cut_same count (z ∷ xs) [] x y as' bs k l e p q some within some' within' =
    let head : z ≡ y = cc in
    let same = ap (λ (r : Run). r.len) head in
    let sum = sum_by-cons (λ (r : Run). r.len) z xs in
    absurd (omega (arith, p, q, sum, same))
cut_same count (w ∷ xs) (z ∷ ys) x y as' bs k l e p q some within some' within' =
    let head : w ≡ z = cc in
    let tail : xs ++ (x ∷ as') ≡ ys ++ (y ∷ bs) = cc in
    let same = ap (λ (r : Run). r.len) head in
    let sum = sum_by-cons (λ (r : Run). r.len) w xs in
    let sum' = sum_by-cons (λ (r : Run). r.len) z ys in
    let rest = cut_same (count_of xs + k) xs ys x y as' bs k l tail refl (omega (arith, p, q, sum, sum', same)) some within some' within' in
    ap (λ (r : Run). r ∷ (xs ++ (record { first = x.first; len = k } ∷ []))) head ∙ ap (λ (runs : List Run). z ∷ runs) rest

cut_front_same : (count : ℕ) (runs a b : List Run) → IsCutFront count runs a → IsCutFront count runs b → a ≡ b
cut_front_same count runs a b p q =
    p.chosen_are ∙ cut_same count p.whole q.whole p.last q.last p.rest q.rest p.kept q.kept (sym p.runs_are ∙ q.runs_are) p.count_is q.count_is p.some_kept p.kept_within q.some_kept q.kept_within ∙ sym q.chosen_are

one_longest : (runs a b : List Run) (need step : ℕ) → IsInLongest runs need step a → IsInLongest runs need step b → a ≡ b
one_longest runs a b need step p q =
    let same = longest_first_same (parts_of step runs) q.sorted p.sorted q.order p.order in
    let P : List Run → Type 0 = λ sorted. IsCutFront (rounded need step) (take 16 sorted) b in
    cut_front_same (rounded need step) (take 16 p.sorted) a b p.cut (subst P same q.cut)

one_in_one : (runs a b : List Run) (need step : ℕ) → IsInOneRun runs need step a → IsInOneRun runs need step b → a ≡ b
one_in_one runs a b need step p q =
    let up = p.lowest.lowest q.start q.lowest.place in
    let down = q.lowest.lowest p.start p.lowest.place in
    let same : p.start ≡ q.start = omega arith in
    let made : ℕ → List Run = λ start. record { first = start; len = rounded need step } ∷ [] in
    p.one ∙ ap made same ∙ sym q.one

pub one_choice : (runs a b : List Run) (need step : ℕ) → AreChosen runs need step a → AreChosen runs need step b → a ≡ b
one_choice runs a b need step (inl p) (inl q) = p.none ∙ sym q.none
one_choice runs a b need step (inl p) (inr (inl q)) = absurd (omega (arith, p.no_need, q.some_need))
one_choice runs a b need step (inl p) (inr (inr q)) = absurd (omega (arith, p.no_need, q.some_need))
one_choice runs a b need step (inr (inl p)) (inl q) = absurd (omega (arith, q.no_need, p.some_need))
one_choice runs a b need step (inr (inl p)) (inr (inl q)) = one_in_one runs a b need step p q
one_choice runs a b need step (inr (inl p)) (inr (inr q)) = absurd (q.no_place p.start p.lowest.place)
one_choice runs a b need step (inr (inr p)) (inl q) = absurd (omega (arith, q.no_need, p.some_need))
one_choice runs a b need step (inr (inr p)) (inr (inl q)) = absurd (p.no_place q.start q.lowest.place)
one_choice runs a b need step (inr (inr p)) (inr (inr q)) = one_longest runs a b need step p q

-- where a run covers so many tracks from a multiple on, some part has as many
covering_part : (P : Run → Type 0) (runs : List Run) (step count start : ℕ) → 1 ≤ step → 1 ≤ count → start % step ≡ 0 → count % step ≡ 0 → OneCovers start count runs
    → AllByRecursion P (parts_of step runs) → (part : Run) × (count ≤ part.len) × P part
covering_part P [] step count start some more h g c all = absurd c
covering_part P (run ∷ runs) step count start some more h g (inl p) all =
    let q = covers_part run step count start some h g p in
    let A : List Run → Type 0 = λ parts. AllByRecursion P parts in
    let here = subst A (parts_some step run runs (omega (arith, q.1))) all in
    (aligned_part step run, q.1, here.0)
covering_part P (run ∷ runs) step count start some more h g (inr c) all = elim (cases_lt 0 (aligned_part step run).len) [
  | inl lt ↦ (let A : List Run → Type 0 = λ parts. AllByRecursion P parts in
      let here = subst A (parts_some step run runs lt) all in covering_part P runs step count start some more h g c here.1)
  | inr none ↦ (let A : List Run → Type 0 = λ parts. AllByRecursion P parts in
      covering_part P runs step count start some more h g c (subst A (parts_none step run runs none) all))
]

shorter : (x : Run) (xs : List Run) (top : ℕ) → AllByRecursion (Precedes x) xs → x.len ≤ top → AllByRecursion (λ run. run.len ≤ top) xs
shorter x [] top h le = tt
shorter x (y ∷ xs) top h le = (elim h.0 [ inl p ↦ omega arith | inr p ↦ omega (arith, p.0) ], shorter x xs top h.1 le)

-- of runs with the longest first none is longer than the first 16 together
none_longer : (sorted : List Run) → Ordered sorted → AllByRecursion (λ run. run.len ≤ count_of (take 16 sorted)) sorted
none_longer [] o = tt
none_longer (x ∷ xs) o =
    let sum : count_of (take 16 (x ∷ xs)) ≡ x.len + count_of (take 15 xs) = sum_by-cons (λ (r : Run). r.len) x (take 15 xs) in
    (omega arith, shorter x xs (count_of (take 16 (x ∷ xs))) o.0 (omega arith))

no_one_where_short : (runs chosen : List Run) (need step longest : ℕ) → AreApart 0 runs → 1 ≤ step → AreTooShort runs need step longest → ¬ IsInOneRun runs need step chosen
no_one_where_short runs chosen need step longest a some short h =
    let top = count_of (take 16 short.sorted) in
    let Below : Run → Type 0 = λ run. run.len ≤ top in
    let order = short.order in
    let near = le_rounded need step some in
    let sorted = none_longer short.sorted (ordered_from_pairs short.sorted order.order) in
    let parts = recursion_from_All Below (parts_of step runs)
    (All-permutation Below short.sorted (parts_of step runs) (IsPermutation-sym (parts_of step runs) short.sorted order.same) (All-from_recursion Below short.sorted sorted)) in
    let found = covering_part Below runs step (rounded need step) h.start some (omega (arith, near.0, h.some_need)) h.lowest.place.aligned (rounded_multiple need step some)
    (place_covers runs need step h.start a h.some_need some h.lowest.place) parts in
    omega (arith, found.1, found.2, short.short)

no_longest_where_short : (runs chosen : List Run) (need step longest : ℕ) → AreTooShort runs need step longest → ¬ IsInLongest runs need step chosen
no_longest_where_short runs chosen need step longest short h =
    let same = longest_first_same (parts_of step runs) short.sorted h.sorted short.order h.order in
    let cut = h.cut in
    let Len : Run → ℕ = λ run. run.len in
    let front = ap (λ (sorted : List Run). count_of (take 16 sorted)) same in
    let around = ap count_of cut.runs_are ∙ sum_by-append Len cut.whole (cut.last ∷ cut.rest) in
    let behind = sum_by-cons Len cut.last cut.rest in
    omega (arith, front, around, behind, cut.count_is, cut.kept_within, short.short)

pub no_choice : (runs chosen : List Run) (need step longest : ℕ) → AreApart 0 runs → 1 ≤ step → AreTooShort runs need step longest → ¬ AreChosen runs need step chosen
no_choice runs chosen need step longest a some short (inl h) =
    let Q : ℕ → Type 0 = λ n. rounded n step ≤ 0 in
    let zero_whole : 0 % step ≡ 0 = omega arith in
    let none : rounded need step ≤ 0 = subst Q (sym h.no_need) (rounded_le 0 0 step some zero_whole (omega arith)) in
    omega (arith, none, short.short)
no_choice runs chosen need step longest a some short (inr (inl h)) = no_one_where_short runs chosen need step longest a some short h
no_choice runs chosen need step longest a some short (inr (inr h)) = no_longest_where_short runs chosen need step longest short h
