-- What the runs that are chosen for a need have in common.
use Rattle.std.proofs.Common.{◌≡◌, ℕ, zero, suc, ◌+◌, ◌*◌, ◌/◌, ◌%◌, ◌<◌, ◌≤◌, Bool, cond, nat_lt, if◌then◌else◌, List, [], ◌∷◌, ◌++◌, length, get_or, take, refl, sym, ap, ◌∙◌, subst, inl, inr, arith, length-append}
use Rattle.std.specs.List.{AllByRecursion, AllPairs, sum_by}
use Rattle.std.proofs.lemmas.Bool.{cases_lt, lt-ltb, le-ltb}
use Rattle.std.proofs.lemmas.Bool.Decides.{nat_tests}
use Rattle.std.proofs.lemmas.List.{length-take}
use Rattle.std.proofs.lemmas.List.Elements.{recursion_from_All, All-from_recursion, All-take}
use Rattle.std.proofs.lemmas.List.Sorted.{All-permutation, sum_by-IsPermutation}
use Rattle.std.proofs.lemmas.List.Sums.{sum_by-cons, sum_by-append, sum_by-take-le, get_or-le-sum_by}
use Rattle.std.proofs.Math.Nat.{mul-add-mod_self_right, div-mul-le_self, mul-mod_left}
use Rattle.free_map.specs.declared.run.Run.{Run}
use Rattle.free_map.specs.Runs.{HasTrack, InRuns, AreApart}
use Rattle.free_map.specs.Free.{count_of}
use Rattle.free_map.specs.Place.{rounded, aligned_part}
use Rattle.free_map.specs.Several.{parts_of, IsForNothing, IsInOneRun, IsInLongest, AreChosen, ArePlaces}
use Rattle.free_map.proofs.Fit.{le_rounded, rounded_multiple, rounded_le, multiple_is}

-- 1 where a run holds a track, else 0
abbrev holding : ℕ → Run → ℕ
holding t run = if nat_lt t run.first then 0 else (if nat_lt t (run.first + run.len) then 1 else 0)

holding_in : (t : ℕ) (run : Run) → HasTrack run t → holding t run ≡ 1
holding_in t run h = let le : run.first ≤ t = h.0 in let lt : t < run.first + run.len = h.1 in grind (arith, nat_tests)

holding_before : (t : ℕ) (run : Run) → t < run.first → holding t run ≡ 0
holding_before t run lt = grind (arith, nat_tests)

holding_out : (t : ℕ) (run : Run) → run.first ≤ t → run.first + run.len ≤ t → holding t run ≡ 0
holding_out t run le le' = grind (arith, nat_tests)

holding_behind : (t : ℕ) (run : Run) → run.first + run.len ≤ t → holding t run ≡ 0
holding_behind t run le = elim (cases_lt t run.first) [ inl lt ↦ holding_before t run lt | inr from ↦ holding_out t run from le ]

holding_le : (t : ℕ) (run : Run) → holding t run ≤ 1
holding_le t run = elim (cases_lt t run.first) [
  | inl lt ↦ (let e = holding_before t run lt in omega arith)
  | inr le ↦ (elim (cases_lt t (run.first + run.len)) [
    | inl lt ↦ (let e = holding_in t run (le, lt) in omega arith)
    | inr out ↦ (let e = holding_out t run le out in omega arith)
  ])
]

-- a run that holds no more than another one
holding_within : (t : ℕ) (a b : Run) → b.first ≤ a.first → a.first + a.len ≤ b.first + b.len → holding t a ≤ holding t b
holding_within t a b le le' = elim (cases_lt t a.first) [
  | inl lt ↦ (let e = holding_before t a lt in omega arith)
  | inr from ↦ (elim (cases_lt t (a.first + a.len)) [
    | inl lt ↦ (let e = holding_in t a (from, lt) in let f = holding_in t b (omega arith, omega arith) in omega arith)
    | inr out ↦ (let e = holding_behind t a out in omega arith)
  ])
]

-- how many of some runs hold a track
abbrev times : ℕ → List Run → ℕ
times t runs = sum_by (holding t) runs

times_cons : (t : ℕ) (run : Run) (runs : List Run) → times t (run ∷ runs) ≡ holding t run + times t runs
times_cons t run runs = sum_by-cons (holding t) run runs

-- two places of a list
pair_le : (t : ℕ) (runs : List Run) (i j : ℕ) (d : Run) → i < j → j < length runs → holding t (get_or runs i d) + holding t (get_or runs j d) ≤ times t runs
pair_le t [] i j d lt below = absurd (omega arith)
pair_le t (run ∷ runs) i zero d lt below = absurd (omega arith)
pair_le t (run ∷ runs) zero (suc j) d lt below =
    let le = get_or-le-sum_by (holding t) runs j d (omega arith) in let e = times_cons t run runs in omega arith
pair_le t (run ∷ runs) (suc i) (suc j) d lt below =
    let le = pair_le t runs i j d (omega arith) (omega arith) in let e = times_cons t run runs in omega arith

abbrev Disjoint : Run → Run → Type 0
Disjoint a b = (t : ℕ) → HasTrack a t → ¬ HasTrack b t

-- where each track is held once at most, no two runs hold one
disjoint_from_once : (runs : List Run) → ((t : ℕ) → times t runs ≤ 1) → AllPairs Disjoint runs
disjoint_from_once runs once i j d lt below t p q =
    let le = pair_le t runs i j d lt below in
    let one = once t in
    let e = holding_in t (get_or runs i d) p in
    let f = holding_in t (get_or runs j d) q in
    absurd (omega arith)

-- a part lies in its run
part_from : (step : ℕ) (run : Run) → 1 ≤ step → run.first ≤ (aligned_part step run).first
part_from step run some = (le_rounded run.first step some).0

part_to : (step : ℕ) (run : Run) → 1 ≤ (aligned_part step run).len → (aligned_part step run).first + (aligned_part step run).len ≤ run.first + run.len
part_to step run more = let last = div-mul-le_self (run.first + run.len) step in omega arith

pub parts_some : (step : ℕ) (run : Run) (runs : List Run) → 0 < (aligned_part step run).len → parts_of step (run ∷ runs) ≡ aligned_part step run ∷ parts_of step runs
parts_some step run runs lt = ap (λ (b : Bool). cond b (aligned_part step run ∷ parts_of step runs) (parts_of step runs)) (lt-ltb 0 (aligned_part step run).len lt)

pub parts_none : (step : ℕ) (run : Run) (runs : List Run) → (aligned_part step run).len ≤ 0 → parts_of step (run ∷ runs) ≡ parts_of step runs
parts_none step run runs le = ap (λ (b : Bool). cond b (aligned_part step run ∷ parts_of step runs) (parts_of step runs)) (le-ltb 0 (aligned_part step run).len le)

-- below where runs begin no part holds a track
parts_before : (from step t : ℕ) (runs : List Run) → 1 ≤ step → AreApart from runs → t < from → times t (parts_of step runs) ≡ 0
parts_before from step t [] some a lt = refl
parts_before from step t (run ∷ runs) some a lt =
    let rest = parts_before (run.first + run.len + 1) step t runs some a.2 (omega (arith, a.0)) in
    elim (cases_lt 0 (aligned_part step run).len) [
      | inl more ↦ (
          let low = part_from step run some in
          let e = holding_before t (aligned_part step run) (omega (arith, a.0)) in
          ap (times t) (parts_some step run runs more) ∙ times_cons t (aligned_part step run) (parts_of step runs) ∙ omega arith)
      | inr none ↦ ap (times t) (parts_none step run runs none) ∙ rest
    ]

-- each track is in one part at most
parts_once : (from step t : ℕ) (runs : List Run) → 1 ≤ step → AreApart from runs → times t (parts_of step runs) ≤ 1
parts_once from step t [] some a = omega arith
parts_once from step t (run ∷ runs) some a =
    let rest = parts_once (run.first + run.len + 1) step t runs some a.2 in
    elim (cases_lt 0 (aligned_part step run).len) [
      | inl more ↦ (
          let e = ap (times t) (parts_some step run runs more) ∙ times_cons t (aligned_part step run) (parts_of step runs) in
          elim (cases_lt t (run.first + run.len)) [
            | inl lt ↦ (let none = parts_before (run.first + run.len + 1) step t runs some a.2 (omega arith) in let one = holding_le t (aligned_part step run) in omega arith)
            | inr le ↦ (let high = part_to step run more in let out = holding_behind t (aligned_part step run) (omega arith) in omega arith)
          ])
      | inr none ↦ (let e = ap (times t) (parts_none step run runs none) in omega arith)
    ]

-- whole steps of tracks of some runs
record IsPart (step : ℕ) (runs : List Run) (part : Run) : Type 0 where
  some : 1 ≤ part.len
  first_whole : part.first % step ≡ 0
  len_whole : part.len % step ≡ 0
  held : (t : ℕ) → HasTrack part t → InRuns runs t

-- multiples of one step
times_whole : (q step : ℕ) → (q * step) % step ≡ 0
times_whole q step = mul-mod_left q step

less_whole : (a b step : ℕ) → a % step ≡ 0 → (a + b) % step ≡ 0 → b % step ≡ 0
less_whole a b step p q =
    let e = multiple_is a step p in
    sym (mul-add-mod_self_right (a / step) step b) ∙ ap (λ (m : ℕ). (m + b) % step) (sym e) ∙ q

more_whole : (a b step : ℕ) → a % step ≡ 0 → b % step ≡ 0 → (a + b) % step ≡ 0
more_whole a b step p q =
    let e = multiple_is a step p in
    ap (λ (m : ℕ). (m + b) % step) e ∙ mul-add-mod_self_right (a / step) step b ∙ q

part_is : (step : ℕ) (run : Run) (runs : List Run) → 1 ≤ step → 0 < (aligned_part step run).len → ((t : ℕ) → HasTrack run t → InRuns runs t) → IsPart step runs (aligned_part step run)
part_is step run runs some more h =
    let low = part_from step run some in
    let high = part_to step run more in
    let first = rounded_multiple run.first step some in
    let end = (run.first + run.len) / step * step in
    let sum : rounded run.first step + (aligned_part step run).len ≡ end = omega arith in
    record {
      some = omega arith;
      first_whole = first;
      len_whole = less_whole (rounded run.first step) (aligned_part step run).len step first (ap (λ (m : ℕ). m % step) sum ∙ times_whole ((run.first + run.len) / step) step);
      held = λ t p. h t (omega (arith, p.0), omega (arith, p.1));
    }

parts_all : (step : ℕ) (all runs : List Run) → 1 ≤ step → ((t : ℕ) → InRuns runs t → InRuns all t) → AllByRecursion (IsPart step all) (parts_of step runs)
parts_all step all [] some h = tt
parts_all step all (run ∷ runs) some h =
    let P : List Run → Type 0 = λ parts. AllByRecursion (IsPart step all) parts in
    let rest = parts_all step all runs some (λ t i. h t (inr i)) in
    elim (cases_lt 0 (aligned_part step run).len) [
      | inl more ↦ subst P (sym (parts_some step run runs more)) (part_is step run all some more (λ t p. h t (inl p)), rest)
      | inr none ↦ subst P (sym (parts_none step run runs none)) rest
    ]

-- a front, its last run and what is cut of it
split_front : (P : Run → Type 0) (xs : List Run) (last : Run) (rest : List Run) → AllByRecursion P (xs ++ (last ∷ rest)) → AllByRecursion P xs × P last
split_front P [] last rest h = (tt, h.0)
split_front P (x ∷ xs) last rest h = let q = split_front P xs last rest h.1 in ((h.0, q.0), q.1)

join_front : (P : Run → Type 0) (xs : List Run) (last : Run) → AllByRecursion P xs → P last → AllByRecursion P (xs ++ (last ∷ []))
join_front P [] last h p = (p, tt)
join_front P (x ∷ xs) last h p = (h.0, join_front P xs last h.1 p)

count_whole : (step : ℕ) (all runs : List Run) → 1 ≤ step → AllByRecursion (IsPart step all) runs → count_of runs % step ≡ 0
count_whole step all [] some h = omega arith
count_whole step all (run ∷ runs) some h =
    let one = h.0 in
    ap (λ (m : ℕ). m % step) (sum_by-cons (λ (r : Run). r.len) run runs) ∙ more_whole run.len (count_of runs) step one.len_whole (count_whole step all runs some h.1)

in_parts : (step : ℕ) (all runs : List Run) (t : ℕ) → AllByRecursion (IsPart step all) runs → InRuns runs t → InRuns all t
in_parts step all [] t h i = absurd i
in_parts step all (run ∷ runs) t h (inl p) = let one = h.0 in one.held t p
in_parts step all (run ∷ runs) t h (inr q) = in_parts step all runs t h.1 q

whole_steps : (step : ℕ) (all runs : List Run) → AllByRecursion (IsPart step all) runs → AllByRecursion (λ run. (1 ≤ run.len) × (run.first % step ≡ 0) × (run.len % step ≡ 0)) runs
whole_steps step all [] h = tt
whole_steps step all (run ∷ runs) h = let one = h.0 in ((one.some, one.first_whole, one.len_whole), whole_steps step all runs h.1)

places_of_parts : (runs chosen : List Run) (need step : ℕ) → AllByRecursion (IsPart step runs) chosen → ((t : ℕ) → times t chosen ≤ 1) → count_of chosen ≡ rounded need step → length chosen ≤ 16
    → ArePlaces (InRuns runs) need step chosen
places_of_parts runs chosen need step parts once count few =
    record {
      whole_steps = All-from_recursion (λ (run : Run). (1 ≤ run.len) × (run.first % step ≡ 0) × (run.len % step ≡ 0)) chosen (whole_steps step runs chosen parts);
      held = λ t i. in_parts step runs chosen t parts i;
      disjoint = disjoint_from_once chosen once;
      count_is = count;
      few = few;
    }

longest_places : (runs chosen : List Run) (need step : ℕ) → AreApart 0 runs → 1 ≤ step → IsInLongest runs need step chosen → ArePlaces (InRuns runs) need step chosen
longest_places runs chosen need step a some h =
    let cut = h.cut in
    let order = h.order in
    let front = take 16 h.sorted in
    let kept : Run = record { first = cut.last.first; len = cut.kept } in
    let Part : Run → Type 0 = IsPart step runs in
    let P : List Run → Type 0 = λ list. AllByRecursion Part list in
    let parts = parts_all step runs runs some (λ t i. i) in
    let sorted_parts = All-permutation Part (parts_of step runs) h.sorted order.same (All-from_recursion Part (parts_of step runs) parts) in
    let front_parts = recursion_from_All Part front (All-take Part 16 h.sorted sorted_parts) in
    let split = split_front Part cut.whole cut.last cut.rest (subst P cut.runs_are front_parts) in
    let last = split.1 in
    let kept_whole = less_whole (count_of cut.whole) cut.kept step (count_whole step runs cut.whole some split.0) (ap (λ (m : ℕ). m % step) cut.count_is ∙ rounded_multiple need step some) in
    let kept_part : Part kept = record { some = cut.some_kept; first_whole = last.first_whole; len_whole = kept_whole; held = λ t p. last.held t (p.0, omega (arith, p.1, cut.kept_within)) } in
    let chosen_parts = subst P (sym cut.chosen_are) (join_front Part cut.whole kept split.0 kept_part) in
    let Len : Run → ℕ = λ run. run.len in
    let count = ap count_of cut.chosen_are ∙ sum_by-append Len cut.whole (kept ∷ []) in
    let front_len = ap length cut.runs_are ∙ length-append cut.whole (cut.last ∷ cut.rest) in
    let chosen_len = ap length cut.chosen_are ∙ length-append cut.whole (kept ∷ []) in
    let most = length-take 16 h.sorted in
    places_of_parts runs chosen need step chosen_parts
    (λ t.
    let once = parts_once 0 step t runs some a in
    let same = sum_by-IsPermutation (holding t) (parts_of step runs) h.sorted order.same in
    let part = sum_by-take-le (holding t) h.sorted 16 in
    let around = ap (times t) cut.runs_are ∙ sum_by-append (holding t) cut.whole (cut.last ∷ cut.rest) in
    let behind = times_cons t cut.last cut.rest in
    let mine = ap (times t) cut.chosen_are ∙ sum_by-append (holding t) cut.whole (kept ∷ []) in
    let one = times_cons t kept [] in
    let less = holding_within t kept cut.last (omega arith) (omega (arith, cut.kept_within)) in
    omega (arith, once, same, part, around, behind, mine, one, less))
    (omega (arith, count, sum_by-cons Len kept [], cut.count_is)) (omega (arith, front_len, chosen_len, most))

one_places : (runs chosen : List Run) (need step : ℕ) → 1 ≤ step → IsInOneRun runs need step chosen → ArePlaces (InRuns runs) need step chosen
one_places runs chosen need step some h =
    let one : Run = record { first = h.start; len = rounded need step } in
    let place = h.lowest.place in
    let near = le_rounded need step some in
    let part : IsPart step runs one = record {
      some = omega (arith, near.0, h.some_need);
      first_whole = place.aligned;
      len_whole = rounded_multiple need step some;
      held = λ t p. place.held t p.0 p.1;
    } in
    let P : List Run → Type 0 = λ list. ArePlaces (InRuns runs) need step list in
    subst P (sym h.one)
    (places_of_parts runs (one ∷ []) need step (part, tt) (λ t. let e = times_cons t one [] in let le = holding_le t one in omega arith)
    (let e = sum_by-cons (λ (r : Run). r.len) one [] in omega arith) (omega arith))

no_places : (runs chosen : List Run) (need step : ℕ) → 1 ≤ step → IsForNothing need chosen → ArePlaces (InRuns runs) need step chosen
no_places runs chosen need step some h =
    let P : List Run → Type 0 = λ list. ArePlaces (InRuns runs) need step list in
    let Q : ℕ → Type 0 = λ n. rounded n step ≤ 0 in
    let zero_whole : 0 % step ≡ 0 = omega arith in
    let none : rounded need step ≤ 0 = subst Q (sym h.no_need) (rounded_le 0 0 step some zero_whole (omega arith)) in
    subst P (sym h.none) (places_of_parts runs [] need step tt (λ t. omega arith) (omega arith) (omega arith))

-- What is chosen is places.
pub chosen_places : (runs chosen : List Run) (need step : ℕ) → AreApart 0 runs → 1 ≤ step → AreChosen runs need step chosen → ArePlaces (InRuns runs) need step chosen
chosen_places runs chosen need step a some (inl h) = no_places runs chosen need step some h
chosen_places runs chosen need step a some (inr (inl h)) = one_places runs chosen need step some h
chosen_places runs chosen need step a some (inr (inr h)) = longest_places runs chosen need step a some h
