-- Sums over runs.
use Rattle.std.proofs.Common.{◌≡◌, ℕ, ◌+◌, ◌-◌, ◌*◌, ◌/◌, ◌<◌, ◌≤◌, max, List, [], ◌∷◌, length, get_or, drop, All, ap, arith}
use Rattle.std.proofs.lemmas.List.{drop_more, drop_all}
use Rattle.std.proofs.lemmas.List.Elements.{recursion_from_All}
use Rattle.std.proofs.lemmas.List.Sums.{sum_by-cons}
use Rattle.std.proofs.Math.Nat.{div-le_of_le-mul}
use Rattle.free_map.specs.declared.run.Run.{Run}
use Rattle.free_map.specs.Runs.{AreApart}
use Rattle.free_map.specs.Free.{count_of, longest_of}
use Rattle.free_map.proofs.Gaps.{EndBy}

-- Runs that are apart have no more tracks than lie between where they begin and end.
count_below : (from top : ℕ) (runs : List Run) → AreApart from runs → EndBy top runs → count_of runs ≤ top - from
count_below from top [] a e = omega arith
count_below from top (run ∷ runs) a e =
    let rest = count_below (run.first + run.len + 1) top runs a.2 e.1 in
    let sum = sum_by-cons (λ (r : Run). r.len) run runs in
    omega (arith, rest, sum, a.0, a.1, e.0)

pub count_le : (top : ℕ) (runs : List Run) → AreApart 0 runs → All (λ run. run.first + run.len ≤ top) runs → count_of runs ≤ top
count_le top runs a within =
    let le = count_below 0 top runs a (recursion_from_All (λ (run : Run). run.first + run.len ≤ top) runs within) in
    omega (arith, le)

pub longest_le : (runs : List Run) → longest_of runs ≤ count_of runs
longest_le [] = omega arith
longest_le (run ∷ runs) =
    let le = longest_le runs in
    let sum = sum_by-cons (λ (r : Run). r.len) run runs in
    omega arith

pub index_le : (longest count : ℕ) → longest ≤ count → 1000 * longest / count ≤ 1000
index_le longest count le = div-le_of_le-mul count (omega arith)

-- a loop's step, and its end
pub longest_more : (runs : List Run) (i so_far : ℕ) (d : Run) → i < length runs → max so_far (longest_of (drop i runs)) ≡ longest_of runs
    → max (max (get_or runs i d).len so_far) (longest_of (drop (i + 1) runs)) ≡ longest_of runs
longest_more runs i so_far d lt before =
    let step : longest_of (drop i runs) ≡ max (get_or runs i d).len (longest_of (drop (i + 1) runs)) = ap longest_of (drop_more runs i d lt) in
    omega arith

pub longest_all : (runs : List Run) (i so_far : ℕ) → length runs ≤ i → max so_far (longest_of (drop i runs)) ≡ longest_of runs → so_far ≡ longest_of runs
longest_all runs i so_far le before =
    let none : longest_of (drop i runs) ≡ 0 = ap longest_of (drop_all i runs le) in
    omega arith
