use Rattle.std.proofs.Common.{◌+◌, ◌<◌, ◌≤◌, List, All, subst, sym, rules}
use Rattle.std.specs.List.Sorted.{IsNonDecreasingBy, IsPermutation}
use Rattle.std.proofs.lemmas.List.Sorted.{All-permutation, IsNonDecreasingBy-from_sort_by_key}
use Rattle.free_map.specs.declared.run.Run.{Run}
use Rattle.std.proofs.lemmas.Result.{IfOk-weaker}
use Rattle.free_map.specs.Runs.{AreMaximalRuns, InRuns}
use Rattle.free_map.proofs.Gaps.{maximal_permutation}
use Rattle.free_map.proofs.unused.unused_runs.Goals as goal

pub gaps-requires-clause-within : goal.gaps-requires-clause-within
gaps-requires-clause-within c =
    let Ends : Run → Type 0 = λ run. run.first + run.len ≤ c.args.usable in
    let P : List Run → Type 0 = λ runs. All Ends runs in
    subst P (sym c.as_slice.ensures.value)
    (All-permutation Ends _ _ c.sort_unstable_by_key.ensures.permutation (subst P (sym c.in_ok-used.ensures.items) c.requires.within))

pub gaps-requires-clause-ascending : goal.gaps-requires-clause-ascending
gaps-requires-clause-ascending c =
    let P : List Run → Type 0 = λ runs. IsNonDecreasingBy (λ run. run.first) runs in
    subst P (sym c.as_slice.ensures.value)
    (IsNonDecreasingBy-from_sort_by_key (λ run. run.first) _ c.sort_unstable_by_key.ensures.sorted (λ a r q k. search rules))

pub returns-clause-maximal : goal.returns-clause-maximal
returns-clause-maximal c =
    let used = c.args.used.now in
    let sorted = c.as_slice.result.now in
    let moved : IsPermutation used sorted =
    (let P : List Run → Type 0 = λ runs. IsPermutation used runs in
    let Q : List Run → Type 0 = λ runs. IsPermutation runs c.sort_unstable_by_key.new.self.items in
    subst P (sym c.as_slice.ensures.value) (subst Q c.in_ok-used.ensures.items c.sort_unstable_by_key.ensures.permutation)) in
    IfOk-weaker c.gaps.result
    (λ runs. AreMaximalRuns (λ track. (track < c.args.usable) × ¬ InRuns sorted track) runs.items)
    (λ runs. AreMaximalRuns (λ track. (track < c.args.usable) × ¬ InRuns used track) runs.items)
    (λ runs m. maximal_permutation c.args.usable used sorted runs.items moved m) c.gaps.ensures.maximal
