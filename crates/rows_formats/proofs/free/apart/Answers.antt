use Rattle.std.proofs.Common.{ℕ, ◌+◌, ◌<◌, ◌≤◌, ◌⊎◌, List, [], ◌∷◌, length, get_or, take, inl, inr, subst, sym, arith}
use Rattle.std.proofs.lemmas.List.{take_more, take_all}
use Rattle.free_map.specs.declared.run.Run.{Run}
use Rattle.free_map.specs.Runs.{HasTrack, InRuns}
use Rattle.free_map.proofs.Gaps.{in_append}
use Rattle.rows_formats.proofs.free.apart.Goals as goal
use Rattle.rows_formats.proofs.free.apart.Goals.{else-free-end-via-then-free-end+else-run-end, else-free-end-via-else-free-end}

-- one run more that has no track of another
one_more : (runs : List Run) (i : ℕ) (d run : Run) → i < length runs → ((t : ℕ) → HasTrack run t → ¬ InRuns (take i runs) t)
    → (run.first + run.len ≤ (get_or runs i d).first) ⊎ ((get_or runs i d).first + (get_or runs i d).len ≤ run.first)
    → (t : ℕ) → HasTrack run t → ¬ InRuns (take (i + 1) runs) t
one_more runs i d run lt before far t h in_more =
    let In : List Run → Type 0 = λ some. InRuns some t in
    elim (in_append (take i runs) (get_or runs i d ∷ []) t (subst In (take_more runs i d lt) in_more)) [
      | inl p ↦ before t h p
      | inr p ↦ (elim p [
        | inl q ↦ (elim far [ inl le ↦ omega (arith, h.1, q.0, le) | inr le ↦ omega (arith, h.0, q.1, le) ])
        | inr q ↦ q
      ])
    ]

pub loop-free-preserved : goal.loop-free-preserved
loop-free-preserved c =
    let zero : Run = record { first = 0; len = 0 } in
    let free = get_or c.args.runs.now c.loop-free.free-index zero in
    let far : (c.args.run.first + c.args.run.len ≤ free.first) ⊎ (free.first + free.len ≤ c.args.run.first) =
    elim c.else-free-end.branch [
      | else-free-end-via-then-free-end+else-run-end w ↦ inr (omega (arith, w.end-then-free-end.ensures, w.if-run-end.false))
      | else-free-end-via-else-free-end w ↦ inl (omega (arith, c.end.ensures, w.if-free-end.false))
    ] in
    one_more c.args.runs.now c.loop-free.free-index zero c.args.run c.loop-free-test.true c.loop-free.invariant far

pub returns : goal.returns
returns c = λ _ t h i.
    let In : List Run → Type 0 = λ some. InRuns some t in
    c.loop-free.invariant t h (subst In (sym (take_all c.loop-free.free-index c.args.runs.now c.loop-free-test.false)) i)
