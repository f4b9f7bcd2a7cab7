use Rattle.std.proofs.Common.{ℕ, List, map, ap, ◌∙◌, subst}
use Rattle.std.specs.List.Sorted.{IsPermutation}
use Rattle.std.proofs.lemmas.Result.{IfOk-weaker}
use Rattle.vtoc_core.specs.Loaded.{row_in}
use Rattle.vtoc_load.specs.LoadedVtoc.{row_with}
use Rattle.vtoc_load.proofs.SortedRows.{sets_among, sorted_rows}
use Rattle.vtoc_load.proofs.rows.rows_in_order.Goals as goal

pub returns-clause-order : goal.returns-clause-order
returns-clause-order c =
    let heads = c.args.directory.now.heads in
    let all = c.args.directory.now.records.items in
    let sorted = c.sort_by_name.new.sets.items in
    let P : List (List ℕ) → Type 0 = λ sets. IsPermutation sets sorted in
    IfOk-weaker c.rows_of.result _ _
    (λ rows e. sorted_rows heads all sorted (map row_in rows) (subst P (c.in_ok-sets.ensures ∙ ap sets_among c.records.ensures) c.sort_by_name.ensures.same) c.sort_by_name.ensures.order
    (e ∙ ap (λ (sets : List (List ℕ)). map (row_with heads all) sets) c.deref.ensures.value))
    c.rows_of.ensures.rows
