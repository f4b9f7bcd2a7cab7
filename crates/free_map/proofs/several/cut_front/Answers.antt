use Rattle.std.proofs.Common.{◌+◌, ◌++◌, [], ◌∷◌, List, get_or, take, drop, ap, ◌∙◌, arith}
use Rattle.free_map.specs.declared.run.Run.{Run}
use Rattle.free_map.proofs.Takes.{split_at}
use Rattle.free_map.proofs.several.cut_front.Goals as goal

pub returns-then-left-len-clause-cut : goal.returns-then-left-len-clause-cut
returns-then-left-len-clause-cut c =
    let runs = c.args.runs.now in
    let i = c.loop-run.run-index in
    let zero : Run = record { first = 0; len = 0 } in
    let last = get_or runs i zero in
    let cut : Run = record { first = last.first; len = c.loop-run.left } in
    record {
      whole = take i runs;
      last = last;
      rest = drop (i + 1) runs;
      kept = c.loop-run.left;
      runs_are = split_at runs i zero c.loop-run-test.true;
      chosen_are = c.in_ok-push.ensures.items ∙ ap (λ (front : List Run). front ++ (cut ∷ [])) c.loop-run.invariant.0;
      count_is = c.loop-run.invariant.1;
      some_kept = c.loop-run.invariant.2;
      kept_within = omega arith;
    }
