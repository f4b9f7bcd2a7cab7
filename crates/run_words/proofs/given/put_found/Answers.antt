use Rattle.std.proofs.Common.{◌≡◌, ℕ, List, [], ◌++◌, map, sym, ap, ◌∙◌, append-nil}
use Rattle.std.specs.Prelude.{unwrap_or}
use Rattle.std.proofs.lemmas.Result.{IfOk-weaker}
use Rattle.clap.specs.Words.{found_of, rows_of, all_of}
use Rattle.clap.proofs.WalkLemmas.{raw_values-rows}
use Rattle.run_words.specs.Grammar.{given_each, values_in}
use Rattle.run_words.proofs.given.put_found.Goals as goal

pub returns-in-Some : goal.returns-in-Some
returns-in-Some c =
    let found = found_of c.args.matches.now in
    let are : map (λ value. value.now) c.in-Some.values.now ≡ values_in (rows_of found) c.args.name =
    ap (λ o. unwrap_or o []) (c.in-Some.ensures ∙ raw_values-rows found c.bare.result.now) ∙ ap (λ id. unwrap_or (all_of id (rows_of found)) []) c.bare.ensures in
    IfOk-weaker c.put_each.result _ _ (λ x put. put ∙ ap (λ (values : List (List ℕ)). c.args.options.now ++ given_each c.args.name values) are) c.put_each.ensures

pub returns-in-None : goal.returns-in-None
returns-in-None c =
    let found = found_of c.args.matches.now in
    let are : [] ≡ values_in (rows_of found) c.args.name =
    ap (λ o. unwrap_or o []) (c.in-None.ensures ∙ raw_values-rows found c.bare.result.now) ∙ ap (λ id. unwrap_or (all_of id (rows_of found)) []) c.bare.ensures in
    sym (append-nil c.args.options.now) ∙ ap (λ (values : List (List ℕ)). c.args.options.now ++ given_each c.args.name values) are
