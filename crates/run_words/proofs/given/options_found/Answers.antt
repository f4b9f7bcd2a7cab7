use Rattle.std.proofs.Common.{List, ◌++◌, get_or, sym, ap, ◌∙◌}
use Rattle.clap.specs.Words.{found_of, rows_of}
use Rattle.run_words.specs.Grammar.{all_names, given_each, values_in}
use Rattle.run_words.specs.declared.name.Name.TheVariants as names
use Rattle.run_words.specs.declared.given.Given.{Given}
use Rattle.run_words.proofs.Same.{name_more}
use Rattle.run_words.proofs.given.options_found.Goals as goal

pub loop-name-preserved : goal.loop-name-preserved
loop-name-preserved c =
    let rows = rows_of (found_of c.args.matches.now) in
    let name = get_or all_names c.loop-name.name-index names.Unit in
    c.in_ok-put_found.ensures ∙ ap (λ (options : List Given). options ++ given_each name (values_in rows name)) c.loop-name.invariant
    ∙ sym (name_more rows all_names c.loop-name.name-index names.Unit c.loop-name-test.true)
