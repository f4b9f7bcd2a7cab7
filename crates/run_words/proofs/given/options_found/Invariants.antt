use Rattle.std.proofs.Common.{◌≡◌, flat_map, take}
use Rattle.clap.specs.Words.{found_of, rows_of}
use Rattle.run_words.specs.Grammar.{all_names, given_each, values_in}
use Rattle.run_words.proofs.given.options_found.Given as goal

abbrev pub invariant-loop-name : goal.invariant-loop-name
invariant-loop-name l = l.options ≡ flat_map (λ name. given_each name (values_in (rows_of (found_of l.matches)) name)) (take l.name-index all_names)
