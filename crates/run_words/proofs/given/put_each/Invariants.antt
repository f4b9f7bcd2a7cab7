use Rattle.std.proofs.Common.{◌≡◌, ◌++◌, map, take}
use Rattle.run_words.specs.Grammar.{given_each}
use Rattle.run_words.proofs.given.put_each.Given as goal

abbrev pub invariant-loop-value : goal.invariant-loop-value
invariant-loop-value l = l.options ≡ l.initial.options ++ given_each l.name (map (λ value. value.now) (take l.value-index l.values))
