use Rattle.std.proofs.Common.{All, take}
use Rattle.run_words.specs.Words.{IsValue}
use Rattle.run_words.proofs.given.are_values.Given as goal

abbrev pub invariant-loop-given : goal.invariant-loop-given
invariant-loop-given l = All (λ given. IsValue given.value) (take l.given-index l.options)
