use Rattle.std.proofs.Common.{◌≡◌, take, []}
use Rattle.run_words.specs.Words.{values_of}
use Rattle.run_words.proofs.values.is_missing.Given as goal

abbrev pub invariant-loop-option : goal.invariant-loop-option
invariant-loop-option l = values_of l.name (take l.option-index l.options) ≡ []
