use Rattle.std.proofs.Common.{◌≡◌, take}
use Rattle.run_words.specs.Words.{values_of}
use Rattle.run_words.proofs.values.values_of.Given as goal

abbrev pub invariant-loop-option : goal.invariant-loop-option
invariant-loop-option l = l.values ≡ values_of l.name (take l.option-index l.options)
