use Rattle.std.proofs.Common.{take}
use Rattle.run_words.specs.Words.{AreMissing}
use Rattle.run_words.proofs.run.are_missing.Given as goal

abbrev pub invariant-loop-name : goal.invariant-loop-name
invariant-loop-name l = AreMissing (take l.name-index l.wanted) l.options
