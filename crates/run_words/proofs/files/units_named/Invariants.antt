use Rattle.std.proofs.Common.{take}
use Rattle.std.specs.List.{AllZip}
use Rattle.run_words.specs.Words.{IsUnit}
use Rattle.run_words.proofs.files.units_named.Given as goal

abbrev pub invariant-loop-value : goal.invariant-loop-value
invariant-loop-value l = AllZip IsUnit (take l.value-index l.values) l.units
