use Rattle.std.proofs.Common.{take}
use Rattle.std.specs.List.{AllZip}
use Rattle.run_words.specs.Words.{IsDd}
use Rattle.run_words.proofs.files.dds_named.Given as goal

abbrev pub invariant-loop-value : goal.invariant-loop-value
invariant-loop-value l = AllZip IsDd (take l.value-index l.values) l.dds
