use Rattle.std.proofs.Common.{◌≡◌, drop}
use Rattle.redo_core.specs.Format.{targets_in}
use Rattle.redo_core.proofs.survey.targets_of.Given as goal

abbrev pub invariant-loop-k : goal.invariant-loop-k
invariant-loop-k l = l.found.items ≡ targets_in l.k (drop 4 l.block)
