use Rattle.std.proofs.Common.{◌≡◌, drop}
use Rattle.redo_core.specs.Format.{serials_in}
use Rattle.redo_core.proofs.survey.serials_of.Given as goal

abbrev pub invariant-loop-k : goal.invariant-loop-k
invariant-loop-k l = l.found.items ≡ serials_in l.k (drop 16 l.block)
