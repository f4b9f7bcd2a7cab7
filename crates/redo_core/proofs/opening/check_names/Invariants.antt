use Rattle.std.proofs.Common.{◌≡◌, take}
use Rattle.redo_core.proofs.opening.check_names.Given as goal

abbrev pub invariant-loop-unit : goal.invariant-loop-unit
invariant-loop-unit l = take l.unit l.names ≡ take l.unit l.registered
