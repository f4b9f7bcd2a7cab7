use Rattle.std.proofs.Common.{◌≢◌, take, All}
use Rattle.run_words.proofs.files.lacks_serial.Given as goal

abbrev pub invariant-loop-unit : goal.invariant-loop-unit
invariant-loop-unit l = All (λ unit. unit.0 ≢ l.serial) (take l.unit-index l.units)
