use Rattle.std.proofs.Common.{take}
use Rattle.std.specs.Prelude.{All}
use Rattle.vol_label.specs.Serial.{IsSerial}
use Rattle.redo_core.proofs.survey.are_serials.Given as goal

abbrev pub invariant-loop-name : goal.invariant-loop-name
invariant-loop-name l = All (λ name. IsSerial name.text) (take l.name-index l.names)
