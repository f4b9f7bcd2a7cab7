use Rattle.std.proofs.Common.{List, refl, subst}
use Rattle.std.specs.Prelude.{All}
use Rattle.std.proofs.lemmas.List.{take_all}
use Rattle.std.proofs.lemmas.List.Elements.{All-more}
use Rattle.vol_label.specs.declared.serial.Serial.{Serial}
use Rattle.vol_label.specs.Serial.{IsSerial}
use Rattle.redo_core.proofs.survey.are_serials.Goals as goal

pub loop-name-preserved : goal.loop-name-preserved
loop-name-preserved c = All-more (λ name. IsSerial name.text) c.args.names.now c.loop-name.name-index _ c.loop-name-test.true c.loop-name.invariant (c.if-not-is_serial.ensures.0 refl)

pub returns : goal.returns
returns c = (
  λ so. subst (λ (l : List Serial). All (λ name. IsSerial name.text) l) (take_all c.loop-name.name-index c.args.names.now c.loop-name-test.false) c.loop-name.invariant,
  λ all. refl,
)
