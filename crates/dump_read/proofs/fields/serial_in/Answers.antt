use Rattle.std.proofs.Common.{rules, refl}
use Rattle.vol_label.specs.Serial.{IsSerial}
use Rattle.dump_read.proofs.Serials.{serial_wrong}
use Rattle.dump_read.proofs.fields.serial_in.Goals as goal

pub returns-then-not-is_serial-clause-stops : goal.returns-then-not-is_serial-clause-stops
returns-then-not-is_serial-clause-stops c =
    let none : ¬ IsSerial c.six-text.result = search rules in
    (refl, serial_wrong c.args.bytes.now c.in-Some.front.now c.in-Some.rest.now c.six-text.result c.in-Some.ensures.found.0 c.in-Some.ensures.found.1 c.six-text.ensures none)
