use Rattle.std.proofs.Common.{rules, ◌≡◌, ◌≤◌, length, refl}
use Rattle.vol_label.specs.Serial.{IsSerial}
use Rattle.dump_read.proofs.Serials.{serial_none, serial_cut_wrong}
use Rattle.dump_read.proofs.fields.cut_serial.Goals as goal

pub returns-then-is_empty : goal.returns-then-is_empty
returns-then-is_empty c = let none : length c.args.bytes.now ≡ 0 = search rules in (c.requires, serial_none c.args.bytes.now none)

pub returns : goal.returns
returns c =
    let some : 1 ≤ length c.args.bytes.now = search rules in
    let none : ¬ IsSerial c.filled_up.result = search rules in
    (refl, serial_cut_wrong c.args.bytes.now c.filled_up.result some c.requires c.filled_up.ensures none)
