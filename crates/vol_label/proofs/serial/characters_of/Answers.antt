use Rattle.std.proofs.Common.{below_more, refl}
use Rattle.vol_label.proofs.serial.characters_of.Goals as goal

pub loop-place-preserved : goal.loop-place-preserved
loop-place-preserved c = below_more _ _ c.loop-place.invariant (c.if-not-is_serial_byte.ensures.0 refl)
