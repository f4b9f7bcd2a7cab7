use Rattle.std.proofs.Common.{rules, refl}
use Rattle.ckd_image.specs.Bytes.{Begins}
use Rattle.dump_read.proofs.Slots.{number_wrong}
use Rattle.dump_read.proofs.slot.track_in.Goals as goal

pub returns-clause-stops : goal.returns-clause-stops
returns-clause-stops c =
    let no : ¬ Begins c.args.text.now c.number_text-right.result = search rules in
    (refl, number_wrong c.args.number c.args.text.now c.number_text-right.result c.number_text-right.ensures c.in_default.ensures.none no)
