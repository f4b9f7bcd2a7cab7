use Rattle.std.proofs.Common.{rules, length, refl}
use Rattle.ckd_image.specs.Bytes.{Begins}
use Rattle.dump_read.proofs.Words.{fixed_cut, fixed_wrong}
use Rattle.dump_read.proofs.ending.count_stop.Goals as goal

pub returns-then-begins : goal.returns-then-begins
returns-then-begins c =
    let front : Begins c.args.bytes.now c.args.right.now = search rules in
    (fixed_cut c.args.right.now c.args.bytes.now c.requires front, front)

pub returns : goal.returns
returns c =
    let none : ¬ Begins c.args.bytes.now c.args.right.now = search rules in
    (refl, fixed_wrong c.args.right.now c.args.bytes.now (length c.args.right.now) refl c.requires none)
