use Rattle.std.proofs.Common.{rules, refl}
use Rattle.ckd_image.specs.Bytes.{Begins}
use Rattle.dump_read.specs.Header.{length_of}
use Rattle.dump_read.proofs.Words.{fixed_wrong}
use Rattle.dump_read.proofs.fields.fixed_in.Goals as goal

pub returns-clause-stops : goal.returns-clause-stops
returns-clause-stops c =
    let no : ¬ Begins c.args.bytes.now c.args.right.now = search rules in
    (refl, fixed_wrong c.args.right.now c.args.bytes.now (length_of c.args.field) c.requires c.in_default.ensures.none no)
