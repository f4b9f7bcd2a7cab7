use Rattle.std.proofs.Common.{rules, ◌<◌, length, arith}
use Rattle.dump_read.proofs.PartFields.{byte_cut}
use Rattle.dump_read.proofs.part.byte_in.Goals as goal

pub returns-in_default-clause-stops : goal.returns-in_default-clause-stops
returns-in_default-clause-stops c =
    let short : length c.args.bytes.now < 1 = search rules in
    (omega (arith, c.requires, short), byte_cut c.args.right c.args.bytes.now short)
