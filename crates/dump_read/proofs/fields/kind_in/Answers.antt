use Rattle.std.proofs.Common.{rules, ◌<◌, length}
use Rattle.dump_read.proofs.Words.{kind_cut}
use Rattle.dump_read.proofs.fields.kind_in.Goals as goal

pub returns-in_default-clause-stops : goal.returns-in_default-clause-stops
returns-in_default-clause-stops c = let short : length c.args.bytes.now < 1 = search rules in (short, kind_cut c.args.bytes.now short)
