use Rattle.std.proofs.Common.{rules, ◌<◌, length}
use Rattle.dump_read.proofs.Words.{device_cut}
use Rattle.dump_read.proofs.fields.device_in.Goals as goal

pub returns-in_default-clause-stops : goal.returns-in_default-clause-stops
returns-in_default-clause-stops c = let short : length c.args.bytes.now < 1 = search rules in (short, device_cut c.args.bytes.now short)
