use Rattle.std.proofs.Common.{refl, arith}
use Rattle.dump_read.proofs.Words.{day_cut}
use Rattle.dump_read.proofs.fields.day_in.Goals as goal

pub returns-in_default-clause-stops : goal.returns-in_default-clause-stops
returns-in_default-clause-stops c = (refl, c.in_default.ensures.short, day_cut c.args.bytes.now c.in_default.ensures.short (λ k. omega (arith, c.type_inv.bytes k)))
