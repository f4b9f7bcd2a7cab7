use Rattle.dscb_rec.proofs.Filled.{fills_140}
use Rattle.dscb_rec.proofs.dscb.read_dscb.Goals as goal

pub returns-in-None-clause-kept : goal.returns-in-None-clause-kept
returns-in-None-clause-kept c = fills_140 0 c.args.bytes.now c.told-bytes c.in-None.ensures.none
