use Rattle.dump_parts.proofs.Fronts.{fronts_are}
use Rattle.dump_parts.proofs.laws.part_laws.Goals as goal

pub returns : goal.returns
returns c = fronts_are c.dump_laws.ensures.header
